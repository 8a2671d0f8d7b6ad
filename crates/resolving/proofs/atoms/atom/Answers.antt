-- A variable in scope.
use Rattle.std.proofs.Common.{◌+◌, drop, sym, ◌∙◌}
use Rattle.draft.specs.Items.{items}
use Rattle.resolving.proofs.Fronts.{front_kept}
use Rattle.resolving.proofs.Variables.{variable-atom}
use Rattle.resolving.proofs.atoms.atom.Goals as goal

pub returns-in-Some-Variable : goal.returns-in-Some-Variable
returns-in-Some-Variable c Γ a T after s e k =
    let t = c.args.names.now.table.now in
    let there = sym (front_kept t c.args.position _ _ c.in-Some-Variable.field-0-is c.in-Some-Variable.ensures.1) ∙ e in
    variable-atom t c.args.names.now.state Γ a T after (drop (c.args.position + 1) (items t)) c.in-Some-Variable.name c.variable-slot.result c.sort_in.result s c.variable-slot.ensures c.sort_in.ensures there k
