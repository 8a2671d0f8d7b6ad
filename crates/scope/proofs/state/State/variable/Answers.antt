-- Found or not.
use Rattle.std.proofs.Common.{rules, ap, ◌∙◌}
use Rattle.draft.specs.Items.{text_of, ident}
use Rattle.scope.specs.Searches.{known_among}
use Rattle.scope.specs.Words.{bytes}
use Rattle.scope.proofs.Scopes.{variable-typed}
use Rattle.scope.proofs.state.State.variable.Goals as goal

pub returns-in_err-variable : goal.returns-in_err-variable
returns-in_err-variable c =
    let text = text_of c.args.table.now in
    let h = variable-typed c.args.table.now c.args.self.now c.args.name c.found.result (c.found.ensures ∙ ap (known_among (λ v. bytes text v.name) (ident text c.args.name)) c.as_slice.ensures.value) in
    search (h, rules)

pub returns : goal.returns
returns c =
    let text = text_of c.args.table.now in
    let h = variable-typed c.args.table.now c.args.self.now c.args.name c.found.result (c.found.ensures ∙ ap (known_among (λ v. bytes text v.name) (ident text c.args.name)) c.as_slice.ensures.value) in
    search (h, rules)
