-- The index among the entries is the index among the variables that they stand for.
use Rattle.std.proofs.Common.{sym, ap, ◌∙◌}
use Rattle.draft.specs.Items.{text_of}
use Rattle.scope.specs.Words.{bytes}
use Rattle.scope.specs.Entries.{variable_of}
use Rattle.program.specs.Compiled.{index}
use Rattle.resolving.proofs.Indices.{index-map}
use Rattle.resolving.proofs.names.Names.variable.Goals as goal

pub returns : goal.returns
returns c =
    let t = c.args.self.now.table.now in
    let text = text_of t in
    c.index_of.ensures ∙ ap (λ n. index (λ v. bytes text v.name) n c.as_slice.result.now) c.bytes_of.ensures ∙ ap (index (λ v. bytes text v.name) (bytes text c.args.name)) c.as_slice.ensures.value ∙
    sym (index-map (variable_of t) (λ v. v.name) (bytes text c.args.name) c.args.self.now.state.variables.items)
