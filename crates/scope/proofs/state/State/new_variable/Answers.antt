-- A variable is new where its name is new among the entries.
use Rattle.std.proofs.Common.{◌∙◌, ap}
use Rattle.draft.specs.Items.{text_of, ident}
use Rattle.scope.specs.Words.{bytes}
use Rattle.scope.specs.Entries.{variable_of}
use Rattle.scope.specs.Searches.{new_among}
use Rattle.scope.proofs.Scopes.{new-among_map}
use Rattle.scope.proofs.state.State.new_variable.Goals as goal

pub returns-clause-asked : goal.returns-clause-asked
returns-clause-asked c =
    let t = c.args.table.now in
    let x = ident (text_of t) c.args.name in
    c.free.ensures.asked ∙ ap (new_among c.args.most (λ v. bytes (text_of t) v.name) x) c.as_slice.ensures.value
    ∙ new-among_map c.args.most (λ v. v.name) (variable_of t) x c.args.self.now.variables.items
