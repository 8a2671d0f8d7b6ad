-- A region is new where its name is new among the names.
use Rattle.std.proofs.Common.{◌∙◌, ap}
use Rattle.draft.specs.Items.{text_of, ident}
use Rattle.scope.specs.Words.{bytes}
use Rattle.scope.specs.Searches.{new_among}
use Rattle.scope.proofs.Scopes.{new-among_map}
use Rattle.scope.proofs.state.State.new_region.Goals as goal

pub returns-clause-asked : goal.returns-clause-asked
returns-clause-asked c =
    let text = text_of c.args.table.now in
    let x = ident text c.args.name in
    c.free.ensures.asked ∙ ap (new_among 8 (bytes text) x) c.as_slice.ensures.value ∙ new-among_map 8 (λ s. s) (bytes text) x c.args.self.now.regions.items
