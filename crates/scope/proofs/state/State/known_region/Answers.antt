-- Found or not.
use Rattle.std.proofs.Common.{rules, ap, ◌∙◌}
use Rattle.draft.specs.Items.{text_of, ident}
use Rattle.scope.specs.Searches.{known_among}
use Rattle.scope.specs.Words.{bytes}
use Rattle.scope.proofs.Scopes.{region-known}
use Rattle.scope.proofs.state.State.known_region.Goals as goal

pub returns-in_err-found : goal.returns-in_err-found
returns-in_err-found c =
    let text = text_of c.args.table.now in
    let h = region-known c.args.table.now c.args.self.now c.args.name c.found.result (c.found.ensures ∙ ap (known_among (bytes text) (ident text c.args.name)) c.as_slice.ensures.value) in
    search (h, rules)

pub returns : goal.returns
returns c =
    let text = text_of c.args.table.now in
    let h = region-known c.args.table.now c.args.self.now c.args.name c.found.result (c.found.ensures ∙ ap (known_among (bytes text) (ident text c.args.name)) c.as_slice.ensures.value) in
    search (h, rules)
