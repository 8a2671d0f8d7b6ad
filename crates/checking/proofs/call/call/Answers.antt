-- The function's header by what was found.
use Rattle.std.proofs.Common.{rules, ap, ◌∙◌}
use Rattle.draft.specs.Items.{text_of, ident}
use Rattle.scope.specs.Words.{bytes}
use Rattle.scope.specs.Entries.{scope_of}
use Rattle.scope.specs.Searches.{known_among}
use Rattle.scope.specs.Spots.{ahead}
use Rattle.checking.proofs.Found.{call-found}
use Rattle.checking.proofs.call.call.Goals as goal

pub returns-in_err-function-clause-verdict : goal.returns-in_err-function-clause-verdict
returns-in_err-function-clause-verdict c =
    let t = c.args.spot.table.now in
    let x = ident (text_of t) c.args.name in
    let h = call-found t c.args.functions.now (scope_of t c.args.state.now) x (ahead c.args.spot) c.found.result (c.found.ensures ∙ ap (known_among (λ e. bytes (text_of t) e.name) x) c.as_slice.ensures.value) in
    search (rules, h)

pub returns-clause-verdict : goal.returns-clause-verdict
returns-clause-verdict c =
    let t = c.args.spot.table.now in
    let x = ident (text_of t) c.args.name in
    let h = call-found t c.args.functions.now (scope_of t c.args.state.now) x (ahead c.args.spot) c.found.result (c.found.ensures ∙ ap (known_among (λ e. bytes (text_of t) e.name) x) c.as_slice.ensures.value) in
    search (rules, h)
