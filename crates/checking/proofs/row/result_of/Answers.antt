-- The words of the result are those behind the header's position.
use Rattle.std.proofs.Common.{◌≡◌, Some, drop, rules}
use Rattle.draft.specs.Items.{items}
use Rattle.checking.specs.Walk.{outcome}
use Rattle.checking.proofs.row.result_of.Goals as goal

pub returns-in-Some : goal.returns-in-Some
returns-in-Some c =
    let t = c.args.call.table.now in
    let e : outcome (drop c.args.header (items t)) ≡ Some (drop c.in-Some.words.position (items t)) = rw (c.in-Some.ensures.0, c.at.ensures.table, c.at.ensures.position) at c.in-Some.ensures.1 in
    search (rules, e)
