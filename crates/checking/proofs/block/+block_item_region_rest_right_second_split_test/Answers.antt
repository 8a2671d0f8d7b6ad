-- The items are walked with the functions of the block, and a second block in the table and the scope of the first.
use Rattle.std.proofs.Common.{rules}
use Rattle.checking.proofs.block.+block_item_region_rest_right_second_split_test.Goals as goal

pub rest-returns-clause-verdict : goal.rest-returns-clause-verdict
rest-returns-clause-verdict t c =
    let item = rw c.in_ok-fewer.ensures.0 at c.item.ensures.verdict in
    search (rules, item)

pub test-returns-in_err-second-clause-verdict : goal.test-returns-in_err-second-clause-verdict
test-returns-in_err-second-clause-verdict t c =
    let first = rw c.in_ok-behind.ensures.there at c.in_ok-first.ensures in
    let second = rw (first.there, first.kept.regions, first.kept.variables) at c.in_err-second.ensures.verdict in
    search (rules, first, second)

pub test-returns-in_err-behind-2-clause-verdict : goal.test-returns-in_err-behind-2-clause-verdict
test-returns-in_err-behind-2-clause-verdict t c =
    let first = rw c.in_ok-behind.ensures.there at c.in_ok-first.ensures in
    let second = rw (first.there, first.kept.regions, first.kept.variables) at c.in_ok-second.ensures.verdict in
    search (rules, first, second)

pub test-returns-clause-verdict : goal.test-returns-clause-verdict
test-returns-clause-verdict t c =
    let first = rw c.in_ok-behind.ensures.there at c.in_ok-first.ensures in
    let second = rw (first.there, first.kept.regions, first.kept.variables) at c.in_ok-second.ensures.verdict in
    search (rules, first, second)

pub split-returns-in_err-other-clause-verdict : goal.split-returns-in_err-other-clause-verdict
split-returns-in_err-other-clause-verdict t c =
    let first = rw c.in_ok-list.ensures.there at c.in_ok-first.ensures in
    let other = rw (first.there, first.kept.regions, first.kept.variables) at c.in_err-other.ensures.verdict in
    search (rules, first, other)

pub split-returns-in_err-behind-clause-verdict : goal.split-returns-in_err-behind-clause-verdict
split-returns-in_err-behind-clause-verdict t c =
    let first = rw c.in_ok-list.ensures.there at c.in_ok-first.ensures in
    let other = rw (first.there, first.kept.regions, first.kept.variables) at c.in_ok-other.ensures.verdict in
    search (rules, first, other)

pub split-returns-clause-verdict : goal.split-returns-clause-verdict
split-returns-clause-verdict t c =
    let first = rw c.in_ok-list.ensures.there at c.in_ok-first.ensures in
    let other = rw (first.there, first.kept.regions, first.kept.variables) at c.in_ok-other.ensures.verdict in
    search (rules, first, other)
