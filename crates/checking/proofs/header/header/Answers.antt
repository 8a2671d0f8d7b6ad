-- The result type stands in the table of the header.
use Rattle.std.proofs.Common.{rules}
use Rattle.checking.proofs.header.header.Goals as goal

pub returns-in_err-behind-2-clause-verdict : goal.returns-in_err-behind-2-clause-verdict
returns-in_err-behind-2-clause-verdict c =
    let last = rw c.in_ok-behind.ensures.there at c.in_ok-last.ensures in
    let result = rw last.there at c.in_ok-result.ensures in
    let behind = rw result.there at c.in_err-behind-2.ensures.verdict in
    search (rules, last, result, behind)

pub returns-clause-verdict : goal.returns-clause-verdict
returns-clause-verdict c =
    let last = rw c.in_ok-behind.ensures.there at c.in_ok-last.ensures in
    let result = rw last.there at c.in_ok-result.ensures in
    let behind = rw result.there at c.in_ok-behind-2.ensures.verdict in
    search (rules, last, result, behind)
