-- The header is that at its position, and the atoms stand in the table of the call.
use Rattle.std.proofs.Common.{rules}
use Rattle.checking.proofs.call.called.Goals as goal

pub returns-in_err-more-clause-verdict : goal.returns-in_err-more-clause-verdict
returns-in_err-more-clause-verdict c =
    let shape = rw (c.at.ensures.table, c.at.ensures.position) at c.fits-shape.ensures in
    search (rules, shape)

pub returns-in_err-after-clause-verdict : goal.returns-in_err-after-clause-verdict
returns-in_err-after-clause-verdict c =
    let shape = rw (c.at.ensures.table, c.at.ensures.position) at c.fits-shape.ensures in
    let after = rw c.in_ok-more.ensures.there at c.in_err-after.ensures.verdict in
    search (rules, shape, after)

pub returns-clause-verdict : goal.returns-clause-verdict
returns-clause-verdict c =
    let shape = rw (c.at.ensures.table, c.at.ensures.position) at c.fits-shape.ensures in
    let after = rw c.in_ok-more.ensures.there at c.in_ok-after.ensures.verdict in
    search (rules, shape, after)
