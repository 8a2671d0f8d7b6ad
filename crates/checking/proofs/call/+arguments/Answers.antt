-- The next parameter's type is that behind its position.
use Rattle.std.proofs.Common.{rules}
use Rattle.checking.proofs.call.+arguments.Goals as goal

pub returns-in_err-behind-in-Some-clause-verdict : goal.returns-in_err-behind-in-Some-clause-verdict
returns-in_err-behind-in-Some-clause-verdict t c =
    let next = rw (c.in-Some.ensures.0, c.at.ensures.table, c.at.ensures.position) at c.in-Some.ensures.3 in
    search (rules, next)

pub returns-in_ok-behind-in-Some-clause-verdict : goal.returns-in_ok-behind-in-Some-clause-verdict
returns-in_ok-behind-in-Some-clause-verdict t c =
    let next = rw (c.in-Some.ensures.0, c.at.ensures.table, c.at.ensures.position) at c.in-Some.ensures.3 in
    let others = rw c.in_ok-behind-in-Some.ensures.there at c.arguments.ensures.verdict in
    search (rules, next, others)
