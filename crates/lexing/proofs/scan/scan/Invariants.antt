-- What was counted, joined with what still comes, makes the count of the whole text.
use Rattle.std.proofs.Common.{◌≡◌, ◌-◌, ◌≤◌}
use Rattle.lexing.specs.Answers.{counted}
use Rattle.lexing.specs.Texts.{tokens_of}
use Rattle.lexing.proofs.Counts.{joined}
use Rattle.lexing.proofs.Streams.{taken}
use Rattle.lexing.proofs.scan.scan.Given as goal

abbrev pub invariant-loop-token : goal.invariant-loop-token
invariant-loop-token l =
    goal.iterator-loop-token.can_next l.token-iterator × goal.iterator-loop-token.is_finite l.token-iterator × (l.count ≤ 4096)
    × (counted (tokens_of l.text) ≡ joined l.count (taken (4096 - l.count) l.token-iterator))
