-- The bytes so far, joined with those of the rest, are the line's.
use Rattle.std.proofs.Common.{◌≡◌, length, vec_items}
use Rattle.escapes.specs.Escapes.{unescaped}
use Rattle.escapes.proofs.Decoding.{joined}
use Rattle.escapes.proofs.unescape.Given as goal

abbrev pub invariant-loop-rest : goal.invariant-loop-rest
invariant-loop-rest l = unescaped l.line ≡ joined (vec_items l.bytes) (unescaped l.rest)

abbrev pub decreases-loop-rest : goal.decreases-loop-rest
decreases-loop-rest l = length l.rest
