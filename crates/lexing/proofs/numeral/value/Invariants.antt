-- The digits so far gave a size within the bound, and the meaning goes on from there.
use Rattle.std.proofs.Common.{◌≡◌, ◌≤◌, drop}
use Rattle.lexing.specs.Numerals.{bound, meaning}
use Rattle.lexing.proofs.Digits.{going}
use Rattle.lexing.proofs.numeral.value.Given as goal

abbrev pub invariant-loop-byte : goal.invariant-loop-byte
invariant-loop-byte l =
    (l.limit ≡ bound l.negative) × (l.size ≤ l.limit)
    × (meaning l.negative l.digits ≡ going l.negative l.size (drop l.byte-index l.digits))
