-- A reference says its position and its place.
use Rattle.std.proofs.Common.{arith}
use Rattle.language.specs.RunLaws.{ReferenceSays}

pub proof : ReferenceSays
proof = record {
  position = λ p i h. omega arith;
  place = λ p i h. omega arith;
  fits = λ p i h k. omega arith;
  some = λ p i. omega arith;
}
