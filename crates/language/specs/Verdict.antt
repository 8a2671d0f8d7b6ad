-- The answer to a question that fails: its number and its place in the text.
use Rattle.std.specs.Prelude.{ℕ}

pub record Refused : Type 0 where
  pub number : ℕ
  pub place : ℕ
