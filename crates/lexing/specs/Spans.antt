-- Calls that answer what a test of a byte does.
use Rattle.std.specs.Prelude.{◌≡◌, ℕ, Bool}

-- whatever a call answers, the test does
abbrev pub Tests : (ℕ → Bool → Type 0) → (ℕ → Bool) → Type 0
Tests post f = (b : ℕ) (r : Bool) → post b r → r ≡ f b
