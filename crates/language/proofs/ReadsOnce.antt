-- A word reads as at most one value: the reference settles position and place, and the words there the rest.
use Rattle.std.proofs.Common.{◌≡◌, ℕ, List, refl, arith}
use Rattle.regions.specs.Model.{Regions}
use Rattle.language.specs.Types.{RegionType}
use Rattle.language.specs.Values.{Value}
use Rattle.language.specs.Plain.{Placed}
use Rattle.language.specs.Reads.{Reads, reads_number, reads_empty, reads_link}

module _ {rs : Regions} {ρ : List Placed} where
  -- at words that are equal, so that heads and tails fetched twice can be compared
  once : {T : RegionType} {w w' : ℕ} {v v' : Value} → w ≡ w' → Reads rs ρ T w v → Reads rs ρ T w' v' → v ≡ v'
  once e (reads_number p) (reads_number q) = cc
  once e (reads_empty p) (reads_empty q) = refl
  once e (reads_empty p) (reads_link h t pos m x y a b) = absurd (omega arith)
  once e (reads_link h t pos m x y a b) (reads_empty q) = absurd (omega arith)
  once e (reads_link h t pos m x y a b) (reads_link h' t' pos' m' x' y' a' b') =
      let heads : h ≡ h' = cc in
      let tails : t ≡ t' = cc in
      let p = once heads a a' in
      let q = once tails b b' in
      cc

  pub reads_once : (T : RegionType) (w : ℕ) (v v' : Value) → Reads rs ρ T w v → Reads rs ρ T w v' → v ≡ v'
  reads_once T w v v' a b = once refl a b
