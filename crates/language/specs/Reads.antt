-- How a list is read out of the regions: from its reference, its type, the positions that region names mean, and the words.
use Rattle.std.specs.Prelude.{◌≡◌, ℕ, suc, ◌+◌, ◌-◌, ◌*◌, ◌/◌, ◌%◌, ◌<◌, List, ℤ, Some, Ok}
use Rattle.std.specs.Int.{w32}
use Rattle.std.proofs.Common.{to_z}
use Rattle.regions.specs.Model.{Regions, get_answer}
use Rattle.language.specs.Types.{Name, RegionType, int, list}
use Rattle.language.specs.Values.{Value, number, empty, link}
use Rattle.language.specs.Plain.{Placed, meant}

-- the reference to the two words from a place on, in the region at a position; 0 refers to no words and is the list without elements
abbrev pub reference : ℕ → ℕ → ℕ
reference p i = suc (p * 65536 + i)

-- the position and the place that a reference says
abbrev pub region_of : ℕ → ℕ
region_of w = (w - 1) / 65536

abbrev pub place_of : ℕ → ℕ
place_of w = (w - 1) % 65536

-- the word w is the value v at a type whose region names mean positions: a number as itself, a list as a reference into the region that its type names,
-- to the word of its head and, behind it, the word of its tail
pub data Reads (rs : Regions) (ρ : List Placed) : RegionType → ℕ → Value → Type 0 where
  reads_number : {w : ℕ} {z : ℤ} → z ≡ to_z w32 w → Reads rs ρ int w (number z)
  reads_empty : {r : Name} {T : RegionType} {w : ℕ} → w ≡ 0 → Reads rs ρ (list r T) w empty
  reads_link : {r : Name} {T : RegionType} {w : ℕ} {v v' : Value} (h t : ℕ) → 0 < w → meant ρ r ≡ Some (region_of w) →
      get_answer rs (region_of w) (place_of w) ≡ Ok h → get_answer rs (region_of w) (suc (place_of w)) ≡ Ok t →
      Reads rs ρ T h v → Reads rs ρ (list r T) t v' → Reads rs ρ (list r T) w (link v v')
