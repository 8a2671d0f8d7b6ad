-- A list of at most 64 regions can be counted.
use Rattle.std.specs.Prelude.{ℕ, ◌≤◌, take}
use Rattle.std.proofs.Common.{arith}
use Rattle.std.proofs.lemmas.List.{length-take}
use Rattle.regions.specs.Laws.{Countable}
use Rattle.regions.specs.Model.{Regions}

-- at most 64 chains in use are few enough to count
pub front_countable : (count : ℕ) (rs : Regions) → count ≤ 64 → Countable (take count rs)
front_countable count rs few = omega (arith, length-take count rs)
