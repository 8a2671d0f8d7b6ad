-- What holds of every rule, and of what a store holds. Assumes nothing.
use Rattle.std.specs.Prelude.{◌≡◌, ℕ, ◌<◌, ◌≤◌, true, List, [], length}
use Rattle.regions.specs.Model.{Regions, Rule, within}

-- a rule grants the empty list, and only lists of at most 64 regions of at most 65,536 words each
pub record Lawful (g : Rule) : Type 0 where
  pub none : g [] ≡ true
  pub few : (ls : List ℕ) → g ls ≡ true → length ls ≤ 64
  pub short : (ls : List ℕ) → g ls ≡ true → within 65536 ls ≡ true

-- the number of regions has at most 64 bits, as their positions have
abbrev pub Countable : Regions → Type 0
Countable rs = length rs < 18446744073709551616
