-- An arena's regions can be counted. Assumes nothing.
use Rattle.std.specs.Prelude.{◌≡◌, ℕ, suc, ◌≤◌, List, [], ◌∷◌, length, drop, refl}
use Rattle.std.proofs.Common.{ap, arith}
use Rattle.regions.specs.Laws.{Countable}
use Rattle.arena.specs.Layout.{split}

pub length_split : (ls ws : List ℕ) → length (split ls ws) ≡ length ls
length_split [] ws = refl
length_split (l ∷ ls) ws = ap suc (length_split ls (drop l ws))

-- at most 64 lengths make few enough regions to count
pub arena_countable : (ls ws : List ℕ) → length ls ≤ 64 → Countable (split ls ws)
arena_countable ls ws few = omega (arith, length_split ls ws)
