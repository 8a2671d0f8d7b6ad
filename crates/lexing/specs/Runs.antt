-- The longest front of a list whose elements all pass a test.
use Rattle.std.specs.Prelude.{ℕ, suc, Bool, true, false, ◌&&◌, List, [], ◌∷◌}

-- how many elements at the front pass the test, one after the other
abbrev pub run : (ℕ → Bool) → List ℕ → ℕ
run f [] = 0
run f (b ∷ bs) = elim (f b) [ true ↦ suc (run f bs) | false ↦ 0 ]

-- whether a list begins with an element that passes the test
abbrev pub begins : (ℕ → Bool) → List ℕ → Bool
begins f [] = false
begins f (b ∷ bs) = f b

-- whether every element passes the test
abbrev pub every : (ℕ → Bool) → List ℕ → Bool
every f [] = true
every f (b ∷ bs) = f b && every f bs
