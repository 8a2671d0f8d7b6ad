-- The longest front that passes a test.
use Rattle.std.proofs.Common.{◌≡◌, ℕ, suc, ◌+◌, ◌≤◌, Bool, true, false, cond, List, [], ◌∷◌, length, refl, sym, subst, arith}
use Rattle.std.specs.List.{prefix_len}
use Rattle.std.proofs.lemmas.List.Sums.{prefix_len-le-length}
use Rattle.lexing.specs.Runs.{run}

-- the library's word for it
pub run_is_prefix_len : (f : ℕ → Bool) (xs : List ℕ) → run f xs ≡ prefix_len f xs
run_is_prefix_len f [] = refl
run_is_prefix_len f (b ∷ bs) =
    let h = run_is_prefix_len f bs in
    elim (f b) as (λ v. elim v as (λ _. ℕ) [ true ↦ suc (run f bs) | false ↦ 0 ] ≡ cond v (1 + prefix_len f bs) 0) [ true ↦ omega arith | false ↦ refl ]

-- the front is a part of the list
pub run-within : (f : ℕ → Bool) (xs : List ℕ) → run f xs ≤ length xs
run-within f xs = subst (λ n. n ≤ length xs) (sym (run_is_prefix_len f xs)) (prefix_len-le-length f xs)
