-- A table of which the first entries are in use. Assumes nothing.
use Rattle.std.proofs.Common.{◌≡◌, ℕ, zero, suc, ◌-◌, List, [], ◌∷◌, take, set, refl, ap, arith}

pub take-set_in : {X : Type 0} (n : ℕ) (xs : List X) (i : ℕ) (a : X) → take n (set xs i a) ≡ set (take n xs) i a
take-set_in zero xs i a = refl
take-set_in (suc n) [] i a = refl
take-set_in (suc n) (x ∷ xs) zero a = refl
take-set_in (suc n) (x ∷ xs) (suc i) a = ap (λ ys. x ∷ ys) (take-set_in n xs i a)

-- `&xs[0..n]` as the checker reads it
pub front_is : (n : ℕ) (xs : List ℕ) → take (n - 0) xs ≡ take n xs
front_is n xs = ap (λ k. take k xs) (omega arith)
