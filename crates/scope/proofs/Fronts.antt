-- The front of what a list says, from a position on.
use Rattle.std.proofs.Common.{◌≡◌, ℕ, zero, suc, ◌+◌, ◌<◌, ◌≤◌, List, [], ◌∷◌, map, length, drop, Some, None, Option, slice_get, refl, add-one, arith, MatchOption}

at_suc : {A B : Type 0} (f : A → B) (xs : List A) (p : ℕ) (r : Option A) → r ≡ slice_get xs p
    → MatchOption r (drop p (map f xs) ≡ []) (λ c. (p < length xs) × (drop p (map f xs) ≡ f c ∷ drop (suc p) (map f xs)))
at_suc f [] zero r e = rw (e) refl
at_suc f [] (suc p) r e = rw (e) refl
at_suc f (x ∷ xs) zero r e = rw (e) (omega arith, refl)
at_suc f (x ∷ xs) (suc p) None e = at_suc f xs p None e
at_suc f (x ∷ xs) (suc p) (Some c) e = let h = at_suc f xs p (Some c) e in (omega arith, h.1)

-- what a list of at most 4096 says at a position
pub at : {A B : Type 0} (f : A → B) (xs : List A) (p : ℕ) (r : Option A) → r ≡ slice_get xs p → length xs ≤ 4096
    → MatchOption r (drop p (map f xs) ≡ []) (λ c. (p < 4096) × (drop p (map f xs) ≡ f c ∷ drop (p + 1) (map f xs)))
at f xs p None e h = at_suc f xs p None e
at f xs p (Some c) e h = let k = at_suc f xs p (Some c) e in (omega arith, rw (add-one) k.1)
