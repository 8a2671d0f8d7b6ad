-- A part of a list that may reach behind its end.
use Rattle.std.proofs.Common.{◌≡◌, ℕ, ◌≤◌, min, Bool, true, false, leb, List, length, take, drop, sym, refl, ap, ◌∙◌, le_of_lt, take_all, leb-false, leb-true}
use native.Mathlib.Nat.{min-eq_left, min-eq_right}
use lib.Seq.{take-length, drop-length}
use Rattle.std.proofs.lemmas.List.{drop_all}

take_by : {A : Type 0} (n : ℕ) (xs : List A) (v : Bool) → leb n (length xs) ≡ v → take (min n (length xs)) xs ≡ take n xs
take_by n xs true t = ap (λ k. take k xs) (min-eq_left (leb-true n (length xs) t))
take_by n xs false t =
    let h : length xs ≤ n = le_of_lt (leb-false n (length xs) t) in
    ap (λ k. take k xs) (min-eq_right h) ∙ take-length xs ∙ sym (take_all n xs h)

pub take_min : {A : Type 0} (n : ℕ) (xs : List A) → take (min n (length xs)) xs ≡ take n xs
take_min n xs = take_by n xs (leb n (length xs)) refl

drop-by : {A : Type 0} (n : ℕ) (xs : List A) (v : Bool) → leb n (length xs) ≡ v → drop (min n (length xs)) xs ≡ drop n xs
drop-by n xs true t = ap (λ k. drop k xs) (min-eq_left (leb-true n (length xs) t))
drop-by n xs false t =
    let h : length xs ≤ n = le_of_lt (leb-false n (length xs) t) in
    ap (λ k. drop k xs) (min-eq_right h) ∙ drop-length xs ∙ sym (drop_all n xs h)

pub drop_min : {A : Type 0} (n : ℕ) (xs : List A) → drop (min n (length xs)) xs ≡ drop n xs
drop_min n xs = drop-by n xs (leb n (length xs)) refl
