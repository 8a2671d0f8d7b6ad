-- What decimal digits mean, as a loop reads them byte by byte.
use Rattle.std.proofs.Common.{◌≡◌, ℕ, suc, ◌+◌, ◌-◌, ◌*◌, ◌<◌, ◌≤◌, Bool, true, false, ◌&&◌, leb, List, [], ◌∷◌, length, get_or, drop, ℤ, Some, None, Option, sym, refl, ap, ◌∙◌, add-one, arith, length-drop, drop-cons, le-leb}
use borrow.Author.Tests.{lt-leb}
use Rattle.lexing.specs.Classes.{digit}
use Rattle.lexing.specs.Runs.{every}
use Rattle.lexing.specs.Numerals.{decimal, bound, with_sign, signed_32, only, meaning}

-- what digits mean behind a number that was read so far
abbrev pub going : Bool → ℕ → List ℕ → Option ℤ
going s n bs = only (every digit bs) (signed_32 s (decimal n bs))

-- at the first digit
pub going_from : (s : Bool) (bs : List ℕ) → 0 < length bs → meaning s bs ≡ going s 0 bs
going_from s [] h = absurd (omega arith)
going_from s (b ∷ bs) h = refl

pub going_none : (s : Bool) (bs : List ℕ) → length bs ≡ 0 → meaning s bs ≡ None
going_none s [] h = refl
going_none s (b ∷ bs) h = absurd (omega arith)

digit-step : (s : Bool) (n b : ℕ) (bs : List ℕ) → digit b ≡ true → going s n (b ∷ bs) ≡ going s (10 * n + (b - 48)) bs
digit-step s n b bs t = ap (λ v. only (v && every digit bs) (signed_32 s (decimal (10 * n + (b - 48)) bs))) t

digit-stop : (s : Bool) (n b : ℕ) (bs : List ℕ) → digit b ≡ false → going s n (b ∷ bs) ≡ None
digit-stop s n b bs t = ap (λ v. only (v && every digit bs) (signed_32 s (decimal (10 * n + (b - 48)) bs))) t

-- the loop's step, with the digit's value d
pub going_more : (s : Bool) (n : ℕ) (ds : List ℕ) (i d : ℕ) (m : Option ℤ) → i < length ds → digit (get_or ds i 0) ≡ true → d ≡ get_or ds i 0 - 48 → m ≡ going s n (drop i ds) → m ≡ going s (10 * n + d) (drop (i + 1) ds)
going_more s n ds i d m h t k e =
    e ∙ ap (going s n) (drop-cons ds i 0 h) ∙ digit-step s n (get_or ds i 0) (drop (suc i) ds) t
    ∙ ap (λ k. going s (10 * n + (get_or ds i 0 - 48)) (drop k ds)) (sym (add-one i)) ∙ ap (λ v. going s (10 * n + v) (drop (i + 1) ds)) (sym k)

-- a byte that is no digit ends the loop
pub going_stop : (s : Bool) (n : ℕ) (ds : List ℕ) (i : ℕ) (m : Option ℤ) → i < length ds → digit (get_or ds i 0) ≡ false → m ≡ going s n (drop i ds) → None ≡ m
going_stop s n ds i m h t e = sym (e ∙ ap (going s n) (drop-cons ds i 0 h) ∙ digit-stop s n (get_or ds i 0) (drop (suc i) ds) t)

-- more digits never make a number smaller
grows : (n : ℕ) (bs : List ℕ) → n ≤ decimal n bs
grows n [] = omega arith
grows n (b ∷ bs) = let h = grows (10 * n + (b - 48)) bs in omega arith

-- a number that has passed 32 signed bits stays beyond them
pub going_over : (s : Bool) (n : ℕ) (bs : List ℕ) → bound s < n → going s n bs ≡ None
going_over s n bs h =
    let g = grows n bs in
    let t : leb (decimal n bs) (bound s) ≡ false = lt-leb (decimal n bs) (bound s) (omega arith) in
    elim (every digit bs) as (λ v. only v (signed_32 s (decimal n bs)) ≡ None) [ true ↦ ap (λ v. only v (Some (with_sign s (decimal n bs)))) t | false ↦ refl ]

-- the number has passed 32 signed bits
pub going_past : (s : Bool) (n : ℕ) (ds : List ℕ) (i d : ℕ) (m : Option ℤ) → i < length ds → digit (get_or ds i 0) ≡ true → d ≡ get_or ds i 0 - 48 → bound s < 10 * n + d → m ≡ going s n (drop i ds) → None ≡ m
going_past s n ds i d m h t k p e = sym (going_more s n ds i d m h t k e ∙ going_over s (10 * n + d) (drop (i + 1) ds) p)

ended : (s : Bool) (n : ℕ) (bs : List ℕ) → length bs ≡ 0 → n ≤ bound s → going s n bs ≡ Some (with_sign s n)
ended s n [] e h = ap (λ v. only v (Some (with_sign s n))) (le-leb n (bound s) h)
ended s n (b ∷ bs) e h = absurd (omega arith)

-- the end of the digits
pub going_end : (s : Bool) (n : ℕ) (ds : List ℕ) (i : ℕ) (m : Option ℤ) → length ds ≤ i → n ≤ bound s → m ≡ going s n (drop i ds) → m ≡ Some (with_sign s n)
going_end s n ds i m k h e = e ∙ ended s n (drop i ds) (simp length-drop (omega arith)) h
