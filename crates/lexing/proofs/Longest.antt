-- The longest front that passes a test: all of it passes, what is behind it does not begin so, and no other front is such.
use Rattle.std.proofs.Common.{◌≡◌, ℕ, suc, Bool, true, false, ◌&&◌, List, [], ◌∷◌, ◌++◌, length, take, drop, refl, ap, ◌∙◌}
use borrow.Author.Tests.{both_ways}
use Rattle.lexing.specs.Runs.{run, begins, every}

abbrev pub run_by : ℕ → Bool → ℕ
run_by n true = suc n
run_by n false = 0

pub run_is : (f : ℕ → Bool) (b : ℕ) (bs : List ℕ) (v : Bool) → f b ≡ v → run f (b ∷ bs) ≡ run_by (run f bs) v
run_is f b bs v t = ap (λ w. elim w as (λ _. ℕ) [ true ↦ suc (run f bs) | false ↦ 0 ]) t ∙ by_cases v
  where
    by_cases : (w : Bool) → elim w as (λ _. ℕ) [ true ↦ suc (run f bs) | false ↦ 0 ] ≡ run_by (run f bs) w
    by_cases true = refl
    by_cases false = refl

pub run-all : (f : ℕ → Bool) (s : List ℕ) → every f (take (run f s) s) ≡ true
run-all f [] = refl
run-all f (b ∷ bs) = go (run-all f bs) (f b) refl
  where
    go : every f (take (run f bs) bs) ≡ true → (v : Bool) → f b ≡ v → every f (take (run f (b ∷ bs)) (b ∷ bs)) ≡ true
    go h true t = ap (λ n. every f (take n (b ∷ bs))) (run_is f b bs true t) ∙ ap (λ w. w && every f (take (run f bs) bs)) t ∙ h
    go h false t = ap (λ n. every f (take n (b ∷ bs))) (run_is f b bs false t)

pub run-over : (f : ℕ → Bool) (s : List ℕ) → begins f (drop (run f s) s) ≡ false
run-over f [] = refl
run-over f (b ∷ bs) = go (run-over f bs) (f b) refl
  where
    go : begins f (drop (run f bs) bs) ≡ false → (v : Bool) → f b ≡ v → begins f (drop (run f (b ∷ bs)) (b ∷ bs)) ≡ false
    go h true t = ap (λ n. begins f (drop n (b ∷ bs))) (run_is f b bs true t) ∙ h
    go h false t = ap (λ n. begins f (drop n (b ∷ bs))) (run_is f b bs false t) ∙ t

pub both_left : (a b : Bool) → (a && b) ≡ true → a ≡ true
both_left true b t = refl
both_left false b t = t

pub both_right : (a b : Bool) → (a && b) ≡ true → b ≡ true
both_right true b t = t
both_right false b t = absurd (both_ways false refl t)

run-stops : (f : ℕ → Bool) (ys : List ℕ) → begins f ys ≡ false → run f ys ≡ 0
run-stops f [] h = refl
run-stops f (y ∷ ys) h = run_is f y ys false h

pub run-front : (f : ℕ → Bool) (xs ys : List ℕ) → every f xs ≡ true → begins f ys ≡ false → run f (xs ++ ys) ≡ length xs
run-front f [] ys a h = run-stops f ys h
run-front f (x ∷ xs) ys a h = run_is f x (xs ++ ys) true (both_left (f x) (every f xs) a) ∙ ap suc (run-front f xs ys (both_right (f x) (every f xs) a) h)
