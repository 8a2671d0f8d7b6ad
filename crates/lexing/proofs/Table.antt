-- The rule of a table, shown at each entry by one test that the checker computes over the whole table.
use Rattle.std.proofs.Common.{◌≡◌, ℕ, zero, suc, ◌+◌, ◌<◌, Bool, true, false, T, eqb, List, [], ◌∷◌, length, get_or, sym, ◌∙◌, subst, le_of_suc-le-suc, not-suc-le-zero, add-zero, add-suc, suc-add, zero-add, eqb→eq}
use Rattle.lexing.specs.declared.class.Class.{Class}
use Rattle.lexing.specs.Classes.{class_of}
use Rattle.lexing.specs.ClassNumbers.{class_number}

abbrev pub both : Bool → Bool → Bool
both true b = b
both false b = false

both_left : (a b : Bool) → T (both a b) → T a
both_left true b t = tt
both_left false b t = t

both_right : (a b : Bool) → T (both a b) → T b
both_right true b t = t
both_right false b t = absurd t

-- each entry of the list passes the test with its index, which counts from i
abbrev pub passes : {A : Type 0} → (ℕ → A → Bool) → ℕ → List A → Bool
passes f i [] = true
passes f i (x ∷ xs) = both (f i x) (passes f (suc i) xs)

passes-from : {A : Type 0} (f : ℕ → A → Bool) (xs : List A) (d : A) (i : ℕ) → T (passes f i xs) → (k : ℕ) → k < length xs → T (f (i + k) (get_or xs k d))
passes-from f [] d i t k h = absurd (not-suc-le-zero h)
passes-from f (x ∷ xs) d i t zero h = subst (λ (m : ℕ). T (f m x)) (sym (add-zero i)) (both_left (f i x) (passes f (suc i) xs) t)
passes-from f (x ∷ xs) d i t (suc k) h =
    subst (λ (m : ℕ). T (f m (get_or xs k d))) (suc-add i k ∙ sym (add-suc i k))
    (passes-from f xs d (suc i) (both_right (f i x) (passes f (suc i) xs) t) k (le_of_suc-le-suc h))

-- a table of 256 entries that passes the test at each entry has the class of every byte
pub classes : (xs : List Class) (d : Class) (b : ℕ) → T (passes (λ k x. eqb (class_number x) (class_of k)) 0 xs) → length xs ≡ 256 → b < 256 → class_number (get_or xs b d) ≡ class_of b
classes xs d b t e h =
    eqb→eq (class_number (get_or xs b d)) (class_of b)
    (subst (λ (m : ℕ). T (eqb (class_number (get_or xs b d)) (class_of m))) (zero-add b)
    (passes-from (λ k x. eqb (class_number x) (class_of k)) xs d 0 t b (subst (λ n. b < n) (sym e) h)))
