-- Lists of which one element changes, or the last one goes. Assumes nothing.
use Rattle.std.proofs.Common.{◌≡◌, ℕ, zero, suc, ◌+◌, ◌<◌, length, List, [], ◌∷◌, get_or, map, take, set, sym, refl, ap, ◌∙◌, arith}
use Rattle.std.proofs.lemmas.List.{take-map, take-set}
use Rattle.regions.specs.Rules.{pages_of, pages_total}

module _ {X Y : Type 0} where
  -- what stands anywhere, where the default fits
  pub get_or-map_default : (f : X → Y) (xs : List X) (i : ℕ) (d : X) → get_or (map f xs) i (f d) ≡ f (get_or xs i d)
  get_or-map_default f [] i d = refl
  get_or-map_default f (x ∷ xs) zero d = refl
  get_or-map_default f (x ∷ xs) (suc i) d = get_or-map_default f xs i d

  module _ (f g : X → Y) (d : X) where
    pub map_same : (xs : List X) → ((j : ℕ) → g (get_or xs j d) ≡ f (get_or xs j d)) → map g xs ≡ map f xs
    map_same [] h = refl
    map_same (x ∷ xs) h = rw (h zero) (ap (λ ys. f x ∷ ys) (map_same xs (λ j. h (suc j))))

    -- only the element at i differs
    pub map_one : (xs : List X) (i : ℕ) (y : X) → ((j : ℕ) → (j ≡ i → ⊥) → g (get_or xs j d) ≡ f (get_or xs j d)) → map g (set xs i y) ≡ set (map f xs) i (g y)
    map_one [] i y h = refl
    map_one (x ∷ xs) zero y h = ap (λ ys. g y ∷ ys) (map_same xs (λ j. h (suc j) (λ e. omega arith)))
    map_one (x ∷ xs) (suc i) y h = rw (h zero (λ e. omega arith)) (ap (λ ys. f x ∷ ys) (map_one xs i y (λ j ne. h (suc j) (λ e. ne (omega arith)))))

    -- what stands below it
    pub map_below : (xs : List X) (k : ℕ) → ((j : ℕ) → (j ≡ k → ⊥) → g (get_or xs j d) ≡ f (get_or xs j d)) → map g (take k xs) ≡ take k (map f xs)
    map_below xs k h =
        ap (map g) (sym (take-set xs k d))
        ∙ sym (take-map g k (set xs k d))
        ∙ ap (take k) (map_one xs k d h)
        ∙ take-set (map f xs) k (g d)

-- the pages of lists or chains of which one is another
pub pages_set : {X : Type 0} (f : X → ℕ) (xs : List X) (i : ℕ) (y d : X) → i < length xs → pages_total (map f (set xs i y)) + pages_of (f (get_or xs i d)) ≡ pages_total (map f xs) + pages_of (f y)
pages_set f [] i y d h = absurd (omega arith)
pages_set f (x ∷ xs) zero y d h = omega arith
pages_set f (x ∷ xs) (suc i) y d h = omega (arith, pages_set f xs i y d (omega arith))
