-- The index of the first entry of a name, as the library counts it and over entries told in other words.
use Rattle.std.proofs.Common.{◌≡◌, ℕ, List, [], ◌∷◌, map, cond, Bool, true, false, ◌+◌, suc, refl, ap, arith}
use Rattle.std.specs.List.{position_or_len}
use Rattle.std.proofs.lemmas.List.Recursion.{is_position_or_len}
use Rattle.lexing.specs.Tokens.{same_bytes}
use Rattle.language.specs.Types.{Name}
use Rattle.program.specs.Compiled.{index}

-- entries told in other words have the same indices
pub index-map : {A B : Type 0} (f : A → B) (key : B → Name) (n : Name) (es : List A) → index key n (map f es) ≡ index (λ e. key (f e)) n es
index-map f key n [] = refl
index-map f key n (e ∷ es) = ap (λ (k : ℕ). elim (same_bytes (key (f e)) n) as (λ _. ℕ) [ true ↦ 0 | false ↦ suc k ]) (index-map f key n es)

-- the index is the number of entries before the first that passes
pub index-counts : {A : Type 0} (key : A → Name) (n : Name) (es : List A) → index key n es ≡ position_or_len (λ e. same_bytes (key e) n) es
index-counts key n es = is_position_or_len (index key n) (λ e. same_bytes (key e) n) refl (λ x xs. step (same_bytes (key x) n) (index key n xs)) es
  where
    step : (b : Bool) (k : ℕ) → elim b as (λ _. ℕ) [ true ↦ 0 | false ↦ suc k ] ≡ cond b 0 (1 + k)
    step true k = refl
    step false k = omega arith
