-- What is found by name has an index below the length of the list, and what holds of all entries holds of it.
use Rattle.std.proofs.Common.{◌≡◌, ℕ, suc, ◌+◌, ◌<◌, Bool, true, false, List, [], ◌∷◌, length, Some, Option, refl, subst, arith}
use Rattle.std.specs.List.{AllByRecursion}
use Rattle.lexing.specs.Tokens.{same_bytes}
use Rattle.language.specs.Syntax.{Fun}
use Rattle.language.specs.Types.{Name}
use Rattle.language.specs.Scope.{find, find_function}
use Rattle.program.specs.declared.command.Function.{Function}
use Rattle.program.specs.Compiled.{index, function_index, block_size, listed_from}
use Rattle.program.specs.Safe.{function_at}

pub index-found : {A : Type 0} (key : A → Name) (n : Name) (es : List A) (x : A) → find key n es ≡ Some x → index key n es < length es
index-found key n [] x e = absurd (let z : ◌≡◌ {A = ℕ} 0 1 = cc in omega arith)
index-found {A} key n (y ∷ es) x e = go (same_bytes (key y) n) e (index-found key n es x)
  where
    go : (b : Bool) → ◌≡◌ {A = Option A} (elim b [ true ↦ Some y | false ↦ find key n es ]) (Some x) → (find key n es ≡ Some x → index key n es < length es) →
        elim b as (λ _. ℕ) [ true ↦ 0 | false ↦ suc (index key n es) ] < suc (length es)
    go true f later = omega arith
    go false f later = omega (arith, later f)

pub found_all : {A : Type 0} (P : A → Type 0) (key : A → Name) (n : Name) (es : List A) (x : A) → AllByRecursion P es → find key n es ≡ Some x → P x
found_all P key n [] x h e = absurd (let z : ◌≡◌ {A = ℕ} 0 1 = cc in omega arith)
found_all {A} P key n (y ∷ es) x h e = go (same_bytes (key y) n) e (found_all P key n es x h.1)
  where
    go : (b : Bool) → ◌≡◌ {A = Option A} (elim b [ true ↦ Some y | false ↦ find key n es ]) (Some x) → (find key n es ≡ Some x → P x) → P x
    go true f later = let s : y ≡ x = cc in subst P s h.0
    go false f later = later f

-- the entry of a function that is found
pub record Listed (G : List Function) (i : ℕ) (f : Fun) : Type 0 where
  pub inside : i < length G
  pub regions : (function_at G i).regions ≡ length f.regions
  pub params : (function_at G i).params ≡ length f.params

pub listed_found : (at : ℕ) (fs : List Fun) (n : Name) (f : Fun) → find_function fs n ≡ Some f → Listed (listed_from at fs) (function_index fs n) f
listed_found at [] n f e = absurd (let z : ◌≡◌ {A = ℕ} 0 1 = cc in omega arith)
listed_found at (g ∷ fs) n f e = go (same_bytes g.name.name n) e (listed_found (at + block_size g.body) fs n f)
  where
    go : (b : Bool) → ◌≡◌ {A = Option Fun} (elim b [ true ↦ Some g | false ↦ find_function fs n ]) (Some f) →
        (find_function fs n ≡ Some f → Listed (listed_from (at + block_size g.body) fs) (function_index fs n) f) →
        Listed (listed_from at (g ∷ fs)) (elim b as (λ _. ℕ) [ true ↦ 0 | false ↦ suc (function_index fs n) ]) f
    go true s later = let h : g ≡ f = cc in subst (Listed (listed_from at (g ∷ fs)) 0) h (record { inside = omega arith; regions = refl; params = refl })
    go false s later =
        let k = later s in
        record { inside = omega (arith, k.inside); regions = k.regions; params = k.params }
