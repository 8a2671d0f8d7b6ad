-- The first place at which an entry bears a name.
use Rattle.std.proofs.Common.{◌≡◌, ℕ, suc, ◌+◌, ◌<◌, Bool, true, false, cond, not, ltb, List, [], ◌∷◌, length, get_or, Some, None, refl, sym, subst, arith, lt-ltb, ltb-false, unwrap_or, MatchOption}
use Rattle.std.specs.List.{position_or_len}
use Rattle.std.proofs.lemmas.List.Sums.{prefix_len-le-length}
use Rattle.lexing.specs.Tokens.{same_bytes}
use Rattle.language.specs.Types.{Name}
use Rattle.language.specs.Scope.{find}
use Rattle.scope.specs.Searches.{First}

behind : {A : Type 0} (key : A → Name) (n : Name) (e : A) (es : List A) (b : Bool) (p : ℕ)
    → MatchOption (cond b (Some p) None) (find key n es ≡ None) (λ i. First key n es i)
    → MatchOption (cond b (Some (suc p)) None) (find key n es ≡ None) (λ i. (i < suc (length es)) × ((d : A) → find key n es ≡ Some (get_or (e ∷ es) i d)))
behind key n e es true p h = (omega (arith, h.0), λ d. h.1 d)
behind key n e es false p h = h

ltb-suc : (p n : ℕ) → ltb p n ≡ ltb (suc p) (suc n)
ltb-suc p n = grind arith

stepped : {A : Type 0} (key : A → Name) (n : Name) (e : A) (es : List A) (p : ℕ) (v : Bool)
    → MatchOption (cond (ltb p (length es)) (Some p) None) (find key n es ≡ None) (λ i. First key n es i)
    → MatchOption (cond (ltb (cond (not v) (1 + p) 0) (suc (length es))) (Some (cond (not v) (1 + p) 0)) None)
    (elim v [ true ↦ Some e | false ↦ find key n es ] ≡ None)
    (λ i. (i < suc (length es)) × ((d : A) → elim v [ true ↦ Some e | false ↦ find key n es ] ≡ Some (get_or (e ∷ es) i d)))
stepped {A} key n e es p true h =
    subst (λ b. MatchOption (cond b (Some 0) None) (Some e ≡ None) (λ i. (i < suc (length es)) × ((d : A) → Some e ≡ Some (get_or (e ∷ es) i d))))
    (sym (lt-ltb 0 (suc (length es)) (omega arith))) (omega arith, λ d. refl)
stepped {A} key n e es p false h =
    let more : suc p ≡ 1 + p = omega arith in
    subst (λ q. MatchOption (cond (ltb q (suc (length es))) (Some q) None) (find key n es ≡ None) (λ i. (i < suc (length es)) × ((d : A) → find key n es ≡ Some (get_or (e ∷ es) i d)))) more
    (behind key n e es (ltb (suc p) (suc (length es))) p (subst (λ b. MatchOption (cond b (Some p) None) (find key n es ≡ None) (λ i. First key n es i)) (ltb-suc p (length es)) h))

-- the place at which the test of bytes first passes is that of the first entry of the name
pub placed : {A : Type 0} (key : A → Name) (n : Name) (es : List A)
    → MatchOption (cond (ltb (position_or_len (λ e. same_bytes (key e) n) es) (length es)) (Some (position_or_len (λ e. same_bytes (key e) n) es)) None) (find key n es ≡ None) (λ i. First key n es i)
placed key n [] = refl
placed key n (e ∷ es) = stepped key n e es (position_or_len (λ e. same_bytes (key e) n) es) (same_bytes (key e) n) (placed key n es)

-- the number of items before the first that passes, or the length where none does
pub counted : {A : Type 0} (test : A → Bool) (es : List A) →
    unwrap_or (cond (ltb (position_or_len test es) (length es)) (Some (position_or_len test es)) None) (length es) ≡ position_or_len test es
counted {A} test es = go (ltb p (length es)) refl
  where
    p : ℕ
    p = position_or_len test es

    go : (b : Bool) → ltb p (length es) ≡ b → unwrap_or (cond b (Some p) None) (length es) ≡ p
    go true t = refl
    go false t = omega (arith, ltb-false p (length es) t, prefix_len-le-length {X = A} (λ e. not (test e)) es)
