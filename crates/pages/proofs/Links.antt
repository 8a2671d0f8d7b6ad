-- How links change, and which chains do not. Assumes nothing.
use Rattle.std.proofs.Common.{◌≡◌, ℕ, zero, suc, ◌+◌, ◌-◌, ◌<◌, ◌≤◌, cond, eqb, List, [], ◌∷◌, ◌++◌, length, get_or, set, sym, refl, ap, ◌∙◌, subst, ⊎_elim, arith}
use Rattle.std.proofs.lemmas.List.{get_or-set_same, get_or-set_other}
use Rattle.std.proofs.lemmas.List.Sums.{sum_by-cons, get_or-le-sum_by}
use Rattle.std.proofs.lemmas.Bool.{eq-eqb, cases_lt, lt-ltb, le-ltb}
use Rattle.pages.specs.Chain.{walk, times, times_in, at_most}

pub times-cons : (x y : ℕ) (ys : List ℕ) → times x (y ∷ ys) ≡ cond (eqb x y) 1 0 + times x ys
times-cons x y ys = sum_by-cons (λ z. cond (eqb x z) 1 0) y ys

pub head_once : (x : ℕ) (ys : List ℕ) → times x (x ∷ ys) ≡ 1 + times x ys
head_once x ys = times-cons x x ys ∙ ap (λ b. cond b 1 0 + times x ys) (eq-eqb x x refl)

-- a page that stands nowhere in a list is not its head
pub not_head : (x y : ℕ) (ys : List ℕ) → times x (y ∷ ys) ≡ 0 → x ≡ y → ⊥
not_head x y ys h e = omega (arith, h, times-cons x y ys, ap (λ b. cond {A = ℕ} b 1 0) (eq-eqb x y e))

pub not_tail : (x y : ℕ) (ys : List ℕ) → times x (y ∷ ys) ≡ 0 → times x ys ≡ 0
not_tail x y ys h = omega (arith, h, times-cons x y ys)

pub times-there : (xs : List ℕ) (i : ℕ) → i < length xs → 1 ≤ times (get_or xs i 0) xs
times-there xs i h =
    let x = get_or xs i 0 in
    omega (arith, get_or-le-sum_by (λ z. cond (eqb x z) 1 0) xs i 0 h, ap (λ b. cond {A = ℕ} b 1 0) (eq-eqb x x refl))

pub bounded_one : (x : ℕ) → at_most x ≤ 1
bounded_one x = ⊎_elim (λ (h : x < 256). rw (lt-ltb x 256 h) (omega arith)) (λ (h : 256 ≤ x). rw (le-ltb x 256 h) (omega arith)) (cases_lt x 256)

pub bounded_none : (x : ℕ) → 256 ≤ x → at_most x ≡ 0
bounded_none x h = rw (le-ltb x 256 h)

-- how often x stands in one chain, or in two
module _ (x : ℕ) where
  pub times-at : (cs : List (List ℕ)) (i : ℕ) → times x (get_or cs i []) ≤ times_in x cs
  times-at [] i = omega arith
  times-at (c ∷ cs) zero = omega (arith, sum_by-cons (times x) c cs)
  times-at (c ∷ cs) (suc i) = omega (arith, sum_by-cons (times x) c cs, times-at cs i)

  pub times-two : (cs : List (List ℕ)) (i j : ℕ) → (j ≡ i → ⊥) → times x (get_or cs i []) + times x (get_or cs j []) ≤ times_in x cs
  times-two [] i j ne = omega arith
  times-two (c ∷ cs) zero zero ne = absurd (ne refl)
  times-two (c ∷ cs) zero (suc j) ne = omega (arith, sum_by-cons (times x) c cs, times-at cs j)
  times-two (c ∷ cs) (suc i) zero ne = omega (arith, sum_by-cons (times x) c cs, times-at cs i)
  times-two (c ∷ cs) (suc i) (suc j) ne = omega (arith, sum_by-cons (times x) c cs, times-two cs i j (λ e. ne (ap suc e)))

-- a link out of a page that is not on the way changes nothing
pub walk_same : (next : List ℕ) (x v p n : ℕ) → times x (walk next p n) ≡ 0 → walk (set next x v) p n ≡ walk next p n
walk_same next x v p zero h = refl
walk_same next x v p (suc n) h =
    let rest = walk next (get_or next p 0) n in
    let e : get_or (set next x v) p 0 ≡ get_or next p 0 = get_or-set_other next x p v 0 (λ q. not_head x p rest h (sym q)) in
    rw e (ap (λ ys. p ∷ ys) (walk_same next x v (get_or next p 0) n (not_tail x p rest h)))

pub length-walk : (next : List ℕ) (p n : ℕ) → length (walk next p n) ≡ n
length-walk next p zero = refl
length-walk next p (suc n) = ap suc (length-walk next (get_or next p 0) n)

pub walk_step : (next : List ℕ) (p n i : ℕ) → i + 1 < n → get_or (walk next p n) (i + 1) 0 ≡ get_or next (get_or (walk next p n) i 0) 0
walk_step next p zero i h = absurd (omega arith)
walk_step next p (suc zero) i h = absurd (omega arith)
walk_step next p (suc (suc n)) zero h = refl
walk_step next p (suc (suc n)) (suc i) h =
    let e : suc i + 1 ≡ suc (i + 1) = omega arith in
    rw e (walk_step next (get_or next p 0) (suc n) i (omega arith))

pub walk-front : (next : List ℕ) (p n : ℕ) → 0 < n → walk next p n ≡ p ∷ walk next (get_or next p 0) (n - 1)
walk-front next p zero h = absurd (omega arith)
walk-front next p (suc n) h = let e : suc n - 1 ≡ n = omega arith in rw e

pub walk_first : (next : List ℕ) (p n : ℕ) → 0 < n → get_or (walk next p n) 0 0 ≡ p
walk_first next p n h = ap (λ ps. get_or ps 0 0) (walk-front next p n h)

-- a link from the last page of a walk to another walk joins them
pub walk-join : (next : List ℕ) (b f m t n : ℕ) → 0 < n → get_or (walk next t n) (n - 1) 0 ≡ b → times b (walk next t n) ≤ 1 → times b (walk next f m) ≡ 0 → b < length next → walk (set next b f) t (n + m) ≡ walk next t n ++ walk next f m
walk-join next b f m t zero h e once none l = absurd (omega arith)
walk-join next b f m t (suc zero) h e once none l =
    let k : suc zero + m ≡ suc m = omega arith in
    let there : get_or (set next b f) t 0 ≡ f = ap (λ q. get_or (set next b f) q 0) e ∙ get_or-set_same next b f 0 l in
    ap (walk (set next b f) t) k ∙ ap (λ q. t ∷ walk (set next b f) q m) there ∙ ap (λ ys. t ∷ ys) (walk_same next b f f m none)
walk-join next b f m t (suc (suc n)) h e once none l =
    let k : suc (suc n) + m ≡ suc (suc n + m) = omega arith in
    let rest = walk next (get_or next t 0) (suc n) in
    let i : suc (suc n) - 1 ≡ suc n = omega arith in
    let i' : suc n - 1 ≡ n = omega arith in
    let e' : get_or rest (suc n - 1) 0 ≡ b = ap (λ q. get_or rest q 0) i' ∙ sym (ap (λ q. get_or (t ∷ rest) q 0) i) ∙ e in
    let at : 1 ≤ times b rest = let P : ℕ → Type 0 = λ q. 1 ≤ times q rest in subst P e' (times-there rest (suc n - 1) (omega (arith, length-walk next (get_or next t 0) (suc n)))) in
    let ne : (t ≡ b → ⊥) = λ q. omega (arith, times-cons b t rest, ap (λ z. cond {A = ℕ} z 1 0) (eq-eqb b t (sym q))) in
    let there : get_or (set next b f) t 0 ≡ get_or next t 0 = get_or-set_other next b t f 0 ne in
    ap (walk (set next b f) t) k ∙ ap (λ q. t ∷ walk (set next b f) q (suc n + m)) there
    ∙ ap (λ ys. t ∷ ys) (walk-join next b f m (get_or next t 0) (suc n) (omega arith) e' (omega (arith, once, times-cons b t rest)) none l)
