-- A new store: its pages in order, all of them free. Assumes nothing.
use Rattle.std.proofs.Common.{◌≡◌, ℕ, zero, suc, ◌+◌, ◌<◌, ◌≤◌, Bool, true, false, cond, eqb, List, get_or, refl, ⊎_elim, arith}
use Rattle.std.proofs.lemmas.Bool.{ne_eqb, lt-ltb, cases_lt}
use Rattle.pages.proofs.Links.{times-cons}
use Rattle.pages.specs.Chain.{walk, times, at_most}

at_one : (b : Bool) → cond {A = ℕ} b 1 0 ≤ 1
at_one true = omega arith
at_one false = omega arith

module _ (next : List ℕ) (all : (k : ℕ) → k < 256 → get_or next k 0 ≡ k + 1) (x : ℕ) where
  counted : (p n : ℕ) → p + n ≤ 256 → (x < p → times x (walk next p n) ≡ 0) × (p + n ≤ x → times x (walk next p n) ≡ 0) × (times x (walk next p n) ≤ 1)
  counted p zero h = ((λ _. refl), (λ _. refl), omega arith)
  counted p (suc n) h =
      let e = all p (omega arith) in
      let w = walk next (get_or next p 0) n in
      let ih : (x < p + 1 → times x w ≡ 0) × (p + 1 + n ≤ x → times x w ≡ 0) × (times x w ≤ 1) = rw e (counted (p + 1) n (omega arith)) in
      let off : (x ≡ p → ⊥) → ◌≡◌ {A = ℕ} (cond (eqb x p) 1 0) 0 = λ ne. rw (ne_eqb x p ne) in
      let front = times-cons x p w in (
        (λ l. omega (arith, front, off (λ q. omega arith), ih.0 (omega arith))),
        (λ g. omega (arith, front, off (λ q. omega arith), ih.1 (omega arith))),
        ⊎_elim
            (λ (l : x < p + 1). omega (arith, front, ih.0 l, at_one (eqb x p)))
            (λ (g : p + 1 ≤ x). omega (arith, front, off (λ q. omega arith), ih.2))
            (cases_lt x (p + 1)),
      )

  pub free_once : (n : ℕ) → n ≤ 256 → times x (walk next 0 n) ≤ at_most x
  free_once n h =
      let t = counted 0 n (omega arith) in
      ⊎_elim (λ (l : x < 256). rw (lt-ltb x 256 l) t.2) (λ (g : 256 ≤ x). omega (arith, t.1 (omega arith))) (cases_lt x 256)
