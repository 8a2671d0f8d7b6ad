-- What each operation answers and leaves, case by case, and what an answer tells. Assumes nothing.
use Rattle.std.proofs.Common.{◌≡◌, ℕ, ◌<◌, ◌≤◌, true, false, List, [], ◌∷◌, ◌++◌, length, get_or, set, Ok, Err, arith}
use Rattle.std.proofs.lemmas.Bool.{lt-ltb, le-ltb}
use Rattle.std.proofs.lemmas.Bool.Decides.{nat_tests}
use Rattle.regions.specs.declared.refusal.Refusal.TheVariants.{Denied, NoRegion, NoWord}
use Rattle.regions.specs.Model.{Regions, Rule, region, may_open, open_answer, open_after, may_put, put_answer, put_after, get_answer, close_answer}

module _ (g : Rule) (rs : Regions) where
  pub open_denied : may_open g rs ≡ false → (open_answer g rs ≡ Err Denied) × (open_after g rs ≡ rs)
  open_denied e = (rw e, rw e)

  pub open_granted : may_open g rs ≡ true → (open_answer g rs ≡ Ok tt) × (open_after g rs ≡ rs ++ [] ∷ [])
  open_granted e = (rw e, rw e)

  pub put_none : (p : ℕ) (new : List ℕ) → length rs ≤ p → (put_answer g rs p new ≡ Err NoRegion) × (put_after g rs p new ≡ rs)
  put_none p new h = (rw (le-ltb p (length rs) h), rw (le-ltb p (length rs) h))

  pub put_denied : (p : ℕ) (new : List ℕ) → p < length rs → may_put g rs p new ≡ false → (put_answer g rs p new ≡ Err Denied) × (put_after g rs p new ≡ rs)
  put_denied p new h e = (rw (lt-ltb p (length rs) h, e), rw (lt-ltb p (length rs) h, e))

  pub put_granted : (p : ℕ) (new : List ℕ) → p < length rs → may_put g rs p new ≡ true → (put_answer g rs p new ≡ Ok (length (region rs p))) × (put_after g rs p new ≡ set rs p (region rs p ++ new))
  put_granted p new h e = (rw (lt-ltb p (length rs) h, e), rw (lt-ltb p (length rs) h, e))

module _ (rs : Regions) (p i : ℕ) where
  pub get_none : length rs ≤ p → get_answer rs p i ≡ Err NoRegion
  get_none h = rw (le-ltb p (length rs) h)

  pub get_past : p < length rs → length (region rs p) ≤ i → get_answer rs p i ≡ Err NoWord
  get_past h l = rw (lt-ltb p (length rs) h, le-ltb i (length (region rs p)) l)

  pub get_word : p < length rs → i < length (region rs p) → get_answer rs p i ≡ Ok (get_or (region rs p) i 0)
  get_word h l = rw (lt-ltb p (length rs) h, lt-ltb i (length (region rs p)) l)

  pub told_word : (w : ℕ) → get_answer rs p i ≡ Ok w → (p < length rs) × (i < length (region rs p))
  told_word w e = grind (arith, nat_tests)

  pub told_past : get_answer rs p i ≡ Err NoWord → (p < length rs) × (length (region rs p) ≤ i)
  told_past e = grind (arith, nat_tests)

pub close_some : (rs : Regions) → 0 < length rs → close_answer rs ≡ Ok tt
close_some rs h = rw (lt-ltb 0 (length rs) h)
