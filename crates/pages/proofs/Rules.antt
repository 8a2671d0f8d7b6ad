-- What the rule of a page store grants. Assumes nothing.
use Rattle.std.proofs.Common.{◌≡◌, ℕ, zero, suc, ◌+◌, ◌<◌, ◌≤◌, min, Bool, true, false, leb, List, [], ◌∷◌, ◌++◌, length, get_or, set, sym, refl, ap, ◌∙◌, ⊎_elim, arith}
use Rattle.std.proofs.lemmas.List.{length_push, length-map, length-set, map-set, set-set, get_or-set_same, append_assoc}
use Rattle.std.proofs.lemmas.Bool.{and_from, le-leb, lt-leb, cases_lt}
use Rattle.std.specs.List.{AllWithin, HoldsAt}
use Rattle.std.specs.Bool.{MatchBool}
use Rattle.regions.specs.Model.{Regions, lengths, region, longer, within, may_open, may_put}
use Rattle.regions.specs.Rules.{pages_of, pages_total, pages_rule}
use Rattle.std.proofs.Math.Bool.{and-true, and-false}
use Rattle.pages.specs.Chain.{lengths_of, none}
use Rattle.pages.specs.Held.{holds}
use Rattle.pages.specs.declared.chain.Chain.{Chain}
use Rattle.pages.specs.declared.pages.Pages.{Pages}
use Rattle.pages.proofs.Lists.{get_or-map_default, pages_set}
use Rattle.pages.proofs.States.{at, lengths_are, count_is, length_is}

pub pages_none : (ls : List ℕ) → pages_total (ls ++ 0 ∷ []) ≡ pages_total ls
pages_none [] = refl
pages_none (l ∷ ls) = ap (λ n. pages_of l + n) (pages_none ls)

-- two comparisons that differ by what stands on both sides
leb_moved : (a b c d t o : ℕ) → a + o ≡ t + c → b + o ≡ t + d → leb a b ≡ leb c d
leb_moved a b c d t o e f =
    ⊎_elim
    (λ (l : c < d + 1). le-leb a b (omega arith) ∙ sym (le-leb c d (omega arith)))
    (λ (g : d + 1 ≤ c). lt-leb a b (omega arith) ∙ sym (lt-leb c d (omega arith)))
    (cases_lt c (d + 1))

module _ (x : Pages) where
  -- a region more
  pub may_open_is : may_open (pages_rule x.most) (holds x) ≡ leb (length x.stack.items + 1) 64
  may_open_is =
      let ls = lengths_of x.stack.items in
      ap (λ ks. pages_rule x.most (ks ++ 0 ∷ [])) (lengths_are x)
      ∙ rw (length_push ls 0, length-map x.stack.items (λ (c : Chain). c.length), le-leb (pages_total (ls ++ 0 ∷ [])) (min x.most 256) (omega (arith, pages_none ls, x.sum, x.few.1))) (and-true (leb (length x.stack.items + 1) 64))

  module _ (p : ℕ) (here : p < length x.stack.items) where
    -- new words for the region at p are granted where the pages that are left suffice
    pub may_put_is : (new : List ℕ) (b : Bool) → leb (pages_of ((at x p).length + length new)) (pages_of (at x p).length + x.left) ≡ b → may_put (pages_rule x.most) (holds x) p new ≡ b
    may_put_is new b e =
        let cs = x.stack.items in
        let n = length new in
        let c : Chain = record { top = 0; bottom = 0; length = (at x p).length + n } in
        let ls = lengths_of (set cs p c) in
        let grown : longer (lengths (holds x)) p n ≡ ls =
        ap (λ ks. longer ks p n) (lengths_are x)
        ∙ ap (λ k. set (lengths_of cs) p (k + n)) (get_or-map_default (λ (d : Chain). d.length) cs p none)
        ∙ sym (map-set (λ (d : Chain). d.length) cs p c)
        in
        ap (pages_rule x.most) grown
        ∙ rw (length-map (set cs p c) (λ (d : Chain). d.length), length-set cs p c, le-leb (length cs) 64 x.few.0)
        (leb_moved (pages_total ls) (min x.most 256) (pages_of ((at x p).length + n)) (pages_of (at x p).length + x.left) (pages_total (lengths_of cs)) (pages_of (at x p).length) (pages_set (λ (d : Chain). d.length) cs p c none here) (omega (arith, x.sum, x.few.1)))
        ∙ e

    -- one word more
    module _ (y : Pages) (w : ℕ) (held : holds y ≡ set (holds x) p (region (holds x) p ++ w ∷ [])) (most : y.most ≡ x.most) where
      longer_by_one : length (region (holds x) p ++ w ∷ []) ≡ (at x p).length + 1
      longer_by_one = length_push (region (holds x) p) w ∙ ap (λ k. k + 1) (length_is x p)

      pub length_after : length (region (holds y) p) ≡ (at x p).length + 1
      length_after = ap (λ rs. length (region rs p)) held ∙ ap length (get_or-set_same (holds x) p (region (holds x) p ++ w ∷ []) [] (omega (arith, count_is x, here))) ∙ longer_by_one

      pub left_after : pages_of ((at x p).length + 1) + y.left ≡ pages_of (at x p).length + x.left
      left_after =
          omega (arith, x.sum, y.sum, most, ap pages_total (lengths_are x), ap pages_total (lengths_are y), ap (λ rs. pages_total (lengths rs)) held, pages_set length (holds x) p (region (holds x) p ++ w ∷ []) [] (omega (arith, count_is x, here)), ap pages_of longer_by_one, ap pages_of (length_is x p))

-- two words, one after the other
pub put_two : (rs rs' rs'' : Regions) (p v w : ℕ) → p < length rs → rs' ≡ set rs p (region rs p ++ v ∷ []) → rs'' ≡ set rs' p (region rs' p ++ w ∷ []) → rs'' ≡ set rs p (region rs p ++ v ∷ w ∷ [])
put_two rs rs' rs'' p v w h e f =
    f
    ∙ ap (λ qs. set qs p (region qs p ++ w ∷ [])) e
    ∙ set-set rs p (region rs p ++ v ∷ []) (region (set rs p (region rs p ++ v ∷ [])) p ++ w ∷ [])
    ∙ ap (λ r. set rs p (r ++ w ∷ [])) (get_or-set_same rs p (region rs p ++ v ∷ []) [] h)
    ∙ ap (set rs p) (append_assoc (region rs p) (v ∷ []) (w ∷ []))

-- whether no chain is longer than m, as it was found
within_yes : (m : ℕ) (cs : List Chain) → AllWithin (λ c. c.length ≤ m) cs 0 (length cs) → within m (lengths_of cs) ≡ true
within_yes m [] h = refl
within_yes m (c ∷ cs) h = and_from (leb c.length m) (within m (lengths_of cs)) (le-leb c.length m (h 0 none (omega arith) (omega arith))) (within_yes m cs (λ k d a b. h (suc k) d (omega arith) (omega arith)))

within_no : (m : ℕ) (cs : List Chain) (k : ℕ) → k < length cs → m < (get_or cs k none).length → within m (lengths_of cs) ≡ false
within_no m [] k h g = absurd (omega arith)
within_no m (c ∷ cs) zero h g = rw (lt-leb c.length m g)
within_no m (c ∷ cs) (suc k) h g = rw (within_no m cs k (omega arith) g) (and-false (leb c.length m))

pub within_all : (m : ℕ) (cs : List Chain) (r : Bool) → MatchBool r (AllWithin (λ c. c.length ≤ m) cs 0 (length cs)) ((k : ℕ) × (k < length cs) × HoldsAt (λ c. m < c.length) cs k) → r ≡ within m (lengths_of cs)
within_all m cs true h = sym (within_yes m cs h)
within_all m cs false h = sym (within_no m cs h.0 h.1 (h.2 none))
