-- What a page store's invariant says of its regions. Assumes nothing.
use Rattle.std.proofs.Common.{◌≡◌, ℕ, zero, suc, ◌+◌, ◌-◌, ◌/◌, ◌%◌, ◌<◌, ◌≤◌, List, [], ◌∷◌, length, get_or, map, sym, ap, ◌∙◌, ⊎_elim, arith}
use Rattle.std.proofs.lemmas.List.{length-map, length-take-le, get_or-take, get_or_past, ext_get_or}
use Rattle.std.proofs.lemmas.Bool.{cases_lt}
use Rattle.std.proofs.lemmas.List.Elements.{All-get_or}
use Rattle.std.specs.Prelude.{All}
use Rattle.regions.specs.Model.{Regions, lengths, region}
use Rattle.regions.specs.Rules.{pages_of, pages_total}
use Rattle.pages.specs.Chain.{walk, chain, chains, lengths_of, none, IsEnded, times, times_in, at_most, gather, words_of}
use Rattle.pages.specs.Held.{holds, way}
use Rattle.pages.specs.declared.chain.Chain.{Chain}
use Rattle.pages.specs.declared.pages.Pages.{Pages}
use Rattle.pages.proofs.Lists.{get_or-map_default}
use Rattle.pages.proofs.Links.{bounded_one, bounded_none, times-at, times-two, length-walk}
use Rattle.pages.proofs.Words.{Inside, inside-at, length-gather, gather-at}

pages_at : (cs : List Chain) (i : ℕ) → pages_of (get_or cs i none).length ≤ pages_total (lengths_of cs)
pages_at [] i = omega arith
pages_at (c ∷ cs) zero = omega arith
pages_at (c ∷ cs) (suc i) = omega (arith, pages_at cs i)

-- what chains hold over pages and links
abbrev pub held : List (List ℕ) → List ℕ → List Chain → Regions
held ps next cs = map (words_of ps next) cs

-- what the invariant says of pages, links, chains, the first free page, how many are free, and how many there may be
pub record Kept (ps : List (List ℕ)) (next : List ℕ) (cs : List Chain) (f n m : ℕ) : Type 0 where
  pub sized : (length ps ≡ 256) × (length next ≡ 256)
  pub wide : All (λ p. length p ≡ 16) ps
  pub few : (length cs ≤ 64) × (m ≤ 256)
  pub sum : pages_total (lengths_of cs) + n ≡ m
  pub once : (x : ℕ) → times_in x (chains next cs) + times x (walk next f n) ≤ at_most x
  pub ends : All (IsEnded next) cs

-- the chain of the region at p
abbrev pub at : Pages → ℕ → Chain
at x p = get_or x.stack.items p none

-- the pages that are free
abbrev pub rest : Pages → List ℕ
rest x = walk x.next x.free x.left

module _ (x : Pages) where
  pub wide_at : (p : ℕ) → p < 256 → length (get_or x.pages p []) ≡ 16
  wide_at p h = All-get_or (λ (q : List ℕ). length q ≡ 16) x.pages p [] (omega (arith, x.sized.0, h)) x.wide

  pub ended : (p : ℕ) → p < length x.stack.items → IsEnded x.next (at x p)
  ended p h = All-get_or (IsEnded x.next) x.stack.items p none h x.ends

  pub chain_at : (p : ℕ) → get_or (chains x.next x.stack.items) p [] ≡ way x p
  chain_at p = get_or-map_default (chain x.next) x.stack.items p none

  -- a page of a region is in no other, and not free
  pub apart : (q p j : ℕ) → (j ≡ p → ⊥) → 1 ≤ times q (way x p) → times q (way x j) ≡ 0
  apart q p j ne h = omega (arith, times-two q (chains x.next x.stack.items) p j ne, x.once q, bounded_one q, ap (times q) (chain_at p), ap (times q) (chain_at j))

  pub once_in : (q p : ℕ) → times q (way x p) + times q (rest x) ≤ 1
  once_in q p = omega (arith, times-at q (chains x.next x.stack.items) p, x.once q, bounded_one q, ap (times q) (chain_at p))

  pub inside : (p : ℕ) → Inside (way x p)
  inside p q g = omega (arith, times-at q (chains x.next x.stack.items) p, x.once q, bounded_none q g, ap (times q) (chain_at p))

  pub length-way : (p : ℕ) → length (way x p) ≡ pages_of (at x p).length
  length-way p = length-walk x.next (at x p).top (pages_of (at x p).length)

  pub page_below : (p i : ℕ) → i < length (way x p) → get_or (way x p) i 0 < 256
  page_below p i h = inside-at (way x p) i (inside p) h

  -- where there are pages, there is a region
  pub here : (p i : ℕ) → i < length (way x p) → p < length x.stack.items
  here p i h =
      ⊎_elim
      (λ (l : p < length x.stack.items). l)
      (λ (g : length x.stack.items ≤ p). absurd (omega (arith, h, length-way p, ap (λ (c : Chain). pages_of c.length) (get_or_past x.stack.items p none g))))
      (cases_lt p (length x.stack.items))

  -- the region at p has as many words as its length says
  pub region_is : (p : ℕ) → region (holds x) p ≡ words_of x.pages x.next (at x p)
  region_is p = get_or-map_default (words_of x.pages x.next) x.stack.items p none

  pub length_is : (p : ℕ) → length (region (holds x) p) ≡ (at x p).length
  length_is p =
      ap length (region_is p)
      ∙ length-take-le (at x p).length (gather x.pages (way x p))
      (omega (arith, length-gather x.pages wide_at (way x p) (inside p), length-way p))

  pub lengths_are : lengths (holds x) ≡ lengths_of x.stack.items
  lengths_are =
      ext_get_or 0 _ _ (length-map (holds x) length ∙ length-map x.stack.items (words_of x.pages x.next) ∙ sym (length-map x.stack.items (λ c. c.length)))
      (λ i h. get_or-map_default length (holds x) i [] ∙ length_is i ∙ sym (get_or-map_default (λ (c : Chain). c.length) x.stack.items i none))

  pub count_is : length (holds x) ≡ length x.stack.items
  count_is = length-map x.stack.items (words_of x.pages x.next)

  pub fits : (p : ℕ) → pages_of (at x p).length + x.left ≤ 256
  fits p = omega (arith, x.sum, x.few.1, pages_at x.stack.items p)

  -- the word at i of the region at p
  pub word_is : (p i : ℕ) → i < (at x p).length → get_or (region (holds x) p) i 0 ≡ get_or (get_or x.pages (get_or (way x p) (((at x p).length - 1) / 16 - i / 16) 0) []) (i % 16) 0
  word_is p i l =
      let w = way x p in
      let n = length-way p in
      let e : length w - 1 - i / 16 ≡ ((at x p).length - 1) / 16 - i / 16 = omega (arith, n) in
      ap (λ r. get_or r i 0) (region_is p)
      ∙ get_or-take (at x p).length (gather x.pages w) i 0 l
      ∙ gather-at x.pages wide_at w i (inside p) (omega (arith, n))
      ∙ ap (λ b. get_or (get_or x.pages (get_or w b 0) []) (i % 16) 0) e
