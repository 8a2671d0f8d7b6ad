-- A page store after one word more. Assumes nothing.
use Rattle.std.proofs.Common.{◌≡◌, ℕ, suc, ◌+◌, ◌-◌, ◌%◌, ◌<◌, ◌≤◌, cond, eqb, List, [], ◌∷◌, ◌++◌, length, get_or, map, take, drop, set, sym, refl, ap, ◌∙◌, ⊎_elim, arith}
use Rattle.std.proofs.lemmas.List.{length-map, length-set, map-set, set-get_or, get_or-set_same}
use Rattle.std.proofs.lemmas.Bool.{eq-eqb, ne_eqb, cases_lt}
use Rattle.std.proofs.lemmas.List.Sums.{sum_by-set}
use Rattle.std.proofs.lemmas.List.Elements.{All-set, All-from_get_or}
use Rattle.regions.specs.Model.{region}
use Rattle.regions.specs.Rules.{pages_of}
use Rattle.pages.specs.Chain.{walk, chain, chains, none, IsEnded, oldest, times, times_in, gather, words_of}
use Rattle.pages.specs.Held.{holds, way}
use Rattle.pages.specs.declared.chain.Chain.{Chain}
use Rattle.pages.specs.declared.pages.Pages.{Pages}
use Rattle.pages.proofs.Lists.{map_one, pages_set}
use Rattle.pages.proofs.Links.{times-cons, length-walk, walk_same, walk-front, head_once, bounded_none}
use Rattle.pages.proofs.Words.{Inside, gather_same, gather_on, gather_new}
use Rattle.pages.proofs.States.{Kept, length-way, held, wide_at, at, rest, ended, chain_at, apart, once_in, inside, page_below, region_is, length_is}

-- the pages with the word w behind those of a chain, in its newest page or in the first free one, and the chain then
abbrev pub pages_on : Pages → Chain → ℕ → List (List ℕ)
pages_on x c w = set x.pages c.top (set (get_or x.pages c.top []) (c.length % 16) w)

abbrev pub chain_on : Chain → Chain
chain_on c = record { top = c.top; bottom = c.bottom; length = c.length + 1 }

abbrev pub pages_new : Pages → ℕ → List (List ℕ)
pages_new x w = set x.pages x.free (set (get_or x.pages x.free []) 0 w)

abbrev pub next_new : Pages → Chain → List ℕ
next_new x c = set x.next x.free c.top

abbrev pub chain_new : Chain → ℕ → ℕ → Chain
chain_new c f b = record { top = f; bottom = b; length = c.length + 1 }

-- one more word in the newest page
module _ (x : Pages) (p w : ℕ) (here : p < length x.stack.items) (part : 0 < (at x p).length % 16) where
  some : 0 < pages_of (at x p).length
  some = omega (arith, part)

  more : pages_of ((at x p).length + 1) ≡ pages_of (at x p).length
  more = omega (arith, part)

  abbrev older : List ℕ
  older = walk x.next (get_or x.next (at x p).top 0) (pages_of (at x p).length - 1)

  in_front : way x p ≡ (at x p).top ∷ older
  in_front = walk-front x.next (at x p).top (pages_of (at x p).length) some

  counted : times (at x p).top (way x p) ≡ 1 + times (at x p).top older
  counted = ap (times (at x p).top) in_front ∙ head_once (at x p).top older

  top_low : (at x p).top < 256
  top_low = omega (arith, ap (λ ps. get_or ps 0 0) in_front, page_below x p 0 (omega (arith, some, length-way x p)))

  way_on : chain x.next (chain_on (at x p)) ≡ way x p
  way_on = ap (walk x.next (at x p).top) more

  chains_on : chains x.next (set x.stack.items p (chain_on (at x p))) ≡ chains x.next x.stack.items
  chains_on =
      map-set (chain x.next) x.stack.items p (chain_on (at x p))
      ∙ ap (set (chains x.next x.stack.items) p) (way_on ∙ sym (chain_at x p))
      ∙ set-get_or (chains x.next x.stack.items) p []

  kept : Kept (pages_on x (at x p) w) x.next (set x.stack.items p (chain_on (at x p))) x.free x.left x.most
  kept =
      let t = (at x p).top in
      record {
        sized = (length-set x.pages t _ ∙ x.sized.0, x.sized.1);
        wide = All-set (λ (q : List ℕ). length q ≡ 16) x.pages t _ (length-set (get_or x.pages t []) _ w ∙ wide_at x t top_low) x.wide;
        few = (omega (arith, length-set x.stack.items p (chain_on (at x p)), x.few.0), x.few.1);
        sum = omega (arith, x.sum, pages_set (λ (c : Chain). c.length) x.stack.items p (chain_on (at x p)) none here, more);
        once = (λ q. rw chains_on (x.once q));
        ends = All-set (IsEnded x.next) x.stack.items p (chain_on (at x p)) (λ _. ended x p here (omega (arith, part)) ∙ ap oldest (sym way_on)) x.ends;
      }

  after : held (pages_on x (at x p) w) x.next (set x.stack.items p (chain_on (at x p))) ≡ set (holds x) p (region (holds x) p ++ w ∷ [])
  after =
      let ws = x.pages in
      let next = x.next in
      let t = (at x p).top in
      let l = (at x p).length in
      let v = set (get_or ws t []) (l % 16) w in
      let ws' = set ws t v in
      let inside' : Inside older = λ q g. omega (arith, inside x p q g, ap (times q) in_front, times-cons q t older) in
      let off : (j : ℕ) → (j ≡ p → ⊥) → words_of ws' next (at x j) ≡ words_of ws next (at x j) = λ j ne. ap (take (at x j).length) (gather_same ws t v (way x j) (apart x t p j ne (omega (arith, counted)))) in
      let grown : words_of ws' next (chain_on (at x p)) ≡ region (holds x) p ++ w ∷ [] =
      ap (λ ps. take (l + 1) (gather ws' ps)) (way_on ∙ in_front)
      ∙ gather_on ws (wide_at x) x.sized.0 t l older top_low inside' (omega (arith, counted, once_in x t p)) (l % 16) w (omega arith) (omega (arith, length-walk next (get_or next t 0) (pages_of l - 1), part))
      ∙ ap (λ ps. take l (gather ws ps) ++ w ∷ []) (sym in_front)
      ∙ ap (λ r. r ++ w ∷ []) (sym (region_is x p))
      in
      map_one (words_of ws next) (words_of ws' next) none x.stack.items p (chain_on (at x p)) off
      ∙ ap (set (holds x) p) grown

-- the first free page
module _ (x : Pages) (some : 0 < x.left) where
  abbrev others : List ℕ
  others = walk x.next (get_or x.next x.free 0) (x.left - 1)

  free_counted : (q : ℕ) → times q (rest x) ≡ cond (eqb q x.free) 1 0 + times q others
  free_counted q = ap (times q) (walk-front x.next x.free x.left some) ∙ times-cons q x.free others

  free_itself : times x.free (rest x) ≡ 1 + times x.free others
  free_itself = ap (times x.free) (walk-front x.next x.free x.left some) ∙ head_once x.free others

  free_below : x.free < 256
  free_below = ⊎_elim (λ (l : x.free < 256). l) (λ (g : 256 ≤ x.free). absurd (omega (arith, x.once x.free, bounded_none x.free g, free_itself))) (cases_lt x.free 256)

  free_alone : times x.free others ≡ 0
  free_alone = omega (arith, once_in x x.free 0, free_itself)

  free_apart : (j : ℕ) → times x.free (way x j) ≡ 0
  free_apart j = omega (arith, once_in x x.free j, free_itself)

-- the oldest of the pages of a chain with one more, which were l words
oldest-cons : (f b l : ℕ) (ps : List ℕ) → length ps ≡ pages_of l → (0 < l → b ≡ oldest ps) → cond (eqb l 0) f b ≡ oldest (f ∷ ps)
oldest-cons f b l [] n e =
    let none : l ≡ 0 = omega (arith, n) in
    ap (λ t. cond t f b) (eq-eqb l 0 none)
oldest-cons f b l (q ∷ ps) n e =
    let some : 0 < l = omega (arith, n) in
    let k : suc (suc (length ps)) - 1 ≡ suc (suc (length ps) - 1) = omega arith in
    ap (λ t. cond t f b) (ne_eqb l 0 (λ z. omega arith)) ∙ e some ∙ sym (ap (λ i. get_or (f ∷ q ∷ ps) i 0) k)

-- the first element of a list that has one
set_first : (v : List ℕ) (w : ℕ) → 0 < length v → set v 0 w ≡ w ∷ drop 1 v
set_first [] w h = absurd (omega arith)
set_first (u ∷ v) w h = refl

-- one more word in a page from the free list
module _ (x : Pages) (p w : ℕ) (here : p < length x.stack.items) (full : (at x p).length % 16 ≡ 0) (some : 0 < x.left) where
  one_more : pages_of ((at x p).length + 1) ≡ suc (pages_of (at x p).length)
  one_more = omega (arith, full)

  abbrev linked_new : List ℕ
  linked_new = next_new x (at x p)

  abbrev grown : Chain
  grown = chain_new (at x p) x.free (cond (eqb (at x p).length 0) x.free (at x p).bottom)

  way_same : (j : ℕ) → chain linked_new (at x j) ≡ way x j
  way_same j = walk_same x.next x.free (at x p).top (at x j).top (pages_of (at x j).length) (free_apart x some j)

  way_new : chain linked_new grown ≡ x.free ∷ way x p
  way_new =
      ap (walk linked_new x.free) one_more
      ∙ ap (λ q. x.free ∷ walk linked_new q (pages_of (at x p).length)) (get_or-set_same x.next x.free (at x p).top 0 (omega (arith, x.sized.1, free_below x some)))
      ∙ ap (λ ps. x.free ∷ ps) (way_same p)

  chains_new : chains linked_new (set x.stack.items p grown) ≡ set (chains x.next x.stack.items) p (x.free ∷ way x p)
  chains_new =
      map_one (chain x.next) (chain linked_new) none x.stack.items p grown (λ j _. way_same j)
      ∙ ap (set (chains x.next x.stack.items) p) way_new

  kept_free : Kept (pages_new x w) linked_new (set x.stack.items p grown) (get_or x.next x.free 0) (x.left - 1) x.most
  kept_free =
      let next = x.next in
      let cs = chains next x.stack.items in
      let fs : walk linked_new (get_or next x.free 0) (x.left - 1) ≡ others x some = walk_same next x.free (at x p).top (get_or next x.free 0) (x.left - 1) (free_alone x some) in
      record {
        sized = (length-set x.pages x.free _ ∙ x.sized.0, length-set x.next x.free _ ∙ x.sized.1);
        wide = All-set (λ (q : List ℕ). length q ≡ 16) x.pages x.free _ (length-set (get_or x.pages x.free []) 0 w ∙ wide_at x x.free (free_below x some)) x.wide;
        few = (omega (arith, length-set x.stack.items p grown, x.few.0), x.few.1);
        sum = omega (arith, x.sum, pages_set (λ (c : Chain). c.length) x.stack.items p grown none here, one_more, some);
        once = (λ q. omega (arith, x.once q, free_counted x some q, ap (times q) fs, ap (times_in q) chains_new, sum_by-set (times q) cs p (x.free ∷ way x p) [] (omega (arith, length-map x.stack.items (chain next), here)), ap (times q) (chain_at x p), times-cons q x.free (way x p)));
        ends = All-set (IsEnded linked_new) x.stack.items p grown
            (λ _. oldest-cons x.free (at x p).bottom (at x p).length (way x p) (length-way x p) (ended x p here) ∙ ap oldest (sym way_new))
            (All-from_get_or (IsEnded linked_new) x.stack.items none (λ i h words. ended x i h words ∙ ap oldest (sym (way_same i))));
      }

  after_free : held (pages_new x w) linked_new (set x.stack.items p grown) ≡ set (holds x) p (region (holds x) p ++ w ∷ [])
  after_free =
      let ws = x.pages in
      let next = x.next in
      let l = (at x p).length in
      let v = set (get_or ws x.free []) 0 w in
      let ws' = set ws x.free v in
      let off : (j : ℕ) → (j ≡ p → ⊥) → words_of ws' linked_new (at x j) ≡ words_of ws next (at x j) = λ j _. ap (λ ps. take (at x j).length (gather ws' ps)) (way_same j) ∙ ap (take (at x j).length) (gather_same ws x.free v (way x j) (free_apart x some j)) in
      let longer : words_of ws' linked_new grown ≡ region (holds x) p ++ w ∷ [] =
      ap (λ ps. take (l + 1) (gather ws' ps)) way_new
      ∙ ap (λ u. take (l + 1) (gather (set ws x.free u) (x.free ∷ way x p))) (set_first (get_or ws x.free []) w (omega (arith, wide_at x x.free (free_below x some))))
      ∙ gather_new ws (wide_at x) x.sized.0 x.free l (way x p) (free_below x some) (inside x p) (free_apart x some p) w (drop 1 (get_or ws x.free [])) (omega (arith, length-way x p, full))
      ∙ ap (λ r. r ++ w ∷ []) (sym (region_is x p))
      in
      map_one (words_of ws next) (words_of ws' linked_new) none x.stack.items p grown off
      ∙ ap (set (holds x) p) longer

-- the chain that was read, with the length that is known
pub known : (x : Pages) (p l : ℕ) (cs : List Chain) → cs ≡ x.stack.items → l ≡ length (region (holds x) p) → ◌≡◌ {A = Chain} (record { top = (get_or cs p none).top; bottom = (get_or cs p none).bottom; length = l }) (at x p)
known x p l cs read long =
    rw read (ap (λ n. record { top = (at x p).top; bottom = (at x p).bottom; length = n }) (long ∙ length_is x p))

-- the same of the chain c that was read, and the chains cs that were written
module _ (x : Pages) (p w : ℕ) (here : p < length x.stack.items) (c : Chain) (read : c ≡ at x p) where
  module _ (part : 0 < c.length % 16) where
    pub top_on : c.top < 256
    top_on = rw read (top_low x p w here (rw (← read) part))

    module _ (cs : List Chain) (written : cs ≡ set x.stack.items p (chain_on c)) where
      pub kept_on : Kept (pages_on x c w) x.next cs x.free x.left x.most
      kept_on = rw (written, read) (kept x p w here (rw (← read) part))

      pub held_on : held (pages_on x c w) x.next cs ≡ set (holds x) p (region (holds x) p ++ w ∷ [])
      held_on = rw (written, read) (after x p w here (rw (← read) part))

  module _ (whole : c.length % 16 ≤ 0) (room : pages_of (length (region (holds x) p) + 1) ≤ pages_of (length (region (holds x) p)) + x.left) where
    full : (at x p).length % 16 ≡ 0
    full = rw (← read) (omega (arith, whole))

    pub some_left : 0 < x.left
    some_left = omega (arith, full, room, length_is x p)

    pub free_low : x.free < 256
    free_low = free_below x some_left

    module _ (cs : List Chain) (b : ℕ) (bottom : b ≡ cond (eqb c.length 0) x.free c.bottom) (written : cs ≡ set x.stack.items p (chain_new c x.free b)) where
      pub kept_new : Kept (pages_new x w) (next_new x c) cs (get_or x.next x.free 0) (x.left - 1) x.most
      kept_new = rw (written, bottom, read) (kept_free x p w here full some_left)

      pub held_new : held (pages_new x w) (next_new x c) cs ≡ set (holds x) p (region (holds x) p ++ w ∷ [])
      held_new = rw (written, bottom, read) (after_free x p w here full some_left)
