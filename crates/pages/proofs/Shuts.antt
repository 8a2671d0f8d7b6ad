-- A page store after its top region was taken away. Assumes nothing.
use Rattle.std.proofs.Common.{◌≡◌, ℕ, zero, suc, ◌+◌, ◌-◌, ◌<◌, ◌≤◌, cond, eqb, List, [], ◌∷◌, ◌++◌, length, get_or, map, take, set, sym, ap, ◌∙◌, arith}
use Rattle.std.proofs.lemmas.List.{length-map, length-set, length-take, length-take-le, take-map, get_or-take}
use Rattle.std.proofs.lemmas.List.Sums.{sum_by-append, sum_by-take-le, sum_by_more_le}
use Rattle.std.proofs.lemmas.List.Elements.{All-take, All-from_get_or}
use Rattle.regions.specs.Model.{close_after}
use Rattle.regions.specs.Rules.{pages_of, pages_total}
use Rattle.pages.specs.Chain.{walk, chain, chains, lengths_of, none, IsEnded, oldest, times, times_in, gather, words_of}
use Rattle.pages.specs.Held.{holds, way}
use Rattle.pages.specs.declared.chain.Chain.{Chain}
use Rattle.pages.specs.declared.pages.Pages.{Pages}
use Rattle.pages.proofs.Lists.{map_below}
use Rattle.pages.proofs.Links.{times-there, walk_same, walk-join}
use Rattle.pages.proofs.Words.{inside-at}
use Rattle.pages.proofs.States.{Kept, length-way, held, at, rest, ended, chain_at, apart, once_in, inside, count_is}

pages_last : (cs : List Chain) (k : ℕ) → length cs ≡ k + 1 → pages_total (lengths_of (take k cs)) + pages_of (get_or cs k none).length ≡ pages_total (lengths_of cs)
pages_last [] k h = absurd (omega arith)
pages_last (c ∷ []) zero h = omega arith
pages_last (c ∷ d ∷ cs) zero h = absurd (omega arith)
pages_last (c ∷ cs) (suc k) h = omega (arith, pages_last cs k (omega arith))

-- the links with the oldest page of a chain linked to the first free one
abbrev pub next_back : Pages → Chain → List ℕ
next_back x c = set x.next c.bottom x.free

module _ (x : Pages) (k : ℕ) (last : length x.stack.items ≡ k + 1) where
  kept : (at x k).length ≡ 0 → Kept x.pages x.next (take k x.stack.items) x.free x.left x.most
  kept bare =
      record {
        sized = x.sized;
        wide = x.wide;
        few = (omega (arith, length-take-le k x.stack.items (omega arith), x.few.0), x.few.1);
        sum = omega (arith, x.sum, pages_last x.stack.items k last, bare);
        once = (λ q. omega (arith, x.once q, sum_by-take-le (times q) (chains x.next x.stack.items) k, ap (times_in q) (take-map (chain x.next) k x.stack.items)));
        ends = All-take (IsEnded x.next) k x.stack.items x.ends;
      }

  module _ (some : 0 < (at x k).length) where
    abbrev joined : List ℕ
    joined = next_back x (at x k)

    is : oldest (way x k) ≡ (at x k).bottom
    is = sym (ended x k (omega arith) some)

    len : length (way x k) ≡ pages_of (at x k).length
    len = length-way x k

    bottom_low : (at x k).bottom < 256
    bottom_low = omega (arith, is, inside-at (way x k) (length (way x k) - 1) (inside x k) (omega (arith, len)))

    in_way : 1 ≤ times (at x k).bottom (way x k)
    in_way = rw (← is) (times-there (way x k) (length (way x k) - 1) (omega (arith, len)))

    way_off : (j : ℕ) → (j ≡ k → ⊥) → chain joined (at x j) ≡ way x j
    way_off j ne = walk_same x.next (at x k).bottom x.free (at x j).top (pages_of (at x j).length) (apart x (at x k).bottom k j ne in_way)

    way_back : walk joined (at x k).top (pages_of (at x k).length + x.left) ≡ way x k ++ rest x
    way_back =
        walk-join x.next (at x k).bottom x.free x.left (at x k).top (pages_of (at x k).length) (omega arith)
        (ap (λ n. get_or (way x k) (n - 1) 0) (sym len) ∙ is)
        (omega (arith, once_in x (at x k).bottom k))
        (omega (arith, once_in x (at x k).bottom k, in_way))
        (omega (arith, x.sized.1, bottom_low))

    ended_below : (i : ℕ) → i < length (take k x.stack.items) → IsEnded joined (get_or (take k x.stack.items) i none)
    ended_below i h =
        let l : i < k = omega (arith, length-take k x.stack.items) in
        rw (get_or-take k x.stack.items i none l) (λ words. ended x i (omega arith) words ∙ ap oldest (sym (way_off i (λ e. omega arith))))

    kept_free : Kept x.pages joined (take k x.stack.items) (at x k).top (x.left + pages_of (at x k).length) x.most
    kept_free =
        let cs = chains x.next x.stack.items in
        let n : x.left + pages_of (at x k).length ≡ pages_of (at x k).length + x.left = omega arith in
        record {
          sized = (x.sized.0, length-set x.next (at x k).bottom _ ∙ x.sized.1);
          wide = x.wide;
          few = (omega (arith, length-take-le k x.stack.items (omega arith), x.few.0), x.few.1);
          sum = omega (arith, x.sum, pages_last x.stack.items k last);
          once = (λ q. omega (arith, x.once q, ap (times_in q) (map_below (chain x.next) (chain joined) none x.stack.items k way_off), sum_by_more_le (times q) cs k [] (omega (arith, length-map x.stack.items (chain x.next), last)), ap (times q) (chain_at x k), ap (λ m. times q (walk joined (at x k).top m)) n, ap (times q) way_back, sum_by-append (λ z. cond (eqb q z) 1 0) (way x k) (rest x)));
          ends = All-from_get_or (IsEnded joined) (take k x.stack.items) none ended_below;
        }

    after : held x.pages joined (take k x.stack.items) ≡ close_after (holds x)
    after =
        let e : k ≡ length (holds x) - 1 = omega (arith, count_is x) in
        map_below (words_of x.pages x.next) (words_of x.pages joined) none x.stack.items k (λ j ne. ap (λ ps. take (at x j).length (gather x.pages ps)) (way_off j ne))
        ∙ ap (λ n. take n (holds x)) e

  -- the same of the chain c that was read, and the chains cs that were written
  module _ (c : Chain) (read : c ≡ at x k) where
    pub kept_bare : (cs : List Chain) → cs ≡ take k x.stack.items → c.length ≤ 0 → Kept x.pages x.next cs x.free x.left x.most
    kept_bare cs written bare = rw written (kept (rw (← read) (omega arith)))

    module _ (some : 0 < c.length) where
      pub bottom_below : c.bottom < 256
      bottom_below = rw read (bottom_low (rw (← read) some))

      pub kept_back : (cs : List Chain) (n : ℕ) → cs ≡ take k x.stack.items → n ≡ pages_of c.length → Kept x.pages (next_back x c) cs c.top (x.left + n) x.most
      kept_back cs n written freed = rw (written, freed, read) (kept_free (rw (← read) some))

      pub held_back : (cs : List Chain) → cs ≡ take k x.stack.items → held x.pages (next_back x c) cs ≡ close_after (holds x)
      held_back cs written = rw (written, read) (after (rw (← read) some))
