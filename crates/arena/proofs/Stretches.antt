-- What an arena's lengths and words, ls and ws, say of each operation. Assumes nothing.
use Rattle.std.specs.Prelude.{◌≡◌, ℕ, ◌+◌, ◌-◌, ◌<◌, ◌≤◌, List, [], ◌∷◌, ◌++◌, length, take, drop, Ok, Err, nat_le, slice_index, slice_index_or, slice_set}
use Rattle.std.proofs.Common.{sym, ap, ◌∙◌, arith}
use Rattle.std.proofs.Math.Bool.{and-true}
use Rattle.std.proofs.lemmas.List.{length_push, length-set, get_or-take, get_or-drop}
use Rattle.std.proofs.lemmas.Bool.{le-leb, lt-leb}
use Rattle.regions.specs.declared.refusal.Refusal.TheVariants.{Denied, NoRegion, NoWord}
use Rattle.regions.specs.Model.{region, longer, may_open, open_answer, open_after, may_put, put_answer, put_after, get_answer, close_answer, close_after}
use Rattle.regions.specs.Rules.{total, capacity, arena_rule}
use Rattle.regions.proofs.Bounds.{lengths-at}
use Rattle.regions.proofs.Answered as cases
use Rattle.arena.specs.Counted.{length_split}
use Rattle.arena.specs.Layout.{split}
use Rattle.arena.proofs.Splits.{lengths_split, split_push, split_take, split_at, total_push, total_set}

-- how long one region is
pub region_length : (ls ws : List ℕ) (p : ℕ) → p < length ls → total ls ≤ length ws → length (region (split ls ws) p) ≡ slice_index ls p
region_length ls ws p h f =
    let h' : p < length (split ls ws) = omega (arith, length_split ls ws) in
    sym (lengths-at (split ls ws) p h') ∙ ap (λ xs. slice_index xs p) (lengths_split ls ws f)

-- a stretch of n words whose first ones are the regions
module _ (ls ws : List ℕ) (n : ℕ) (fits : total ls ≤ capacity n) (all : n ≡ length ws) where
  in_words : total ls ≤ length ws
  in_words = omega (arith, fits, all)

  may_open_is : may_open (arena_rule n) (split ls ws) ≡ nat_le (length ls + 1) 64
  may_open_is =
      ap (λ xs. arena_rule n (xs ++ 0 ∷ [])) (lengths_split ls ws in_words)
      ∙ rw (length_push ls 0, total_push ls, le-leb (total ls) (capacity n) fits) (and-true (nat_le (length ls + 1) 64))

  pub open_full : length ls ≡ 64 → (open_answer (arena_rule n) (split ls ws) ≡ Err Denied) × (open_after (arena_rule n) (split ls ws) ≡ split ls ws)
  open_full e = cases.open_denied (arena_rule n) (split ls ws) (may_open_is ∙ lt-leb (length ls + 1) 64 (omega arith))

  pub open_room : length ls < 64 → (open_answer (arena_rule n) (split ls ws) ≡ Ok tt) × (open_after (arena_rule n) (split ls ws) ≡ split (ls ++ 0 ∷ []) ws)
  open_room h =
      let t = cases.open_granted (arena_rule n) (split ls ws) (may_open_is ∙ le-leb (length ls + 1) 64 (omega arith)) in
      (t.0, t.1 ∙ sym (split_push ls ws))

  -- the region at p, and new words for it
  module _ (p : ℕ) (new : List ℕ) where
    pub put_none : length ls ≤ p → (put_answer (arena_rule n) (split ls ws) p new ≡ Err NoRegion) × (put_after (arena_rule n) (split ls ws) p new ≡ split ls ws)
    put_none h = cases.put_none (arena_rule n) (split ls ws) p new (omega (arith, length_split ls ws))

    may_put_is : p < length ls → length ls ≤ 64 → may_put (arena_rule n) (split ls ws) p new ≡ nat_le (total ls + length new) (capacity n)
    may_put_is h few =
        ap (λ xs. arena_rule n (longer xs p (length new))) (lengths_split ls ws in_words)
        ∙ rw (length-set ls p (slice_index ls p + length new), le-leb (length ls) 64 few, total_set ls p (length new) h)

    pub put_full : p < length ls → length ls ≤ 64 → capacity n < total ls + length new → (put_answer (arena_rule n) (split ls ws) p new ≡ Err Denied) × (put_after (arena_rule n) (split ls ws) p new ≡ split ls ws)
    put_full h few over =
        cases.put_denied (arena_rule n) (split ls ws) p new (omega (arith, length_split ls ws)) (may_put_is h few ∙ lt-leb (total ls + length new) (capacity n) over)

    pub put_room : p < length ls → length ls ≤ 64 → total ls + length new ≤ capacity n → (put_answer (arena_rule n) (split ls ws) p new ≡ Ok (slice_index ls p)) × (put_after (arena_rule n) (split ls ws) p new ≡ slice_set (split ls ws) p (region (split ls ws) p ++ new))
    put_room h few room =
        let t = cases.put_granted (arena_rule n) (split ls ws) p new (omega (arith, length_split ls ws)) (may_put_is h few ∙ le-leb (total ls + length new) (capacity n) room) in
        (t.0 ∙ ap Ok (region_length ls ws p h in_words), t.1)

  -- the word at i of the region at p
  module _ (p i : ℕ) where
    pub get_none : length ls ≤ p → get_answer (split ls ws) p i ≡ Err NoRegion
    get_none h = cases.get_none (split ls ws) p i (omega (arith, length_split ls ws))

    pub get_past : p < length ls → slice_index ls p ≤ i → get_answer (split ls ws) p i ≡ Err NoWord
    get_past h past = cases.get_past (split ls ws) p i (omega (arith, length_split ls ws)) (omega (arith, region_length ls ws p h in_words))

    pub get_word : p < length ls → i < slice_index ls p → get_answer (split ls ws) p i ≡ Ok (slice_index ws (total (take p ls) + i))
    get_word h l =
        let word : slice_index_or (region (split ls ws) p) i 0 ≡ slice_index_or ws (total (take p ls) + i) 0 =
        ap (λ xs. slice_index xs i) (split_at ls ws p h) ∙ get_or-take (slice_index ls p) (drop (total (take p ls)) ws) i 0 l ∙ get_or-drop (total (take p ls)) ws i 0
        in
        cases.get_word (split ls ws) p i (omega (arith, length_split ls ws)) (omega (arith, region_length ls ws p h in_words)) ∙ ap Ok word

  pub close_some : 0 < length ls → (close_answer (split ls ws) ≡ Ok tt) × (close_after (split ls ws) ≡ split (take (length ls - 1) ls) ws)
  close_some h = (
    cases.close_some (split ls ws) (omega (arith, length_split ls ws)),
    ap (λ m. take (m - 1) (split ls ws)) (length_split ls ws) ∙ sym (split_take (length ls - 1) ls ws),
  )
