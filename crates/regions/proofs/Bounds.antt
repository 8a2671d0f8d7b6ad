-- The lengths of regions, and whether one of them is above a bound. Assumes nothing.
use Rattle.std.proofs.Common.{◌≡◌, ℕ, zero, suc, ◌+◌, ◌<◌, ◌≤◌, Bool, true, false, ◌&&◌, leb, List, [], ◌∷◌, ◌++◌, length, get_or, take, sym, refl, ◌∙◌, arith}
use Rattle.std.proofs.Math.Bool.{and-true, and-false, and_assoc}
use Rattle.std.proofs.lemmas.List.{get_or-map, length-map}
use Rattle.std.proofs.lemmas.List.Folds.{list_all-append, list_all_more, list_all_at}
use Rattle.std.proofs.lemmas.Bool.{and_from, le-leb, lt-leb, leb-true}
use Rattle.regions.specs.Model.{Regions, lengths, within, longer, region}
pub use Rattle.std.proofs.Math.Bool.{and-true as and_true}

and_last : (a b c : Bool) → (c ≡ true → a ≡ true) → (c && b) ≡ ((a && b) && c)
and_last a b true h = rw (h refl) (sym (and-true b))
and_last a b false h = sym (and-false (a && b))

pub length-lengths : (rs : Regions) → length (lengths rs) ≡ length rs
length-lengths rs = length-map rs length

pub lengths-at : (rs : Regions) (p : ℕ) → p < length rs → get_or (lengths rs) p 0 ≡ length (region rs p)
lengths-at rs p h = get_or-map length rs p [] 0 h

pub within-push : (q : ℕ) (ls : List ℕ) → within q (ls ++ 0 ∷ []) ≡ within q ls
within-push q ls =
    list_all-append (λ l. leb l q) ls (0 ∷ []) ∙ rw (le-leb 0 q (omega arith)) (and-true (within q ls))

-- one length more looked at
pub within_more : (q : ℕ) (ls : List ℕ) (i : ℕ) → i < length ls → within q (take i ls) ≡ true → get_or ls i 0 ≤ q → within q (take (i + 1) ls) ≡ true
within_more q ls i h e l =
    list_all_more (λ x. leb x q) ls i 0 h ∙ and_from (within q (take i ls)) (leb (get_or ls i 0) q) e (le-leb (get_or ls i 0) q l)

-- a length that is above
pub within-not : (q : ℕ) (ls : List ℕ) (i : ℕ) → i < length ls → q < get_or ls i 0 → within q ls ≡ false
within-not q ls i h l = list_all_at (λ x. leb x q) ls i 0 h (lt-leb (get_or ls i 0) q l)

-- one length grown: all were at most q, and this one still is
pub within_grown : (q p n : ℕ) (ls : List ℕ) → p < length ls → within q (longer ls p n) ≡ (within q ls && leb (get_or ls p 0 + n) q)
within_grown q p n [] h = absurd (omega arith)
within_grown q zero n (x ∷ ls) h =
    and_last (leb x q) (within q ls) (leb (x + n) q) (λ e. le-leb x q (omega (arith, leb-true (x + n) q e)))
within_grown q (suc p) n (x ∷ ls) h = rw (within_grown q p n ls (omega arith)) (sym (and_assoc (leb x q) (within q ls) (leb (get_or ls p 0 + n) q)))
