-- The rules of the three stores are lawful. Assumes nothing.
use Rattle.std.specs.Prelude.{◌≡◌, ℕ, ◌+◌, ◌≤◌, min, true, List, [], ◌∷◌, length, nat_le, refl}
use Rattle.std.proofs.Common.{arith}
use Rattle.std.proofs.lemmas.Bool.{and_parts, and_from, le-leb, leb-true}
use Rattle.std.proofs.lemmas.List.Sums.{sum_by-cons}
use Rattle.regions.specs.Model.{within}
use Rattle.regions.specs.Rules.{total, capacity, pages_total, ArenaLawful, PagesLawful, QuotaLawful}

total_short : (n : ℕ) (ls : List ℕ) → total ls ≤ n → within n ls ≡ true
total_short n [] h = refl
total_short n (l ∷ ls) h =
    let e : total (l ∷ ls) ≡ l + total ls = sum_by-cons (λ x. x) l ls in
    and_from (nat_le l n) (within n ls) (le-leb l n (omega arith)) (total_short n ls (omega arith))

pages_short : (ls : List ℕ) → pages_total ls ≤ 256 → within 65536 ls ≡ true
pages_short [] h = refl
pages_short (l ∷ ls) h = and_from (nat_le l 65536) (within 65536 ls) (le-leb l 65536 (omega arith)) (pages_short ls (omega arith))

pub arena_lawful : ArenaLawful
arena_lawful words =
    record {
      none = le-leb 0 (capacity words) (omega arith);
      few = λ ls e. leb-true (length ls) 64 (and_parts (nat_le (length ls) 64) (nat_le (total ls) (capacity words)) e).0;
      short = λ ls e. total_short 65536 ls (omega (arith, leb-true (total ls) (capacity words) (and_parts (nat_le (length ls) 64) (nat_le (total ls) (capacity words)) e).1));
    }

pub pages_lawful : PagesLawful
pages_lawful pages =
    record {
      none = le-leb 0 (min pages 256) (omega arith);
      few = λ ls e. leb-true (length ls) 64 (and_parts (nat_le (length ls) 64) (nat_le (pages_total ls) (min pages 256)) e).0;
      short = λ ls e. pages_short ls (omega (arith, leb-true (pages_total ls) (min pages 256) (and_parts (nat_le (length ls) 64) (nat_le (pages_total ls) (min pages 256)) e).1));
    }

pub quota_lawful : QuotaLawful
quota_lawful q g h =
    record {
      none = h.none;
      few = λ ls e. h.few ls (and_parts (within q ls) (g ls) e).1;
      short = λ ls e. h.short ls (and_parts (within q ls) (g ls) e).1;
    }
