-- The rules of the arena, the page store and the quota. Assumes nothing.
use Rattle.std.specs.Prelude.{ℕ, ◌+◌, ◌/◌, min, Bool, cond, ◌&&◌, List, [], ◌∷◌, length, Ok, Err, Result, nat_le, nat_lt, sum}
use Rattle.regions.specs.declared.refusal.Refusal.{Refusal}
use Rattle.regions.specs.declared.refusal.Refusal.TheVariants.{NoRegion}
use Rattle.regions.specs.Model.{Regions, Rule, lengths, region, within}
use Rattle.regions.specs.Laws.{Lawful}

-- the lengths added up
abbrev pub total : List ℕ → ℕ
total ls = sum ls

-- a memory beyond 65,536 words counts as 65,536
abbrev pub capacity : ℕ → ℕ
capacity words = min words 65536

-- the arena grants up to 64 regions whose lengths add up to at most the memory's length
abbrev pub arena_rule : ℕ → Rule
arena_rule words ls = nat_le (length ls) 64 && nat_le (total ls) (capacity words)

-- how many pages of 16 words hold l words
abbrev pub pages_of : ℕ → ℕ
pages_of l = (l + 15) / 16

-- the pages of all regions
abbrev pub pages_total : List ℕ → ℕ
pages_total [] = 0
pages_total (l ∷ ls) = pages_of l + pages_total ls

-- the page store grants up to 64 regions that take at most its pages together, of which up to 256 count
abbrev pub pages_rule : ℕ → Rule
pages_rule pages ls = nat_le (length ls) 64 && nat_le (pages_total ls) (min pages 256)

-- the quota denies a list with a length above q and whatever the rule below denies
abbrev pub quota_rule : ℕ → Rule → Rule
quota_rule q g ls = within q ls && g ls

-- whether the quota q leaves room for n more words in the region at position p
abbrev pub quota_room : ℕ → Regions → ℕ → ℕ → Result Bool Refusal
quota_room q rs p n = cond (nat_lt p (length rs)) (Ok (within q (lengths rs) && nat_le (length (region rs p) + n) q)) (Err NoRegion)

-- the arena's rule is lawful, whatever the memory
abbrev pub ArenaLawful : Type 0
ArenaLawful = (words : ℕ) → Lawful (arena_rule words)

-- and so is the page store's, whatever the number of pages
abbrev pub PagesLawful : Type 0
PagesLawful = (pages : ℕ) → Lawful (pages_rule pages)

-- over a lawful rule the quota's is lawful
abbrev pub QuotaLawful : Type 0
QuotaLawful = (q : ℕ) (g : Rule) → Lawful g → Lawful (quota_rule q g)
