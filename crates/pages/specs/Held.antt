-- What a page store holds and where, and that it can be counted. Assumes nothing.
use Rattle.std.specs.Prelude.{ℕ, List, map, slice_index_or}
use Rattle.std.proofs.Common.{arith}
use Rattle.std.proofs.lemmas.List.{length-map}
use Rattle.regions.specs.Laws.{Countable}
use Rattle.regions.specs.Model.{Regions}
use Rattle.pages.specs.Chain.{chain, none, words_of}
use Rattle.pages.specs.declared.pages.Pages.{Pages}

-- the words of each region, bottom first
abbrev pub holds : Pages → Regions
holds s = map (words_of s.pages s.next) s.stack.items

-- the pages of the region at p, its newest page first
abbrev pub way : Pages → ℕ → List ℕ
way s p = chain s.next (slice_index_or s.stack.items p none)

-- at most 64 regions are few enough to count
pub holds_countable : (s : Pages) → Countable (holds s)
holds_countable s = omega (arith, length-map s.stack.items (words_of s.pages s.next), s.few.0)
