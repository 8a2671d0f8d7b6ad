-- Regions as chains of 16-word pages, by the links from page to page. Assumes nothing.
use Rattle.std.specs.Prelude.{◌≡◌, ℕ, zero, suc, ◌-◌, ◌<◌, cond, List, [], ◌∷◌, ◌++◌, length, map, take, count_by, sum_by, ◌==◌, nat_lt, slice_index, slice_index_or}
use Rattle.regions.specs.Rules.{pages_of}
use Rattle.pages.specs.declared.chain.Chain.{Chain}

-- how many words each region has
abbrev pub lengths_of : List Chain → List ℕ
lengths_of cs = map (λ c. c.length) cs

-- the n pages from p on, by the links
abbrev pub walk : List ℕ → ℕ → ℕ → List ℕ
walk next p zero = []
walk next p (suc n) = p ∷ walk next (slice_index next p) n

-- a region's pages, its newest page first
abbrev pub chain : List ℕ → Chain → List ℕ
chain next c = walk next c.top (pages_of c.length)

-- each region's pages
abbrev pub chains : List ℕ → List Chain → List (List ℕ)
chains next cs = map (chain next) cs

-- the last page of a chain
abbrev pub oldest : List ℕ → ℕ
oldest ps = slice_index ps (length ps - 1)

-- a region without words
abbrev pub none : Chain
none = record { top = 0; bottom = 0; length = 0 }

-- the oldest page of a region that has words is on record
abbrev pub IsEnded : List ℕ → Chain → Type 0
IsEnded next c = 0 < c.length → c.bottom ≡ oldest (chain next c)

-- how often x stands in a list
abbrev pub times : ℕ → List ℕ → ℕ
times x ys = count_by (λ y. x == y) ys

-- how often x stands in one of the chains
abbrev pub times_in : ℕ → List (List ℕ) → ℕ
times_in x cs = sum_by (times x) cs

-- every page below 256 at most once, and no other
abbrev pub at_most : ℕ → ℕ
at_most x = cond (nat_lt x 256) 1 0

-- the words of a chain, its oldest page first
abbrev pub gather : List (List ℕ) → List ℕ → List ℕ
gather ws [] = []
gather ws (p ∷ ps) = gather ws ps ++ slice_index_or ws p []

-- the words of a region: as many of its chain's as its length says
abbrev pub words_of : List (List ℕ) → List ℕ → Chain → List ℕ
words_of ws next c = take c.length (gather ws (chain next c))
