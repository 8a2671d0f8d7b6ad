-- What a region store means: what each operation answers, and what the store holds then. Assumes nothing.
use Rattle.std.specs.List.{list_all}
use Rattle.std.specs.Prelude.{ℕ, ◌+◌, ◌-◌, Bool, cond, List, [], ◌∷◌, ◌++◌, map, length, take, Ok, Err, Result, nat_le, nat_lt, slice_index, slice_index_or, slice_set}
use Rattle.regions.specs.declared.refusal.Refusal.{Refusal}
use Rattle.regions.specs.declared.refusal.Refusal.TheVariants.{Denied, NoRegion, NoWord}

-- a stack of regions, bottom first, each a list of words
abbrev pub Regions : Type 0
Regions = List (List ℕ)

-- a rule takes a list of region lengths and grants or denies it
abbrev pub Rule : Type 0
Rule = List ℕ → Bool

-- the number of each refusal
abbrev pub number : Refusal → ℕ
number Denied = 25
number NoRegion = 26
number NoWord = 27

-- how long each region is
abbrev pub lengths : Regions → List ℕ
lengths rs = map length rs

-- whether no length is above q
abbrev pub within : ℕ → List ℕ → Bool
within q ls = list_all (λ l. nat_le l q) ls

-- the lengths with n more at position p
abbrev pub longer : List ℕ → ℕ → ℕ → List ℕ
longer ls p n = slice_set ls p (slice_index ls p + n)

-- the region at position p, 0 the bottom
abbrev pub region : Regions → ℕ → List ℕ
region rs p = slice_index_or rs p []

-- open: does the rule grant the lengths with a 0 added?
abbrev pub may_open : Rule → Regions → Bool
may_open g rs = g (lengths rs ++ 0 ∷ [])

-- where it does not, open is refused
abbrev pub open_answer : Rule → Regions → Result (Unit {0}) Refusal
open_answer g rs = cond (may_open g rs) (Ok tt) (Err Denied)

-- then an empty region goes on top
abbrev pub open_after : Rule → Regions → Regions
open_after g rs = cond (may_open g rs) (rs ++ [] ∷ []) rs

-- put: does the rule grant the lengths with as many more there as words are put?
abbrev pub may_put : Rule → Regions → ℕ → List ℕ → Bool
may_put g rs p ws = g (longer (lengths rs) p (length ws))

-- is there that region? then that question; then the answer is the old length
abbrev pub put_answer : Rule → Regions → ℕ → List ℕ → Result ℕ Refusal
put_answer g rs p ws = cond (nat_lt p (length rs)) (cond (may_put g rs p ws) (Ok (length (region rs p))) (Err Denied)) (Err NoRegion)

-- and the words are appended
abbrev pub put_after : Rule → Regions → ℕ → List ℕ → Regions
put_after g rs p ws = cond (nat_lt p (length rs)) (cond (may_put g rs p ws) (slice_set rs p (region rs p ++ ws)) rs) rs

-- get: is there that region, and in it that word, 0 the first? then it answers the word, and changes nothing
abbrev pub get_answer : Regions → ℕ → ℕ → Result ℕ Refusal
get_answer rs p i = cond (nat_lt p (length rs)) (cond (nat_lt i (length (region rs p))) (Ok (slice_index (region rs p) i)) (Err NoWord)) (Err NoRegion)

-- close: is there a region?
abbrev pub close_answer : Regions → Result (Unit {0}) Refusal
close_answer rs = cond (nat_lt 0 (length rs)) (Ok tt) (Err NoRegion)

-- then the top one goes
abbrev pub close_after : Regions → Regions
close_after rs = take (length rs - 1) rs

-- clear removes all regions
abbrev pub clear_after : Regions → Regions
clear_after rs = []
