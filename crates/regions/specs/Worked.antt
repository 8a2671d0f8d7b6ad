-- Worked cases of the rules and of the operations. Assumes nothing.
use Rattle.std.specs.Prelude.{◌≡◌, true, false, [], ◌∷◌, replicate, Ok, Err}
use Rattle.regions.specs.declared.refusal.Refusal.TheVariants.{Denied, NoRegion, NoWord}
use Rattle.regions.specs.Model.{Regions, open_answer, open_after, put_answer, put_after, get_answer, close_answer, close_after}
use Rattle.regions.specs.Rules.{arena_rule, pages_rule, quota_rule}

-- which lists of lengths the three rules grant, on both sides of each bound
abbrev pub RulesWorked : Type 0
RulesWorked =
    (arena_rule 4 (4 ∷ []) ≡ true)
    × (arena_rule 3 (4 ∷ []) ≡ false)
    × (arena_rule 70000 (65530 ∷ 6 ∷ []) ≡ true)
    × (arena_rule 70000 (65530 ∷ 7 ∷ []) ≡ false)
    × (arena_rule 0 (replicate 64 0) ≡ true)
    × (arena_rule 0 (replicate 65 0) ≡ false)
    × (pages_rule 3 (32 ∷ 1 ∷ []) ≡ true)
    × (pages_rule 3 (33 ∷ 1 ∷ []) ≡ false)
    × (pages_rule 400 (4096 ∷ []) ≡ true)
    × (pages_rule 400 (4097 ∷ []) ≡ false)
    × (quota_rule 2 (arena_rule 4) (2 ∷ 2 ∷ []) ≡ true)
    × (quota_rule 2 (arena_rule 4) (4 ∷ []) ≡ false)
    × (quota_rule 9 (quota_rule 2 (arena_rule 4)) (3 ∷ []) ≡ false)

-- two regions, the lower with two words
abbrev pub both : Regions
both = (5 ∷ 6 ∷ []) ∷ [] ∷ []

-- what the operations answer and leave there, in an arena of four words
abbrev pub StepsWorked : Type 0
StepsWorked =
    (open_answer (arena_rule 4) both ≡ Ok tt)
    × (open_after (arena_rule 4) both ≡ (5 ∷ 6 ∷ []) ∷ [] ∷ [] ∷ [])
    × (put_answer (arena_rule 4) both 0 (7 ∷ 8 ∷ []) ≡ Ok 2)
    × (put_after (arena_rule 4) both 0 (7 ∷ 8 ∷ []) ≡ (5 ∷ 6 ∷ 7 ∷ 8 ∷ []) ∷ [] ∷ [])
    × (put_answer (arena_rule 3) both 1 (7 ∷ 8 ∷ []) ≡ Err Denied)
    × (put_after (arena_rule 3) both 1 (7 ∷ 8 ∷ []) ≡ both)
    × (put_answer (arena_rule 4) both 2 (7 ∷ 8 ∷ []) ≡ Err NoRegion)
    × (get_answer both 0 1 ≡ Ok 6)
    × (get_answer both 0 2 ≡ Err NoWord)
    × (get_answer both 2 0 ≡ Err NoRegion)
    × (close_answer both ≡ Ok tt)
    × (close_after both ≡ (5 ∷ 6 ∷ []) ∷ [])
    × (close_answer [] ≡ Err NoRegion)
