-- What a described store grants. Assumes nothing.
use Rattle.std.specs.Prelude.{◌≡◌, ℕ, List, [], ◌∷◌, Some, None, Option, Ok, Err, Result}
use Rattle.std.specs.declared.alloc.AllocError.{AllocError}
use Rattle.regions.specs.Model.{Rule}
use Rattle.regions.specs.Rules.{arena_rule, pages_rule, quota_rule}
use Rattle.piles.specs.Ground.{OfKind}
use Rattle.piles.specs.Pile.{MayUnder, pile_regions, pile_rule}
use Rattle.piles.specs.declared.build.Kind.{Kind}
use Rattle.piles.specs.declared.build.Kind.TheVariants.{Words, Pages}

-- an arena of so many words, or a store of so many pages
abbrev pub kind_rule : Kind → ℕ → Rule
kind_rule Words size = arena_rule size
kind_rule Pages size = pages_rule size

-- the quota over a rule, if there is one
abbrev pub quota_if : Option ℕ → Rule → Rule
quota_if None g = g
quota_if (Some q) g = quota_rule q g

-- quotas over a rule, the innermost first
abbrev pub piled : Rule → List ℕ → Rule
piled g [] = g
piled g (q ∷ qs) = piled (quota_rule q g) qs

-- where there is memory: a store without a region that grants what g grants
abbrev pub Built : Rule → Result (MayUnder (MayUnder OfKind)) AllocError → Type 0
Built g (Ok p) = (pile_regions p ≡ []) × ((ls : List ℕ) → pile_rule p ls ≡ g ls)
Built g (Err e) = Unit {0}
