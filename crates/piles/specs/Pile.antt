-- What a store under quotas holds and grants. Assumes nothing.
use Rattle.regions.specs.Model.{Regions, Rule}
use Rattle.regions.specs.Rules.{quota_rule}
use Rattle.regions.specs.declared.quota.Quota.{Quota}
use Rattle.piles.specs.declared.either.Either.{Either}
use Rattle.piles.specs.Either.{either}
use Rattle.piles.specs.Ground.{OfKind, ground_regions, ground_rule}

-- a store, or one under a quota
abbrev pub MayUnder : Type 0 → Type 0
MayUnder S = Either S (Quota S)

-- it holds what the store below the quota holds
abbrev pub under_regions : {S : Type 0} → (S → Regions) → MayUnder S → Regions
under_regions regions = either regions (λ q. regions q.store)

-- the quota adds its own to the rule below
abbrev pub under_rule : {S : Type 0} → (S → Rule) → MayUnder S → Rule
under_rule rule = either rule (λ q. quota_rule q.quota (rule q.store))

-- so it is under two quotas
abbrev pub pile_regions : MayUnder (MayUnder OfKind) → Regions
pile_regions = under_regions (under_regions ground_regions)

abbrev pub pile_rule : MayUnder (MayUnder OfKind) → Rule
pile_rule = under_rule (under_rule ground_rule)
