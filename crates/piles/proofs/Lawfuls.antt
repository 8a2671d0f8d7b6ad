-- A store of either kind, and one under quotas, has a lawful rule and regions that can be counted. Assumes nothing.
use Rattle.regions.specs.Laws.{Countable, Lawful}
use Rattle.regions.specs.Lawfuls.{quota_lawful}
use Rattle.regions.specs.Model.{Regions, Rule}
use Rattle.regions.specs.Rules.{quota_rule}
use Rattle.arena.specs.contracts.arena.ArenaRegionStore.TheImpl.{ghosts as arena_store}
use Rattle.arena.specs.contracts.arena.ArenaRegionStore.TheImpl.Laws.{lawful as arena_laws}
use Rattle.pages.specs.contracts.pages.PagesRegionStore.TheImpl.{ghosts as page_store}
use Rattle.pages.specs.contracts.pages.PagesRegionStore.TheImpl.Laws.{lawful as page_laws}
use Rattle.piles.specs.Either.{either_each}
use Rattle.piles.specs.Ground.{OfKind, ground_regions, ground_rule}
use Rattle.piles.specs.Pile.{MayUnder, under_regions, under_rule, pile_regions, pile_rule}

pub ground_lawful : (s : OfKind) → Lawful (ground_rule s)
ground_lawful = either_each Lawful arena_store.grants page_store.grants arena_laws.lawful page_laws.lawful

pub ground_countable : (s : OfKind) → Countable (ground_regions s)
ground_countable = either_each Countable arena_store.regions page_store.regions arena_laws.countable page_laws.countable

-- what holds of a store holds of it under a quota
under_lawful : {S : Type 0} (rule : S → Rule) → ((s : S) → Lawful (rule s)) → (p : MayUnder S) → Lawful (under_rule rule p)
under_lawful rule h =
    either_each Lawful rule (λ q. quota_rule q.quota (rule q.store)) h (λ q. quota_lawful q.quota (rule q.store) (h q.store))

under_countable : {S : Type 0} (regions : S → Regions) → ((s : S) → Countable (regions s)) → (p : MayUnder S) → Countable (under_regions regions p)
under_countable regions h = either_each Countable regions (λ q. regions q.store) h (λ q. h q.store)

pub pile_lawful : (p : MayUnder (MayUnder OfKind)) → Lawful (pile_rule p)
pile_lawful = under_lawful (under_rule ground_rule) (under_lawful ground_rule ground_lawful)

pub pile_countable : (p : MayUnder (MayUnder OfKind)) → Countable (pile_regions p)
pile_countable = under_countable (under_regions ground_regions) (under_countable ground_regions ground_countable)
