-- What a store of either kind holds and grants. Assumes nothing.
use Rattle.regions.specs.Model.{Regions, Rule}
use Rattle.arena.specs.declared.arena.Arena.{Arena}
use Rattle.arena.specs.contracts.arena.ArenaRegionStore.TheImpl.{ghosts as arena_store}
use Rattle.pages.specs.declared.pages.Pages.{Pages}
use Rattle.pages.specs.contracts.pages.PagesRegionStore.TheImpl.{ghosts as page_store}
use Rattle.piles.specs.declared.either.Either.{Either}
use Rattle.piles.specs.Either.{either}

-- a store of either kind
abbrev pub OfKind : Type 0
OfKind = Either Arena Pages

-- what it holds
abbrev pub ground_regions : OfKind → Regions
ground_regions = either arena_store.regions page_store.regions

-- what it grants
abbrev pub ground_rule : OfKind → Rule
ground_rule = either arena_store.grants page_store.grants
