-- What stands at a spot of a table.
use Rattle.std.specs.Prelude.{◌≡◌, ◌+◌, ◌<◌, List, drop}
use Rattle.draft.specs.Items.{Item, items}
use Rattle.scope.specs.declared.spot.Spot.{Spot}

-- the items from a spot on
abbrev pub ahead : Spot → List Item
ahead s = drop s.position (items s.table.now)

-- the next spot, behind a command
pub record Behind (s u : Spot) : Type 0 where
  pub table : u.table.now ≡ s.table.now
  pub next : u.position ≡ s.position + 1
  pub within : s.position < 4096
