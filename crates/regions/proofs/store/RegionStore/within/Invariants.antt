use Rattle.std.proofs.Common.{◌≡◌, ◌≤◌, true, length, take}
use Rattle.regions.specs.Model.{lengths, within}
use Rattle.regions.proofs.store.RegionStore.within.Given as goal

abbrev pub invariant-loop-position : goal.invariant-loop-position
invariant-loop-position g l =
    (within l.most (take l.position (lengths (g.Self.RegionStore.regions l.self))) ≡ true)
    × (l.position ≤ length (g.Self.RegionStore.regions l.self))
