-- Fewer commands are left at each step.
use Rattle.std.proofs.Common.{◌-◌}
use Rattle.checking.proofs.header.+regions.Given as goal

abbrev pub decreases-regions : goal.decreases-regions
decreases-regions l = 4096 - l.spot.position
