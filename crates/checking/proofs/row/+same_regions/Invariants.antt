-- Fewer commands are left at each step.
use Rattle.std.proofs.Common.{◌-◌}
use Rattle.checking.proofs.row.+same_regions.Given as goal

abbrev pub decreases-same_regions : goal.decreases-same_regions
decreases-same_regions l = 4096 - l.call.position
