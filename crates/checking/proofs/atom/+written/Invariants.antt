-- Fewer commands are left at each step.
use Rattle.std.proofs.Common.{◌-◌}
use Rattle.checking.proofs.atom.+written.Given as goal

abbrev pub decreases-written : goal.decreases-written
decreases-written l = 4096 - l.spot.position
