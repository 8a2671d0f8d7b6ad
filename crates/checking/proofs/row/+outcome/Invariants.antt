-- Fewer commands are left at each step.
use Rattle.std.proofs.Common.{◌-◌}
use Rattle.checking.proofs.row.+outcome.Given as goal

abbrev pub decreases-outcome : goal.decreases-outcome
decreases-outcome l = 4096 - l.header.position
