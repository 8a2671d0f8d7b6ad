-- Fewer commands are left at each step.
use Rattle.std.proofs.Common.{◌-◌}
use Rattle.checking.proofs.row.+parameter.Given as goal

abbrev pub decreases-parameter : goal.decreases-parameter
decreases-parameter l = 4096 - l.header.position
