-- Fewer commands are left at each step.
use Rattle.std.proofs.Common.{◌-◌}
use Rattle.checking.proofs.row.+same_arguments.Given as goal

abbrev pub decreases-same_arguments : goal.decreases-same_arguments
decreases-same_arguments l = 4096 - l.call.position
