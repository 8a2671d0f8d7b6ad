-- Fewer commands are left at each step.
use Rattle.std.proofs.Common.{◌-◌}
use Rattle.checking.proofs.row.+behind_handed.Given as goal

abbrev pub decreases-behind_handed : goal.decreases-behind_handed
decreases-behind_handed l = 4096 - l.call.position
