-- Fewer commands are left at each step.
use Rattle.std.proofs.Common.{◌-◌}
use Rattle.checking.proofs.function.+next_function.Given as goal

abbrev pub decreases-next_function : goal.decreases-next_function
decreases-next_function l = 4096 - l.spot.position
