-- Fewer commands are left at each step.
use Rattle.std.proofs.Common.{◌-◌}
use Rattle.checking.proofs.call.+handed_known.Given as goal

abbrev pub decreases-handed_known : goal.decreases-handed_known
decreases-handed_known l = 4096 - l.spot.position
