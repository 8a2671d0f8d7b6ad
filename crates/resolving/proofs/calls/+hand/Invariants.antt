use Rattle.std.proofs.Common.{◌-◌}
use Rattle.resolving.proofs.calls.+hand.Given as goal

abbrev pub decreases-hand : goal.decreases-hand
decreases-hand l = 4096 - l.position
