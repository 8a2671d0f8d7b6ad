use Rattle.std.proofs.Common.{◌-◌}
use Rattle.resolving.proofs.calls.+argue.Given as goal

abbrev pub decreases-argue : goal.decreases-argue
decreases-argue l = 4096 - l.position
