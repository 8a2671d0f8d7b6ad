use Rattle.std.proofs.Common.{◌-◌}
use Rattle.resolving.proofs.functions.+functions.Given as goal

abbrev pub decreases-functions : goal.decreases-functions
decreases-functions l = 4096 - l.position
