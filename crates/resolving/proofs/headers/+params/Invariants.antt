use Rattle.std.proofs.Common.{◌-◌}
use Rattle.resolving.proofs.headers.+params.Given as goal

abbrev pub decreases-params : goal.decreases-params
decreases-params l = 4096 - l.position
