use Rattle.std.proofs.Common.{◌-◌}
use Rattle.resolving.proofs.headers.+type_end.Given as goal

abbrev pub decreases-type_end : goal.decreases-type_end
decreases-type_end l = 4096 - l.position
