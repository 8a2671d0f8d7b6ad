use Rattle.std.proofs.Common.{◌-◌}
use Rattle.resolving.proofs.headers.+regions.Given as goal

abbrev pub decreases-regions : goal.decreases-regions
decreases-regions l = 4096 - l.position
