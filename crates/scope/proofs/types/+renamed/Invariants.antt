-- Fewer words are left at each step.
use Rattle.std.proofs.Common.{◌-◌}
use Rattle.scope.proofs.types.+renamed.Given as goal

abbrev pub decreases-renamed : goal.decreases-renamed
decreases-renamed l = 4096 - l.old
