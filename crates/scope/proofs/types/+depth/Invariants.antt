-- Fewer words are left at each step.
use Rattle.scope.specs.Words.{left}
use Rattle.scope.proofs.types.+depth.Given as goal

abbrev pub decreases-depth : goal.decreases-depth
decreases-depth l = left l.sort
