-- Fewer words are left at each step.
use Rattle.scope.specs.Words.{left}
use Rattle.scope.proofs.types.+mentions.Given as goal

abbrev pub decreases-mentions : goal.decreases-mentions
decreases-mentions l = left l.sort
