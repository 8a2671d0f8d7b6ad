-- Fewer words are left at each step.
use Rattle.scope.specs.Words.{left}
use Rattle.scope.proofs.types.+same_sort.Given as goal

abbrev pub decreases-same_sort : goal.decreases-same_sort
decreases-same_sort l = left l.left
