-- Fewer commands are left at each step.
use Rattle.checking.proofs.function.+bodies.Given as goal

abbrev pub decreases-bodies : goal.decreases-bodies
decreases-bodies l = l.walk.steps
