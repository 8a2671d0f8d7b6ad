-- Fewer commands are left at each step.
use Rattle.checking.proofs.header.+params.Given as goal

abbrev pub decreases-params : goal.decreases-params
decreases-params l = l.steps
