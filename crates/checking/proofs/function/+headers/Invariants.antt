-- Fewer commands are left at each step.
use Rattle.checking.proofs.function.+headers.Given as goal

abbrev pub decreases-headers : goal.decreases-headers
decreases-headers l = l.steps
