-- The allowance for nested lists falls.
use Rattle.reading.proofs.types.+read_type.Given as goal

abbrev pub decreases-read_type : goal.decreases-read_type
decreases-read_type l = l.lists
