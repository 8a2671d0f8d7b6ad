use Rattle.program.proofs.laws.passing_is_safe.Goals as goal
use Rattle.program.proofs.Safety.{passing_is_safe}

pub returns : goal.returns
returns c = passing_is_safe
