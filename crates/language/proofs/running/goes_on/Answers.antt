use Rattle.std.proofs.Common.{refl}
use Rattle.language.proofs.running.goes_on.Goals as goal
use Rattle.language.proofs.GoesOn.{proof}

pub returns : goal.returns
returns c = record { is = refl; law = proof }
