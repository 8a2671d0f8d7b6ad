use Rattle.std.proofs.Common.{refl}
use Rattle.language.proofs.running.reference_says.Goals as goal
use Rattle.language.proofs.References.{proof}

pub returns : goal.returns
returns c = record { is = refl; law = proof }
