use Rattle.std.proofs.Common.{refl}
use Rattle.language.proofs.running.run_over.Goals as goal
use Rattle.language.proofs.RunOver.{proof}

pub returns : goal.returns
returns c = record { is = refl; law = proof }
