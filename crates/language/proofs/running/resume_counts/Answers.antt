use Rattle.std.proofs.Common.{refl}
use Rattle.language.proofs.running.resume_counts.Goals as goal
use Rattle.language.proofs.Counts.{proof}

pub returns : goal.returns
returns c = record { is = refl; law = proof }
