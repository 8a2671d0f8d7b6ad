use Rattle.std.proofs.Common.{refl}
use Rattle.language.proofs.running.exhausted_exactly.Goals as goal
use Rattle.language.proofs.Exhausted.{proof}

pub returns : goal.returns
returns c = record { is = refl; law = proof }
