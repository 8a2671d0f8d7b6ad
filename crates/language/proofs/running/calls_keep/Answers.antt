use Rattle.std.proofs.Common.{refl}
use Rattle.language.proofs.running.calls_keep.Goals as goal
use Rattle.language.proofs.CallsKeep.{proof}

pub returns : goal.returns
returns c = record { is = refl; law = proof }
