use Rattle.std.proofs.Common.{refl}
use Rattle.language.proofs.running.one_stop.Goals as goal
use Rattle.language.proofs.OneStop.{proof}

pub returns : goal.returns
returns c = record { is = refl; law = proof }
