use Rattle.std.proofs.Common.{refl}
use Rattle.language.proofs.running.reads_once.Goals as goal
use Rattle.language.proofs.ReadsOnce.{reads_once}

pub returns : goal.returns
returns c = record { is = refl; law = λ rs ρ T w v v' a b. reads_once T w v v' a b }
