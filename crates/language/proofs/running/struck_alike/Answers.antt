use Rattle.std.proofs.Common.{refl}
use Rattle.language.proofs.running.struck_alike.Goals as goal
use Rattle.language.proofs.Struck.{proof}

pub returns : goal.returns
returns c = record { is = refl; law = proof }
