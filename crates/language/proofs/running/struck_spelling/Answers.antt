use Rattle.std.proofs.Common.{refl}
use Rattle.language.proofs.running.struck_spelling.Goals as goal
use Rattle.language.proofs.Striking.{proof}

pub returns : goal.returns
returns c = record { is = refl; law = proof }
