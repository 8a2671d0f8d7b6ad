use Rattle.std.proofs.Common.{refl}
use Rattle.language.proofs.running.one_answer.Goals as goal
use Rattle.language.proofs.OneAnswer.{proof}

pub returns : goal.returns
returns c = record { is = refl; law = proof }
