use Rattle.std.proofs.Common.{refl}
use Rattle.language.proofs.running.worked_runs.Goals as goal
use Rattle.language.proofs.RunExamples.{worked}

pub returns : goal.returns
returns c = record { is = refl; law = worked }
