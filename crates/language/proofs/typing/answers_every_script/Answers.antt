use Rattle.std.proofs.Common.{refl}
use Rattle.language.proofs.typing.answers_every_script.Goals as goal
use Rattle.language.proofs.Questions.{answers_every_script}

pub returns : goal.returns
returns c = record { is = refl; law = answers_every_script }
