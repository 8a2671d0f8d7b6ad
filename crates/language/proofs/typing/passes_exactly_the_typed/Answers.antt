use Rattle.std.proofs.Common.{refl}
use Rattle.language.proofs.typing.passes_exactly_the_typed.Goals as goal
use Rattle.language.proofs.Exactly.{passes_exactly_the_typed}

pub returns : goal.returns
returns c = record { is = refl; law = passes_exactly_the_typed }
