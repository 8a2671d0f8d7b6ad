use Rattle.std.proofs.Common.{refl}
use Rattle.language.proofs.typing.types_are_unique.Goals as goal
use Rattle.language.proofs.Unique.{types_are_unique}

pub returns : goal.returns
returns c = record { is = refl; law = types_are_unique }
