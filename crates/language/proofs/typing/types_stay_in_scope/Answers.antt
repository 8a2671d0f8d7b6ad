use Rattle.std.proofs.Common.{refl}
use Rattle.language.proofs.typing.types_stay_in_scope.Goals as goal
use Rattle.language.proofs.InScope.{types_stay_in_scope}

pub returns : goal.returns
returns c = record { is = refl; law = types_stay_in_scope }
