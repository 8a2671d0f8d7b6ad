use Rattle.std.proofs.Common.{refl}
use Rattle.language.proofs.typing.examples_hold.Goals as goal

pub returns : goal.returns
returns c = record { is = refl; law = record { texts = refl; functions_most = refl; functions_too_many = refl; functions_name_taken = refl } }
