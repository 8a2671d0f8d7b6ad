-- Both sides compute to the same.
use Rattle.std.proofs.Common.{refl}
use Rattle.program.proofs.laws.sum_is_resolved.Goals as goal

pub returns : goal.returns
returns c = (refl, refl, refl)
