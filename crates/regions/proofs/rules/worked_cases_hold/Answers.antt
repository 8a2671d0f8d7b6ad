use Rattle.std.proofs.Common.{refl}
use Rattle.regions.proofs.rules.worked_cases_hold.Goals as goal

pub returns : goal.returns
returns c = record { rules = (refl, refl, refl, refl, refl, refl, refl, refl, refl, refl, refl, refl, refl); steps = (refl, refl, refl, refl, refl, refl, refl, refl, refl, refl, refl, refl, refl) }
