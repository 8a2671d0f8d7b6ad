use Rattle.std.proofs.Common.{refl}
use Rattle.language.proofs.Readings.{spells_one}
use Rattle.language.proofs.grammar.spells_one.Goals as goal

pub returns : goal.returns
returns c = record { is = refl; law = spells_one }
