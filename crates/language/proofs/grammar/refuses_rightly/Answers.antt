use Rattle.std.proofs.Common.{refl}
use Rattle.language.proofs.Readings.{refuses_rightly}
use Rattle.language.proofs.grammar.refuses_rightly.Goals as goal

pub returns : goal.returns
returns c = record { is = refl; law = refuses_rightly }
