use Rattle.std.proofs.Common.{refl}
use Rattle.language.proofs.Readings.{reads_spelled}
use Rattle.language.proofs.grammar.reads_spelled.Goals as goal

pub returns : goal.returns
returns c = record { is = refl; law = reads_spelled }
