use Rattle.std.proofs.Common.{refl}
use Rattle.language.proofs.RefusedOnce.{refused_once}
use Rattle.language.proofs.grammar.refused_once.Goals as goal

pub returns : goal.returns
returns c = record { is = refl; law = refused_once }
