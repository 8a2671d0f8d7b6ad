use Rattle.std.proofs.Common.{refl}
use Rattle.language.proofs.grammar.reading_examples.Goals as goal

pub returns : goal.returns
returns c = record { is = refl; law = (refl, refl, refl, refl, refl, refl, refl, (_, refl), refl, (_, refl), refl, refl) }
