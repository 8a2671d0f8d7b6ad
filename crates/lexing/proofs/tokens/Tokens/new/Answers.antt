-- The law of what comes.
use Rattle.std.proofs.Common.{refl}
use Rattle.lexing.proofs.WholeText.{streamed_law}
use Rattle.lexing.proofs.tokens.Tokens.new.Goals as goal

pub returns-clause-law : goal.returns-clause-law
returns-clause-law c = streamed_law c.args.text.now _ refl
