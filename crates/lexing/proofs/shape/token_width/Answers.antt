-- The width of a word.
use Rattle.std.proofs.Common.{sym, ◌∙◌, rules}
use borrow.Author.Tests.{tests}
use Rattle.lexing.specs.Classes.{word_byte}
use Rattle.lexing.proofs.Shapes.{word-width}
use Rattle.lexing.proofs.shape.token_width.Goals as goal

pub returns-then-has-clause-is : goal.returns-then-has-clause-is
returns-then-has-clause-is c = word-width c.args.body.now _ (sym c.has.ensures ∙ c.if-has.true) (c.front.ensures.is word_byte (λ b r p. search (rules, tests)))
