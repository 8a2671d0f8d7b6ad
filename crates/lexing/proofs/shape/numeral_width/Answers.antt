-- The width of a numeral, with a minus and without.
use Rattle.std.proofs.Common.{sym, ◌∙◌, rules}
use borrow.Author.Tests.{tests}
use Rattle.lexing.specs.Classes.{digit}
use Rattle.lexing.proofs.Shapes.{minus-width, digits-width}
use Rattle.lexing.proofs.shape.numeral_width.Goals as goal

pub returns-then-has-clause-is : goal.returns-then-has-clause-is
returns-then-has-clause-is c = minus-width c.args.body.now _ (sym c.has.ensures ∙ c.if-has.true) (c.front.ensures.is digit (λ b r p. search (rules, tests)))

pub returns-else-has-clause-is : goal.returns-else-has-clause-is
returns-else-has-clause-is c = digits-width c.args.body.now _ (sym c.has.ensures ∙ c.if-has.false) (c.front-else-has.ensures.is digit (λ b r p. search (rules, tests)))
