-- A minus that begins a numeral.
use Rattle.std.proofs.Common.{sym, ◌∙◌, rules}
use borrow.Author.Tests.{tests}
use Rattle.lexing.specs.Classes.{digit}
use Rattle.lexing.proofs.Shapes.{begins-first, minus-begins}
use Rattle.lexing.proofs.shape.begins_numeral.Goals as goal

pub returns-then-has : goal.returns-then-has
returns-then-has c =
    minus-begins c.args.body.now _ (sym c.has.ensures ∙ c.if-has.true) (begins-first digit _ _ _ c.first.ensures.value c.is_some_and.ensures (λ x p. search (rules, tests)))
