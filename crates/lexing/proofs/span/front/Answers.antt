-- The chain counts the front that passes.
use Rattle.std.proofs.Common.{sym, ◌∙◌, rules}
use borrow.Author.Tests.{tests}
use Rattle.std.proofs.lemmas.Iterator.{YieldsList-from_slice}
use Rattle.std.proofs.lemmas.Iterator.Consumers.{YieldsList-at, count_from_yields_List}
use Rattle.std.proofs.lemmas.Iterator.Search.{YieldsList-from_take_while}
use Rattle.std.proofs.lemmas.List.Folds.{length-prefix_len}
use Rattle.lexing.proofs.Fronts.{run_is_prefix_len}
use Rattle.lexing.proofs.span.front.Goals as goal

pub returns-clause-is : goal.returns-clause-is
returns-clause-is g c f is =
    let text = c.args.text.now in
    count_from_yields_List _ _ c.count.ensures.ran
    (YieldsList-from_take_while _ f (YieldsList-at c.take_while.ensures.source (YieldsList-from_slice text (cc))) c.take_while.ensures.closure c.take_while.ensures.done (λ x b q k. search (rules, tests)))
    ∙ length-prefix_len f text ∙ sym (run_is_prefix_len f text)
