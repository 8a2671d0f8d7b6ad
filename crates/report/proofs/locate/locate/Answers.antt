-- The line is counted by line feeds, and the column by the bytes behind the last.
use Rattle.std.proofs.Common.{◌+◌, ◌-◌, length, sym, ap, ◌∙◌, take, reverse, arith, rules}
use Rattle.std.specs.List.{count_by}
use borrow.Author.Tests.{tests}
use Rattle.std.proofs.lemmas.Iterator.{YieldsList-from_slice}
use Rattle.std.proofs.lemmas.Iterator.Adapters.{YieldsList-from_rev_slice}
use Rattle.std.proofs.lemmas.Iterator.Consumers.{YieldsList-at, YieldsList-from_filter, count_from_yields_List}
use Rattle.std.proofs.lemmas.Iterator.Search.{YieldsList-from_take_while}
use Rattle.std.proofs.lemmas.List.{take_min, length-reverse}
use Rattle.std.proofs.lemmas.List.Folds.{length-prefix_len}
use Rattle.std.proofs.lemmas.List.Sums.{length-filter, prefix_len-le-length}
use Rattle.report.specs.Positions.{position_of, at}
use Rattle.report.proofs.Cursor.{feed, other, feeds_before, position_of-counted}
use Rattle.report.proofs.locate.locate.Goals as goal

pub overflow_sub-front : goal.overflow_sub-front
overflow_sub-front c =
    let front = c.split_at.result.0.now in
    let column =
    count_from_yields_List _ _ c.count-behind.ensures.ran
    (YieldsList-from_take_while _ other (YieldsList-at c.take_while.ensures.source (YieldsList-from_rev_slice front (cc))) c.take_while.ensures.closure c.take_while.ensures.done (λ x b q k. search (rules, tests)))
    ∙ length-prefix_len other (reverse front) in
    omega (arith, column, prefix_len-le-length other (reverse front), length-reverse front)

pub returns : goal.returns
returns c =
    let front = c.split_at.result.0.now in
    let column =
    count_from_yields_List _ _ c.count-behind.ensures.ran
    (YieldsList-from_take_while _ other (YieldsList-at c.take_while.ensures.source (YieldsList-from_rev_slice front (cc))) c.take_while.ensures.closure c.take_while.ensures.done (λ x b q k. search (rules, tests)))
    ∙ length-prefix_len other (reverse front) in
    let before = c.split_at-2.result.0.now in
    let line =
    count_from_yields_List _ _ c.count-feeds.ensures.ran
    (YieldsList-from_filter _ feed (YieldsList-at c.filter.ensures.source (YieldsList-from_slice before (cc))) c.filter.ensures.closure (λ x b q k. search (rules, tests)))
    ∙ length-filter feed before
    ∙ ap (count_by feed) (c.split_at-2.ensures.front ∙ ap (λ n. take (length front - n) front) column)
    ∙ feeds_before front in
    ap (λ n. at (1 + n) (1 + c.count-behind.result)) line ∙ ap (λ n. at (1 + count_by feed front) (1 + n)) column ∙ sym (position_of-counted front)
    ∙ ap position_of (c.split_at.ensures.front ∙ ap (λ n. take n c.args.text.now) c.min.ensures ∙ take_min c.args.place c.args.text.now)
