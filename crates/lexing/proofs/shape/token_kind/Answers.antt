-- The kind of a word, and of a numeral.
use Rattle.std.proofs.Common.{take, drop, sym, ap, ◌∙◌}
use Rattle.lexing.proofs.Shapes.{kind-word, kind-numeral}
use Rattle.lexing.proofs.shape.token_kind.Goals as goal

pub returns-then-has : goal.returns-then-has
returns-then-has c =
    let body = c.args.body.now in
    kind-word body _ _ (sym c.has.ensures ∙ c.if-has.true) (c.split_at.ensures.front ∙ ap (λ n. take n body) c.requires.0) c.word_kind.ensures

pub returns-then-begins_numeral : goal.returns-then-begins_numeral
returns-then-begins_numeral c =
    let body = c.args.body.now in
    kind-numeral body _ _ _ (sym c.has.ensures ∙ c.if-has.false) (sym c.begins_numeral.ensures ∙ c.if-begins_numeral.true)
    (c.split_at.ensures.front ∙ ap (λ n. take n body) c.requires.0) (c.split_at.ensures.back ∙ ap (λ n. drop n body) c.requires.0) c.numeral_kind.ensures
