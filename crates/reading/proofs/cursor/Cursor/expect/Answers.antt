-- The word stands there, or the token is refused.
use Rattle.std.proofs.Common.{Err, sym, ap, ◌∙◌}
use Rattle.std.proofs.lemmas.Result.{MatchResult-weaker}
use Rattle.language.specs.Reading.{give, refuse}
use Rattle.reading.specs.Cursors.{end_of, ahead, refused}
use Rattle.reading.proofs.Steps.{on-met, on-other, word-is, refuse-is, met}
use Rattle.reading.proofs.cursor.Cursor.expect.Goals as goal

pub returns-then-not-stands : goal.returns-then-not-stands
returns-then-not-stands c =
    let x = c.args.self.now in
    let n = end_of x in
    on-other n c.args.kind c.args.word.now (ahead x) give (refuse n 6) (sym c.stands.ensures ∙ c.if-not-stands.true) ∙ refuse-is x ∙ ap (λ f. Err (refused f)) (sym c.refused.ensures)

pub returns : goal.returns
returns c =
    let x = c.args.self.now in
    let n = end_of x in
    let k = c.args.kind in
    let w = c.args.word.now in
    let e = sym c.stands.ensures ∙ c.if-not-stands.false in
    MatchResult-weaker c.advance.result c.advance.ensures (λ _ s. (met k w e s, on-met n k w (ahead x) give (refuse n 6) e ∙ word-is x c.advance.new.self give s)) (λ _ b. absurd b)
