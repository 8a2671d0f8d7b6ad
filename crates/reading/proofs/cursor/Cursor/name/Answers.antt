-- The name that the token is.
use Rattle.std.proofs.Common.{Ok, Err, sym, ap, ◌∙◌}
use Rattle.language.specs.Reading.{name_in}
use Rattle.lexing.specs.Texts.{at_end}
use Rattle.reading.specs.Cursors.{ahead, token_of, refused}
use Rattle.reading.proofs.Steps.{step, one-some, one_none, named, unnamed}
use Rattle.reading.proofs.cursor.Cursor.name.Goals as goal

pub returns-in_default : goal.returns-in_default
returns-in_default c = one_none name_in c.args.self.now (unnamed (token_of c.args.self.now) c.in_default.not-Name) ∙ ap (λ f. Err (refused f)) (sym c.refused.ensures)

pub returns : goal.returns
returns c =
    let x = c.args.self.now in
    let k = ap at_end c.in-Name.is in
    let s = c.in_ok-advance.ensures in
    (step k s, one-some name_in x c.advance.new.self _ k s (named (token_of x) c.in-Name.is) ∙ ap (λ i. Ok (i, ahead c.advance.new.self)) (sym c.as_name-name.ensures))
