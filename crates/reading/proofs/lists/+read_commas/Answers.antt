-- The first element, and the others behind a comma, or the closing mark.
use Rattle.std.proofs.Common.{◌-◌, [], ◌∷◌, codes, refl, sym, ap, ◌∙◌, arith}
use Rattle.std.proofs.lemmas.Result.{MatchResult-weaker, err_from_is_err_and}
use Rattle.lexing.specs.declared.token.Kind.TheVariants.{Mark}
use Rattle.language.specs.Reading.{then}
use Rattle.reading.specs.Cursors.{end_of, ahead}
use Rattle.reading.proofs.Steps.{met}
use Rattle.reading.proofs.Stages.{start, go, call, done, broken}
use Rattle.reading.proofs.Forms.{commas-is, commas-then, commas-met, commas-missed}
use Rattle.reading.proofs.lists.+read_commas.Goals as goal

pub returns-in_err-read : goal.returns-in_err-read
returns-in_err-read g t c = λ room h.
    let n = end_of c.args.cursor.now in
    let w = c.args.close.now in
    let f = g.E.Element.reader n in
    broken _ _ _ _ (err_from_is_err_and c.from_residual.result c.from_residual.ensures.1)
    (commas-is n w f room _ (ahead c.args.cursor.now) h ∙ ap (λ v. then v (commas-then n w f (room - 1))) c.in_err-read.ensures)

pub returns-then-not-stands : goal.returns-then-not-stands
returns-then-not-stands g t c = λ room h.
    let x = c.args.cursor.now in
    let e = c.in_ok-read.ensures in
    let m = sym c.if-not-stands.ensures in
    let s = call (start x) e in
    let q = commas-missed c.args.close.now g.E.Element.reader room e.tree x c.read.new.cursor in
    MatchResult-weaker c.mark.result c.mark.ensures
    (λ _ k. done (e.tree ∷ []) (go s k.0) (q _ h s.end e.reads m k.1) (λ after. refl))
    (λ y k. q _ h s.end e.reads m k)

pub returns : goal.returns
returns g t c = λ room h.
    let x = c.args.cursor.now in
    let e = c.in_ok-read.ensures in
    let m = sym c.if-not-stands.ensures in
    let a = c.in_ok-advance.ensures in
    let s1 = call (start x) e in
    let s = go s1 (met Mark (codes ",") m a) in
    let near = s.near in
    let q = commas-met c.args.close.now g.E.Element.reader room e.tree x c.read.new.cursor c.advance.new.self in
    MatchResult-weaker c.read_commas.result (c.read_commas.ensures (room - 1) (omega arith))
    (λ _ k. done (e.tree ∷ k.tree) (call s k) (q _ h s1.end e.reads m a k.reads) (λ after. refl))
    (λ y k. q _ h s1.end e.reads m a k)
