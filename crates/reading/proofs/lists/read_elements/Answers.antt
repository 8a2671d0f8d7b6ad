-- Nothing in the parentheses, or one element and more.
use Rattle.std.proofs.Common.{[], Ok, codes, refl, sym, ap, ◌∙◌}
use Rattle.std.proofs.lemmas.Result.{MatchResult-weaker}
use Rattle.lexing.specs.declared.token.Kind.TheVariants.{Mark}
use Rattle.language.specs.Reading.{give, commas}
use Rattle.reading.specs.Cursors.{end_of, ahead}
use Rattle.reading.proofs.Steps.{on-met, on-other, met}
use Rattle.reading.proofs.Stages.{start, go, done, alike}
use Rattle.reading.proofs.lists.read_elements.Goals as goal

pub returns-then-stands : goal.returns-then-stands
returns-then-stands g c = λ room h.
    let x = c.args.cursor.now in
    let n = end_of x in
    let e = sym c.if-stands.ensures in
    let q = on-met n Mark (codes ")") (ahead x) (λ _. give []) (commas n (codes ")") (g.E.Element.reader n) room) e in
    MatchResult-weaker c.advance.result c.advance.ensures
    (λ _ a. done [] (go (start x) (met Mark (codes ")") e a)) (q ∙ ap (λ l. Ok ([], l)) a.rest) (λ after. refl))
    (λ _ b. absurd b)

pub returns : goal.returns
returns g c = λ room h.
    let x = c.args.cursor.now in
    let n = end_of x in
    alike _ _ _ _ _ _ (on-other n Mark (codes ")") (ahead x) (λ _. give []) (commas n (codes ")") (g.E.Element.reader n) room) (sym c.if-stands.ensures)) (c.read_commas.ensures room h)
