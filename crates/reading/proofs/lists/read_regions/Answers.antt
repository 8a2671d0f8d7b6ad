-- The regions in brackets, or none.
use Rattle.std.proofs.Common.{[], codes, sym, refl, ap, ◌∙◌, arith}
use Rattle.std.proofs.lemmas.Result.{MatchResult-weaker, err_from_is_err_and}
use Rattle.lexing.specs.declared.token.Kind.TheVariants.{Mark}
use Rattle.language.specs.Reading.{then, give, mark_of, name_of, commas, bracketed}
use Rattle.reading.specs.Cursors.{end_of, ahead}
use Rattle.reading.proofs.Steps.{on-met, on-other, met}
use Rattle.reading.proofs.Stages.{start, go, call, done, broken, at}
use Rattle.reading.proofs.lists.read_regions.Goals as goal

pub returns-then-not-stands : goal.returns-then-not-stands
returns-then-not-stands c = λ room h.
    let x = c.args.cursor.now in
    let n = end_of x in
    let q = on-other n Mark (codes "[") (ahead x) (λ _. bracketed n room) (λ ts. then (mark_of n (codes "(") ts) λ _. give []) (sym c.if-not-stands.ensures) in
    MatchResult-weaker c.mark.result c.mark.ensures
    (λ _ k. done [] (go (start x) k.0) (q ∙ ap (λ v. then v (λ _. give [])) k.1) (λ after. refl))
    (λ y k. q ∙ ap (λ v. then v (λ _. give [])) k)

pub returns-in_err-read_commas : goal.returns-in_err-read_commas
returns-in_err-read_commas c = λ room h.
    let x = c.args.cursor.now in
    let n = end_of x in
    let e = sym c.if-not-stands.ensures in
    let a = c.in_ok-advance.ensures in
    let s = go (start x) (met Mark (codes "[") e a) in
    let near = s.near in
    let q = on-met n Mark (codes "[") (ahead x) (λ _. bracketed n room) (λ ts. then (mark_of n (codes "(") ts) λ _. give []) e ∙ ap (bracketed n room) a.rest in
    let r = at (λ n. commas n (codes "]") (name_of n) room) s refl (c.in_err-read_commas.ensures room (omega arith)) in
    broken _ _ _ _ (err_from_is_err_and c.from_residual-in_err-read_commas.result c.from_residual-in_err-read_commas.ensures.1) (q ∙ ap (λ v. then v (λ rs ts. then (mark_of n (codes "(") ts) λ _. give rs)) r)

pub returns : goal.returns
returns c = λ room h.
    let x = c.args.cursor.now in
    let n = end_of x in
    let e = sym c.if-not-stands.ensures in
    let a = c.in_ok-advance.ensures in
    let s = go (start x) (met Mark (codes "[") e a) in
    let near = s.near in
    let q = on-met n Mark (codes "[") (ahead x) (λ _. bracketed n room) (λ ts. then (mark_of n (codes "(") ts) λ _. give []) e ∙ ap (bracketed n room) a.rest in
    let g = c.in_ok-read_commas.ensures room (omega arith) in
    let s2 = call s g in
    let k = q ∙ ap (λ v. then v (λ rs ts. then (mark_of n (codes "(") ts) λ _. give rs)) (at (λ n. commas n (codes "]") (name_of n) room) s refl g.reads) in
    MatchResult-weaker c.mark-2.result c.mark-2.ensures
    (λ _ f. done g.tree (go s2 f.0) (k ∙ ap (λ v. then v (λ _. give g.tree)) (at (λ n. mark_of n (codes "(")) s2 refl f.1)) (λ after. refl))
    (λ y f. k ∙ ap (λ v. then v (λ _. give g.tree)) (at (λ n. mark_of n (codes "(")) s2 refl f))
