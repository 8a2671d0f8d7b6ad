-- The region, and the type of the elements.
use Rattle.std.proofs.Common.{codes, sym, refl, ap, ◌∙◌}
use Rattle.std.proofs.lemmas.Result.{MatchResult-weaker, err_from_is_err_and}
use Rattle.language.specs.Syntax.{nil}
use Rattle.language.specs.Nesting.{most_lists}
use Rattle.language.specs.Reading.{then, give, mark_of, type_of, nil_of}
use Rattle.draft.specs.Items.{ident}
use Rattle.reading.specs.Cursors.{end_of, ahead, opened_of}
use Rattle.reading.proofs.Steps.{word-is}
use Rattle.reading.proofs.Stages.{skip, word, go, push, call, done, broken, at, name-at}
use Rattle.reading.proofs.Forms.{nil-reads}
use Rattle.reading.proofs.sides.read_nil.Goals as goal

pub returns-in_err-read_type : goal.returns-in_err-read_type
returns-in_err-read_type c =
    let x = c.args.cursor.now in
    let n = end_of x in
    let d = c.advance.new.self in
    let k = c.in_ok-advance.ensures in
    let o = c.in_ok-region.ensures in
    let name = c.in_ok-region.region in
    let s = push (word k o.0) c.push.ensures in
    let u = name-at opened_of name (skip k) refl o.1 in
    let q = word-is x d (nil_of n (type_of n most_lists)) k in
    let r = at (λ n. type_of n most_lists) s (sym c.push.ensures.ahead) c.in_err-read_type.ensures in
    broken _ _ _ _ (err_from_is_err_and c.from_residual-in_err-read_type.result c.from_residual-in_err-read_type.ensures.1) (q ∙ nil-reads n x.place _ (ahead d) _ _ u r)

pub returns : goal.returns
returns c =
    let x = c.args.cursor.now in
    let n = end_of x in
    let d = c.advance.new.self in
    let k = c.in_ok-advance.ensures in
    let o = c.in_ok-region.ensures in
    let name = c.in_ok-region.region in
    let s = push (word k o.0) c.push.ensures in
    let u = name-at opened_of name (skip k) refl o.1 in
    let q = word-is x d (nil_of n (type_of n most_lists)) k in
    let g = c.in_ok-read_type.ensures in
    let r = at (λ n. type_of n most_lists) s (sym c.push.ensures.ahead) g.reads in
    let s2 = call s g in
    let T = nil x.place (ident x.text.now name) g.tree in
    let t = q ∙ nil-reads n x.place _ (ahead d) _ _ u r in
    MatchResult-weaker c.mark.result c.mark.ensures
    (λ _ f. done T (go s2 f.0) (t ∙ ap (λ v. then v (λ _. give T)) (at (λ n. mark_of n (codes ")")) s2 refl f.1)) (λ after. refl))
    (λ y f. t ∙ ap (λ v. then v (λ _. give T)) (at (λ n. mark_of n (codes ")")) s2 refl f))
