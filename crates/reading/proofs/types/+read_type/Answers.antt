-- `int`, or `list` with its region and the type inside, as far as the allowance goes.
use Rattle.std.proofs.Common.{◌-◌, Ok, Err, codes, sym, refl, ap, ◌∙◌, arith}
use Rattle.std.proofs.lemmas.Result.{MatchResult-weaker, err_from_is_err_and}
use Rattle.lexing.specs.declared.token.Kind.TheVariants.{Keyword}
use Rattle.language.specs.Syntax.{int, list}
use Rattle.language.specs.Reading.{then, give, mark_of, type_of}
use Rattle.draft.specs.Items.{ident}
use Rattle.reading.specs.Cursors.{end_of, ahead, refused, opened_of}
use Rattle.reading.proofs.Steps.{met}
use Rattle.reading.proofs.Stages.{start, skip, go, push, call, done, broken, at, name-at}
use Rattle.reading.proofs.Forms.{type-int, type-refused, type-deep, type-list, list-reads, list-then}
use Rattle.reading.proofs.types.+read_type.Goals as goal

pub returns-then-stands : goal.returns-then-stands
returns-then-stands t c =
    let x = c.args.cursor.now in
    let e = sym c.if-stands.ensures in
    let a = c.in_ok-advance.ensures in
    done int (push (go (start x) (met Keyword (codes "int") e a)) c.push.ensures) (type-int c.args.lists x c.advance.new.self e a ∙ ap (λ l. Ok (int, l)) (sym c.push.ensures.ahead)) (λ after. refl)

pub returns-then-not-stands : goal.returns-then-not-stands
returns-then-not-stands t c = type-refused c.args.lists c.args.cursor.now (sym c.if-stands.ensures) (sym c.if-not-stands.ensures) ∙ ap (λ f. Err (refused f)) (sym c.refused.ensures)

pub returns-then-lists-eq0 : goal.returns-then-lists-eq0
returns-then-lists-eq0 t c =
    type-deep c.args.lists c.args.cursor.now (sym c.if-stands.ensures) (sym c.if-not-stands.ensures) c.if-lists-eq0.true ∙ ap (λ f. Err (refused f)) (sym c.refused-then-lists-eq0.ensures)

pub returns-in_err-region : goal.returns-in_err-region
returns-in_err-region t c =
    let x = c.args.cursor.now in
    let a = c.in_ok-advance-2.ensures in
    let q = type-list c.args.lists x c.advance-2.new.self (sym c.if-stands.ensures) (sym c.if-not-stands.ensures) a (omega arith) in
    broken _ _ _ _ (err_from_is_err_and c.from_residual-in_err-region.result c.from_residual-in_err-region.ensures.1) (q ∙ ap (λ v. then v (list-then (end_of x) (c.args.lists - 1))) (at opened_of (skip a) refl c.in_err-region.ensures))

pub returns : goal.returns
returns t c =
    let x = c.args.cursor.now in
    let n = end_of x in
    let m = c.args.lists - 1 in
    let e = sym c.if-not-stands.ensures in
    let a = c.in_ok-advance-2.ensures in
    let q = type-list c.args.lists x c.advance-2.new.self (sym c.if-stands.ensures) e a (omega arith) in
    let o = c.in_ok-region.ensures in
    let name = c.in_ok-region.region in
    let s1 = go (start x) (met Keyword (codes "list") e a) in
    let s2 = push (go s1 o.0) c.push-2.ensures in
    let g = c.in_ok-read_type.ensures in
    let s3 = call s2 g in
    let T = list (ident x.text.now name) g.tree in
    let k = q ∙ list-reads n m _ (ahead c.advance-2.new.self) _ _ (name-at opened_of name s1 refl o.1) (at (λ n. type_of n m) s2 (sym c.push-2.ensures.ahead) g.reads) in
    MatchResult-weaker c.mark.result c.mark.ensures
    (λ _ h. done T (go s3 h.0) (k ∙ ap (λ v. then v (λ _. give T)) (at (λ n. mark_of n (codes ")")) s3 refl h.1)) (λ after. refl))
    (λ y f. k ∙ ap (λ v. then v (λ _. give T)) (at (λ n. mark_of n (codes ")")) s3 refl f))
