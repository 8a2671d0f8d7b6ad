-- The region, and two atoms.
use Rattle.std.proofs.Common.{◌∷◌, codes, refl, ap, ◌∙◌, rules}
use Rattle.std.proofs.lemmas.Result.{err_from_is_err_and}
use Rattle.language.specs.Syntax.{cons}
use Rattle.language.specs.Reading.{mark_of, atom_of, cons_of}
use Rattle.draft.specs.Items.{ident, items_atom, a_cons}
use Rattle.reading.specs.Cursors.{end_of, opened_of}
use Rattle.reading.proofs.Steps.{word-is}
use Rattle.reading.proofs.Stages.{skip, word, go, push, done, broken, at, name-at, atom-told}
use Rattle.reading.proofs.sides.read_cons.Goals as goal

pub returns-in_err-mark : goal.returns-in_err-mark
returns-in_err-mark c =
    let x = c.args.cursor.now in
    let k = c.in_ok-advance.ensures in
    let s0 = skip k in
    let o = c.in_ok-region.ensures in
    let s1 = word k o.0 in
    let a = c.in_ok-left.ensures in
    let s2 = go s1 a.0 in
    let q = word-is x c.advance.new.self (cons_of (end_of x)) k in
    let u = name-at opened_of c.in_ok-region.region s0 refl o.1 in
    let v = at atom_of s1 refl a.1.reads in
    let w = at (λ n. mark_of n (codes ",")) s2 refl c.in_err-mark.ensures in
    broken _ _ _ _ (err_from_is_err_and c.from_residual-in_err-mark.result c.from_residual-in_err-mark.ensures.1) (q ∙ search rules)

pub returns-in_err-mark-2 : goal.returns-in_err-mark-2
returns-in_err-mark-2 c =
    let x = c.args.cursor.now in
    let k = c.in_ok-advance.ensures in
    let s0 = skip k in
    let o = c.in_ok-region.ensures in
    let s1 = word k o.0 in
    let a = c.in_ok-left.ensures in
    let s2 = go s1 a.0 in
    let q = word-is x c.advance.new.self (cons_of (end_of x)) k in
    let u = name-at opened_of c.in_ok-region.region s0 refl o.1 in
    let v = at atom_of s1 refl a.1.reads in
    let m = c.in_ok-mark.ensures in
    let s3 = go s2 m.0 in
    let b = c.in_ok-right.ensures in
    let s4 = go s3 b.0 in
    let w = at (λ n. mark_of n (codes ",")) s2 refl m.1 in
    let z = at atom_of s3 refl b.1.reads in
    let y = at (λ n. mark_of n (codes ")")) s4 refl c.in_err-mark-2.ensures in
    broken _ _ _ _ (err_from_is_err_and c.from_residual-in_err-mark-2.result c.from_residual-in_err-mark-2.ensures.1) (q ∙ search rules)

pub returns : goal.returns
returns c =
    let x = c.args.cursor.now in
    let k = c.in_ok-advance.ensures in
    let s0 = skip k in
    let o = c.in_ok-region.ensures in
    let s1 = word k o.0 in
    let a = c.in_ok-left.ensures in
    let s2 = go s1 a.0 in
    let q = word-is x c.advance.new.self (cons_of (end_of x)) k in
    let u = name-at opened_of c.in_ok-region.region s0 refl o.1 in
    let v = at atom_of s1 refl a.1.reads in
    let m = c.in_ok-mark.ensures in
    let s3 = go s2 m.0 in
    let b = c.in_ok-right.ensures in
    let s4 = go s3 b.0 in
    let w = at (λ n. mark_of n (codes ",")) s2 refl m.1 in
    let z = at atom_of s3 refl b.1.reads in
    let l = c.in_ok-mark-2.ensures in
    let y = at (λ n. mark_of n (codes ")")) s4 refl l.1 in
    let s = push (push (push (go s4 l.0) c.push.ensures) c.push-2.ensures) c.push-3.ensures in
    let j = c.push-3.ensures.ahead ∙ c.push-2.ensures.ahead ∙ c.push.ensures.ahead in
    let p = x.place in
    let name = ident x.text.now c.in_ok-region.region in
    done (cons p name a.1.tree b.1.tree) s (q ∙ search rules)
    (λ after. ap (λ l. a_cons p name ∷ l) (atom-told s1 a.1 _ ∙ ap (items_atom a.1.tree) (atom-told s3 b.1 after)))
