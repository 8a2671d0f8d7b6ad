-- The word, and two atoms.
use Rattle.std.proofs.Common.{◌∷◌, refl, ap, ◌∙◌, rules}
use Rattle.language.specs.Syntax.{oper}
use Rattle.language.specs.Reading.{atom_of, operands}
use Rattle.draft.specs.Items.{operator, items_atom, an_operation}
use Rattle.reading.specs.Cursors.{end_of}
use Rattle.reading.proofs.Steps.{word-is}
use Rattle.reading.proofs.Stages.{skip, word, go, push, atom-told, done, at}
use Rattle.reading.proofs.sides.read_operation.Goals as goal

pub returns : goal.returns
returns c =
    let x = c.args.cursor.now in
    let p = x.place in
    let o = operator c.args.operator in
    let k = c.in_ok-advance.ensures in
    let s0 = skip k in
    let a = c.in_ok-left.ensures in
    let s1 = word k a.0 in
    let b = c.in_ok-right.ensures in
    let s = push (push (push (go s1 b.0) c.push.ensures) c.push-2.ensures) c.push-3.ensures in
    let q = word-is x c.advance.new.self (operands (end_of x) o) k in
    let v = at atom_of s0 refl a.1.reads in
    let u = at atom_of s1 refl b.1.reads in
    let l = c.push-3.ensures.ahead ∙ c.push-2.ensures.ahead ∙ c.push.ensures.ahead in
    done (oper p o a.1.tree b.1.tree) s (q ∙ search rules)
    (λ after. ap (λ l. an_operation p o ∷ l) (atom-told s0 a.1 _ ∙ ap (items_atom a.1.tree) (atom-told s1 b.1 after)))
