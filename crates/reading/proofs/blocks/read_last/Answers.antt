-- The last atom, and the closing brace.
use Rattle.std.proofs.Common.{◌∷◌, refl, ap, rules, codes}
use Rattle.language.specs.Syntax.{last}
use Rattle.language.specs.Reading.{mark_of}
use Rattle.draft.specs.Items.{a_last}
use Rattle.reading.proofs.Stages.{start, go, push, done, at}
use Rattle.reading.proofs.blocks.read_last.Goals as goal

pub returns : goal.returns
returns c =
    let e = c.in_ok-atom.ensures in
    let m = c.in_ok-mark.ensures in
    let s = go (start c.args.cursor.now) e.0 in
    let v = at (λ n. mark_of n (codes "}")) s refl m.1 in
    let p = c.push.ensures.ahead in
    let q = c.push-2.ensures.ahead in
    done (last e.1.tree) (push (push (go s m.0) c.push.ensures) c.push-2.ensures) (search rules) (λ after. ap (λ l. a_last ∷ l) (e.1.told after))
