use Rattle.std.proofs.Common.{◌≡◌, ◌+◌, length, get_or, set, ap, ◌∙◌, arith}
use Rattle.std.proofs.Math.Seq.{paste}
use Rattle.std.proofs.lemmas.List.Edits.{paste_more}
use Rattle.arena.proofs.Splits.{inserted}
use Rattle.arena.proofs.arena.insert.Goals as goal

pub loop-i-preserved : goal.loop-i-preserved
loop-i-preserved c =
    let new = c.args.new.now in
    let i = c.loop-i.i in
    ap (λ ws. set ws (c.args.at + i) (get_or new i 0)) c.loop-i.invariant
    ∙ paste_more c.copy_within.new.self c.args.at new i 0 (omega (arith, c.requires.0, c.requires.1, c.copy_within.ensures.len, c.loop-i-test.true)) c.loop-i-test.true

pub returns-clause-inserted : goal.returns-clause-inserted
returns-clause-inserted c =
    let new = c.args.new.now in
    let all : c.loop-i.i ≡ length new = omega (arith, c.loop-i.auto.i-end, c.loop-i-test.false) in
    inserted c.args.words.now c.copy_within.new.self new _ c.args.at c.args.used c.requires.0 c.requires.1 c.copy_within.ensures.after
    (c.loop-i.invariant ∙ ap (paste c.copy_within.new.self c.args.at new) all)
