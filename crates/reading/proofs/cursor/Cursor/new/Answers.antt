-- The first token, since every token passes.
use Rattle.std.proofs.Common.{length, refl, ap, arith}
use Rattle.lexing.proofs.Offsets.{token-here}
use Rattle.reading.proofs.Steps.{arrive}
use Rattle.reading.proofs.cursor.Cursor.new.Goals as goal

pub invariant_of-result : goal.invariant_of-result
invariant_of-result c =
    let l = c.requires.left in
    let s = c.args.text.now in
    let a = arrive s s 0 _ c.in_ok-token.rest.now l (token-here _ _ _ _ l.reaches l.short c.in_ok-token.ensures) in
    let n = ap length a.1 in
    let r = c.requires.room in
    record { sound = a.0; copied = c.requires.copied; room = omega arith }

pub returns : goal.returns
returns c =
    let l = c.requires.left in
    let s = c.args.text.now in
    let a = arrive s s 0 _ c.in_ok-token.rest.now l (token-here _ _ _ _ l.reaches l.short c.in_ok-token.ensures) in
    (refl, a.1, refl, refl)
