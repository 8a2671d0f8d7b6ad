-- One token on, since every token that is left passes.
use Rattle.std.proofs.Common.{length, refl, sym, ap, ◌∙◌, arith}
use Rattle.lexing.proofs.Offsets.{token-here}
use Rattle.reading.specs.Cursors.{ahead, token_of}
use Rattle.reading.proofs.Steps.{arrive, goes_on, rest-less}
use Rattle.reading.proofs.cursor.Cursor.advance.Goals as goal

pub invariant_of-self : goal.invariant_of-self
invariant_of-self c =
    let x = c.args.self.now in
    let l = x.sound.left in
    let a = arrive x.text.now x.rest.now _ _ c.in_ok-token.rest.now l (token-here _ _ _ _ l.reaches l.short c.in_ok-token.ensures) in
    let n = ap length (goes_on x.text.now (token_of x) x.rest.now x.sound ∙ sym a.1) in
    let m = rest-less (ahead x) in
    let r = x.room in
    record { sound = a.0; copied = x.copied; room = omega arith }

pub returns : goal.returns
returns c =
    let x = c.args.self.now in
    let l = x.sound.left in
    let a = arrive x.text.now x.rest.now _ _ c.in_ok-token.rest.now l (token-here _ _ _ _ l.reaches l.short c.in_ok-token.ensures) in
    record { like = record { text = refl; same = refl; table = refl }; rest = goes_on x.text.now (token_of x) x.rest.now x.sound ∙ sym a.1 }
