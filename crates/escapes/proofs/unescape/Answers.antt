-- The start of the loop, and its step.
use Rattle.std.proofs.Common.{◌≡◌, ◌<◌, length, vec_items, Some, sym, ap, ◌∙◌, arith, rules}
use Rattle.std.proofs.lemmas.Bool.Decides.{nat_tests}
use Rattle.escapes.specs.Escapes.{decoded, unescaped}
use Rattle.escapes.proofs.Decoding.{joined, joined-none, joined-more}
use Rattle.escapes.proofs.unescape.Goals as goal

pub loop-rest-init : goal.loop-rest-init
loop-rest-init c = joined-none c.args.line.now ∙ ap (λ d. joined d (unescaped c.args.line.now)) (sym c.new-bytes.ensures.items)

pub loop-rest-preserved : goal.loop-rest-preserved
loop-rest-preserved c =
    let s = c.loop-rest.rest.now in
    let byte = c.in_ok-byte.byte in
    let rest = c.in_ok-byte.behind.now in
    let some : 0 < length s = grind (arith, nat_tests) in
    let d : Some (byte, rest) ≡ decoded s = search rules in
    joined-more (unescaped c.args.line.now) (vec_items c.loop-rest.bytes) s byte rest some d c.loop-rest.invariant
    ∙ ap (λ d. joined d (unescaped rest)) (sym c.in_ok-push.ensures.items)
