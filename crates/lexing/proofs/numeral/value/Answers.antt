-- Each way out of the loop over the digits, and its step.
use Rattle.std.proofs.Common.{Some, sym, ap, ◌∙◌, arith, w32, SFits, rules}
use Rattle.std.proofs.lemmas.Int.{to_z-of_z}
use Rattle.lexing.proofs.ByteClasses.{digit-range}
use Rattle.lexing.proofs.Digits.{going_more, going_past, going_stop, going_end}
use Rattle.lexing.proofs.numeral.value.Goals as goal

pub returns-then-not-has : goal.returns-then-not-has
returns-then-not-has c =
    going_stop c.args.negative c.loop-byte.size c.args.digits.now c.loop-byte.byte-index _
    (omega arith) (sym c.has.ensures ∙ c.if-not-has.true) c.loop-byte.invariant.2

pub overflow_sub-byte : goal.overflow_sub-byte
overflow_sub-byte c = (digit-range _ (sym c.has.ensures ∙ c.if-not-has.false)).0

pub returns-then-size-limit : goal.returns-then-size-limit
returns-then-size-limit c =
    going_past c.args.negative c.loop-byte.size c.args.digits.now c.loop-byte.byte-index c.from.result _
    (omega arith) (sym c.has.ensures ∙ c.if-not-has.false) c.from.ensures (omega arith) c.loop-byte.invariant.2

pub loop-byte-preserved : goal.loop-byte-preserved
loop-byte-preserved c = (
  c.loop-byte.invariant.0,
  omega arith,
  going_more c.args.negative c.loop-byte.size c.args.digits.now c.loop-byte.byte-index c.from.result _
      (omega arith) (sym c.has.ensures ∙ c.if-not-has.false) c.from.ensures c.loop-byte.invariant.2,
)

pub returns : goal.returns
returns c =
    let f : SFits w32 c.signed.result = search rules in
    simp to_z-of_z
    (ap Some c.signed.ensures
    ∙ sym (going_end c.args.negative c.loop-byte.size c.args.digits.now c.loop-byte.byte-index _ (omega arith) (omega arith) c.loop-byte.invariant.2))
