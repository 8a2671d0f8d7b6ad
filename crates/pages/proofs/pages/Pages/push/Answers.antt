use Rattle.std.proofs.Common.{arith}
use Rattle.pages.proofs.States.{length_is, fits}
use Rattle.pages.proofs.Pushes.{known, top_on, kept_on, held_on, some_left, free_low, kept_new, held_new}
use Rattle.pages.proofs.pages.Pages.push.Goals as goal

pub bounds-self-chain : goal.bounds-self-chain
bounds-self-chain c = top_on c.args.self.now c.args.position c.args.word c.requires.here _ (known c.args.self.now c.args.position c.args.count _ c.deref.ensures.0 c.requires.count) c.if-place-gt0.true

pub offset_bounds-self-chain : goal.offset_bounds-self-chain
offset_bounds-self-chain c = omega (arith, top_on c.args.self.now c.args.position c.args.word c.requires.here _ (known c.args.self.now c.args.position c.args.count _ c.deref.ensures.0 c.requires.count) c.if-place-gt0.true)

pub overflow_add-chain : goal.overflow_add-chain
overflow_add-chain c = omega (arith, c.requires.count, length_is c.args.self.now c.args.position, fits c.args.self.now c.args.position)

pub invariant_of-self : goal.invariant_of-self
invariant_of-self c =
    let k = kept_on c.args.self.now c.args.position c.args.word c.requires.here _ (known c.args.self.now c.args.position c.args.count _ c.deref.ensures.0 c.requires.count) c.if-place-gt0.true c.set.new.self.items c.set.ensures in
    record { sized = k.sized; wide = k.wide; few = k.few; sum = k.sum; once = k.once; ends = k.ends }

pub returns-then-place-gt0-clause-held : goal.returns-then-place-gt0-clause-held
returns-then-place-gt0-clause-held c = held_on c.args.self.now c.args.position c.args.word c.requires.here _ (known c.args.self.now c.args.position c.args.count _ c.deref.ensures.0 c.requires.count) c.if-place-gt0.true c.set.new.self.items c.set.ensures

pub bounds-self-page : goal.bounds-self-page
bounds-self-page c = free_low c.args.self.now c.args.position c.args.word c.requires.here _ (known c.args.self.now c.args.position c.args.count _ c.deref.ensures.0 c.requires.count) c.if-place-gt0.false c.requires.room

pub bounds-self-page-else-place-gt0 : goal.bounds-self-page-else-place-gt0
bounds-self-page-else-place-gt0 c = free_low c.args.self.now c.args.position c.args.word c.requires.here _ (known c.args.self.now c.args.position c.args.count _ c.deref.ensures.0 c.requires.count) c.if-place-gt0.false c.requires.room

pub bounds-self-page-else-place-gt0-2 : goal.bounds-self-page-else-place-gt0-2
bounds-self-page-else-place-gt0-2 c = free_low c.args.self.now c.args.position c.args.word c.requires.here _ (known c.args.self.now c.args.position c.args.count _ c.deref.ensures.0 c.requires.count) c.if-place-gt0.false c.requires.room

pub offset_bounds-self-page : goal.offset_bounds-self-page
offset_bounds-self-page c = omega (arith, free_low c.args.self.now c.args.position c.args.word c.requires.here _ (known c.args.self.now c.args.position c.args.count _ c.deref.ensures.0 c.requires.count) c.if-place-gt0.false c.requires.room)

pub offset_bounds-self-page-else-place-gt0 : goal.offset_bounds-self-page-else-place-gt0
offset_bounds-self-page-else-place-gt0 c = omega (arith, free_low c.args.self.now c.args.position c.args.word c.requires.here _ (known c.args.self.now c.args.position c.args.count _ c.deref.ensures.0 c.requires.count) c.if-place-gt0.false c.requires.room)

pub offset_bounds-self-page-else-place-gt0-2 : goal.offset_bounds-self-page-else-place-gt0-2
offset_bounds-self-page-else-place-gt0-2 c = omega (arith, free_low c.args.self.now c.args.position c.args.word c.requires.here _ (known c.args.self.now c.args.position c.args.count _ c.deref.ensures.0 c.requires.count) c.if-place-gt0.false c.requires.room)

pub overflow_sub-self : goal.overflow_sub-self
overflow_sub-self c = omega (arith, some_left c.args.self.now c.args.position c.args.word c.requires.here _ (known c.args.self.now c.args.position c.args.count _ c.deref.ensures.0 c.requires.count) c.if-place-gt0.false c.requires.room)

pub invariant_of-self-else-place-gt0 : goal.invariant_of-self-else-place-gt0
invariant_of-self-else-place-gt0 c =
    let k = kept_new c.args.self.now c.args.position c.args.word c.requires.here _ (known c.args.self.now c.args.position c.args.count _ c.deref.ensures.0 c.requires.count) c.if-place-gt0.false c.requires.room c.set-else-place-gt0.new.self.items c.bottom_after.result c.bottom_after.ensures c.set-else-place-gt0.ensures in
    record { sized = k.sized; wide = k.wide; few = k.few; sum = k.sum; once = k.once; ends = k.ends }

pub returns-else-place-gt0-clause-held : goal.returns-else-place-gt0-clause-held
returns-else-place-gt0-clause-held c = held_new c.args.self.now c.args.position c.args.word c.requires.here _ (known c.args.self.now c.args.position c.args.count _ c.deref.ensures.0 c.requires.count) c.if-place-gt0.false c.requires.room c.set-else-place-gt0.new.self.items c.bottom_after.result c.bottom_after.ensures c.set-else-place-gt0.ensures
