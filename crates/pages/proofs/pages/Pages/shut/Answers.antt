use Rattle.std.proofs.Common.{◌-◌, get_or, ap, arith}
use Rattle.pages.specs.Chain.{none}
use Rattle.pages.proofs.Shuts.{bottom_below, kept_bare, kept_back, held_back}
use Rattle.pages.proofs.pages.Pages.shut.Goals as goal

pub bounds-self-chain : goal.bounds-self-chain
bounds-self-chain c = bottom_below c.args.self.now (c.len-top.result - 1) (omega (arith, c.len-top.ensures.value, c.requires.some)) _ (ap (λ cs. get_or cs (c.len-top.result - 1) none) c.deref.ensures.0) c.if-chain-gt0.true

pub offset_bounds-self-chain : goal.offset_bounds-self-chain
offset_bounds-self-chain c = omega (arith, bottom_below c.args.self.now (c.len-top.result - 1) (omega (arith, c.len-top.ensures.value, c.requires.some)) _ (ap (λ cs. get_or cs (c.len-top.result - 1) none) c.deref.ensures.0) c.if-chain-gt0.true)

pub invariant_of-self : goal.invariant_of-self
invariant_of-self c =
    let k = kept_back c.args.self.now (c.len-top.result - 1) (omega (arith, c.len-top.ensures.value, c.requires.some)) _ (ap (λ cs. get_or cs (c.len-top.result - 1) none) c.deref.ensures.0) c.if-chain-gt0.true c.truncate.new.self.items c.pages_for.result c.truncate.ensures c.pages_for.ensures in
    record { sized = k.sized; wide = k.wide; few = k.few; sum = k.sum; once = k.once; ends = k.ends }

pub invariant_of-self-else-chain-gt0 : goal.invariant_of-self-else-chain-gt0
invariant_of-self-else-chain-gt0 c =
    let k = kept_bare c.args.self.now (c.len-top.result - 1) (omega (arith, c.len-top.ensures.value, c.requires.some)) _ (ap (λ cs. get_or cs (c.len-top.result - 1) none) c.deref.ensures.0) c.truncate.new.self.items c.truncate.ensures c.if-chain-gt0.false in
    record { sized = k.sized; wide = k.wide; few = k.few; sum = k.sum; once = k.once; ends = k.ends }

pub returns-then-chain-gt0-clause-held : goal.returns-then-chain-gt0-clause-held
returns-then-chain-gt0-clause-held c =
    held_back c.args.self.now (c.len-top.result - 1) (omega (arith, c.len-top.ensures.value, c.requires.some)) _ (ap (λ cs. get_or cs (c.len-top.result - 1) none) c.deref.ensures.0) c.if-chain-gt0.true c.truncate.new.self.items c.truncate.ensures
