use Rattle.std.proofs.Common.{◌-◌, take, sym, refl, ap, ◌∙◌, arith}
use Rattle.arena.specs.Layout.{split}
use Rattle.arena.proofs.Stretches.{close_some}
use Rattle.arena.proofs.arena.ArenaRegionStore.close.Goals as goal

pub returns : goal.returns
returns c =
    let x = c.args.self.now in
    let t = close_some x.lens.items x.memory.items x.memory.len x.fits x.memory.ok.0 (omega arith) in
    record {
      answer = sym t.0;
      after = ap (λ ls. split ls x.memory.items) (c.truncate.ensures ∙ ap (λ n. take (n - 1) x.lens.items) c.len-open.ensures.value) ∙ sym t.1;
      rule = refl;
    }
