use Rattle.std.proofs.Common.{sym, refl, ap, ◌∙◌, arith}
use Rattle.arena.specs.Layout.{split}
use Rattle.arena.proofs.Stretches.{open_full, open_room}
use Rattle.arena.proofs.arena.ArenaRegionStore.open.Goals as goal

pub returns-then-len-eq-MOST : goal.returns-then-len-eq-MOST
returns-then-len-eq-MOST c =
    let x = c.args.self.now in
    let t = open_full x.lens.items x.memory.items x.memory.len x.fits x.memory.ok.0 (omega arith) in
    record { answer = sym t.0; after = sym t.1; rule = refl }

pub returns : goal.returns
returns c =
    let x = c.args.self.now in
    let t = open_room x.lens.items x.memory.items x.memory.len x.fits x.memory.ok.0 (omega arith) in
    record {
      answer = sym t.0;
      after = ap (λ ls. split ls x.memory.items) (c.push.ensures.room (omega arith)) ∙ sym t.1;
      rule = refl;
    }
