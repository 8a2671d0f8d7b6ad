use Rattle.std.proofs.Common.{[], ◌∷◌, Ok, sym, refl, ap, ◌∙◌, arith}
use Rattle.regions.specs.Rules.{arena_rule}
use Rattle.arena.proofs.Stretches.{put_none, put_full, put_room}
use Rattle.arena.proofs.arena.ArenaRegionStore.put.Goals as goal

pub returns-then-position-len : goal.returns-then-position-len
returns-then-position-len c =
    let x = c.args.self.now in
    let t = put_none x.lens.items x.memory.items x.memory.len x.fits x.memory.ok.0 c.args.position (c.args.first ∷ c.args.second ∷ []) (omega arith) in
    record { answer = sym t.0; after = sym t.1; rule = refl }

pub returns-then-capacity-used-lt2 : goal.returns-then-capacity-used-lt2
returns-then-capacity-used-lt2 c =
    let x = c.args.self.now in
    let t = put_full x.lens.items x.memory.items x.memory.len x.fits x.memory.ok.0 c.args.position (c.args.first ∷ c.args.second ∷ []) (omega arith) x.few (omega (arith, c.used-used.ensures, c.capacity.ensures)) in
    record { answer = sym t.0; after = sym t.1; rule = refl }

pub returns : goal.returns
returns c =
    let x = c.args.self.now in
    let t = put_room x.lens.items x.memory.items x.memory.len x.fits x.memory.ok.0 c.args.position (c.args.first ∷ c.args.second ∷ []) (omega arith) x.few (omega (arith, c.used-used.ensures, c.capacity.ensures)) in
    record {
      answer = ap Ok c.append.ensures.old ∙ sym t.0;
      after = c.append.ensures.regions ∙ sym t.1;
      rule = ap arena_rule c.append.ensures.len;
    }
