use Rattle.std.proofs.Common.{sym, ap, ◌∙◌, arith}
use Rattle.regions.specs.Model.{within}
use Rattle.arena.proofs.Splits.{lengths_split}
use Rattle.arena.proofs.arena.ArenaRegionStore.within.Goals as goal

pub returns : goal.returns
returns c =
    let x = c.args.self.now in
    c.none_above.ensures ∙ ap (within c.args.most) (c.deref.ensures.0 ∙ sym (lengths_split x.lens.items x.memory.items (omega (arith, x.fits, x.memory.ok.0))))
