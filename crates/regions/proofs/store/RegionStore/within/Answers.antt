use Rattle.std.proofs.Common.{Err, sym, ap, ◌∙◌, arith}
use Rattle.regions.specs.Model.{lengths}
use Rattle.regions.proofs.Bounds.{within_more, within-not, length-lengths, lengths-at}
use Rattle.regions.proofs.Answered.{told_word, told_past}
use Rattle.regions.proofs.store.RegionStore.within.Goals as goal

pub returns-in-Ok : goal.returns-in-Ok
returns-in-Ok g c =
    let rs = g.Self.RegionStore.regions c.args.self.now in
    let p = c.loop-position.position in
    let t = told_word rs p c.args.most _ (sym c.in-Ok.ensures) in
    sym (within-not c.args.most (lengths rs) p (omega (arith, t.0, length-lengths rs)) (omega (arith, t.1, lengths-at rs p t.0)))

pub loop-position-preserved : goal.loop-position-preserved
loop-position-preserved g c =
    let rs = g.Self.RegionStore.regions c.args.self.now in
    let p = c.loop-position.position in
    let t = told_past rs p c.args.most (sym c.in-Err-NoWord.ensures ∙ ap Err c.in-Err-NoWord.field-0-is) in
    (within_more c.args.most (lengths rs) p (omega (arith, t.0, length-lengths rs)) c.loop-position.invariant.0 (omega (arith, t.1, lengths-at rs p t.0)), omega (arith, t.0))
