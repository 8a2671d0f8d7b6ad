use Rattle.std.proofs.Common.{arith, slice_set, ap, ◌∙◌}
use Rattle.std.proofs.Math.Seq.{take-set-lt}
use Rattle.rows.proofs.row.Row.set.Goals as goal

pub returns-then-place-self : goal.returns-then-place-self
returns-then-place-self g c =
    take-set-lt c.self.inside.count c.self.inside.cells c.args.place c.args.item (omega (arith, c.if-place-self.true))
    ∙ ap (λ r. slice_set r.items c.args.place c.args.item) c.self.view_is
