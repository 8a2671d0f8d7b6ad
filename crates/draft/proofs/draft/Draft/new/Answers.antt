-- The empty table holds the empty script.
use Rattle.std.proofs.Common.{[], refl, inl}
use Rattle.draft.proofs.draft.Draft.new.Goals as goal

pub invariant_of-result : goal.invariant_of-result
invariant_of-result c = record { held = ∣ ([], c.new.ensures.items, inl refl) ∣₁ }
