-- An atom, a right side, a block has at most one type: each type is the one that checking computes.
use Rattle.std.proofs.Common.{sym, ◌∙◌}
use Rattle.language.specs.TypingLaws.{TypesAreUnique}
use Rattle.language.proofs.Answered.{ok-is}
use Rattle.language.proofs.WellTyped.{atom-says, right_says, block_says}

pub types_are_unique : TypesAreUnique
types_are_unique F Γ T U =
    (λ a h k. ok-is (sym (atom-says h) ∙ atom-says k), λ r h k. ok-is (sym (right_says h) ∙ right_says k), λ b h k. ok-is (sym (block_says h) ∙ block_says k))
