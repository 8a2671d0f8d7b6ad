-- What stands at the front of items.
use Rattle.std.proofs.Common.{◌≡◌, ℕ, ◌+◌, ◌∷◌, drop, ap, ◌∙◌}
use Rattle.draft.specs.declared.command.Command.{Command}
use Rattle.draft.specs.declared.table.Table.{Table}
use Rattle.draft.specs.Items.{text_of, items, item}

-- the command that stands there, by another word for it
pub front_kept : (t : Table) (position : ℕ) (c d : Command) → c ≡ d → drop position (items t) ≡ item (text_of t) c ∷ drop (position + 1) (items t) → drop position (items t) ≡ item (text_of t) d ∷ drop (position + 1) (items t)
front_kept t position c d e h = h ∙ ap (λ k. item (text_of t) k ∷ drop (position + 1) (items t)) e
