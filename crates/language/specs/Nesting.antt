-- The nesting limits: blocks at most 8 deep, a function's block being 1, and a type's `list` inside at most 4 others.
use Rattle.std.specs.Prelude.{◌≡◌, ℕ, Bool, true, false, List, [], ◌∷◌, nat_le}
use Rattle.language.specs.Syntax.{Script}
use Rattle.language.specs.Spelling.{Spelled, word, word_at, block_at, list_at, name, number, spell}

-- whether an entry of a spelling keeps to limits for blocks and for lists
abbrev pub shallow : ℕ → ℕ → Spelled → Bool
shallow blocks lists (word k w) = true
shallow blocks lists (word_at p w) = true
shallow blocks lists (block_at depth) = nat_le depth blocks
shallow blocks lists (list_at depth) = nat_le depth lists
shallow blocks lists (name x) = true
shallow blocks lists (number p n) = true

-- whether every entry does
abbrev pub shallows : ℕ → ℕ → List Spelled → Bool
shallows blocks lists [] = true
shallows blocks lists (i ∷ is) = elim (shallow blocks lists i) [ true ↦ shallows blocks lists is | false ↦ false ]

abbrev pub most_blocks : ℕ
most_blocks = 8

abbrev pub most_lists : ℕ
most_lists = 5

-- a script that nests no deeper than the language allows
abbrev pub Within : Script → Type 0
Within s = shallows most_blocks most_lists (spell s) ≡ true
