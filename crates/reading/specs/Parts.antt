-- The parts of the grammar as the reader takes them, and the items of each.
use Rattle.std.specs.Prelude.{ℕ, List}
use Rattle.language.specs.Syntax.{Ident, Right, Block, Fun}
use Rattle.language.specs.Reading.{Reader, here, rest, type_of, right_of, block_of, inside, fun_of}
use Rattle.language.specs.Nesting.{most_lists, most_blocks}
use Rattle.draft.specs.Items.{Item, items_handed, items_header_region}
use Rattle.reading.specs.declared.lists.Side.{Side}
use Rattle.reading.specs.declared.lists.Side.TheVariants.{Header, Call}

-- the item of a region in a header, or handed over in a call
abbrev pub items_region : Side → Ident → List Item → List Item
items_region Header r after = items_header_region r after
items_region Call r after = items_handed r after

-- what stands behind the next token, with its place
abbrev pub behind_word : {A : Type 0} → ℕ → (ℕ → Reader A) → Reader A
behind_word end met ts = met (here end ts) (rest ts)

-- a right side, and a block, in which `blocks` may be nested
abbrev pub side_of : ℕ → ℕ → ℕ → Reader Right
side_of end room blocks = right_of end room (type_of end most_lists) (block_of end room most_lists blocks)

abbrev pub nested_of : ℕ → ℕ → ℕ → Reader Block
nested_of end room blocks = block_of end room most_lists blocks

-- the inside of a block
abbrev pub inside_of : ℕ → ℕ → ℕ → ℕ → Reader Block
inside_of end whole room blocks = inside end (side_of end whole blocks) room

abbrev pub function_of : ℕ → ℕ → Reader Fun
function_of end room = fun_of end room most_lists most_blocks
