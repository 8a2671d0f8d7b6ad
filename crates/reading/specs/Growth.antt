-- How a part of the grammar is read: the cursor goes on behind it, and its table says its items besides.
use Rattle.std.specs.Prelude.{◌≡◌, ℕ, ◌+◌, ◌<◌, ◌≤◌, List, ◌++◌, length, Ok, Err, Result, MatchResult}
use Rattle.lexing.specs.declared.fault.Fault.{Fault}
use Rattle.language.specs.Syntax.{Script}
use Rattle.language.specs.Reading.{Reader, funs}
use Rattle.draft.specs.Items.{Item, items, items_each, items_fun}
use Rattle.reading.specs.declared.cursor.Cursor.{Cursor}
use Rattle.reading.specs.Cursors.{ahead, end_of, refused}
use Rattle.reading.specs.Parts.{function_of}

-- a part was read between two cursors, and the table says its items besides; no more commands than tokens
pub record Grew {A : Type 0} (f : Reader A) (w : A → List Item → List Item) (c d : Cursor) : Type 0 where
  pub tree : A
  pub reads : f (ahead c) ≡ Ok (tree, ahead d)
  pub told : (after : List Item) → items d.table.now ++ after ≡ items c.table.now ++ w tree after
  pub text : d.text.now ≡ c.text.now
  pub same : d.table.ghost_name ≡ c.table.ghost_name
  pub long : length d.table.now.text.items ≡ length c.table.now.text.items
  pub nearer : length (ahead d) < length (ahead c)
  pub room : length d.table.now.commands.items + length (ahead d) ≤ length c.table.now.commands.items + length (ahead c)

-- the answer of reading a part from a cursor on
abbrev pub Reads : {A : Type 0} → Reader A → (A → List Item → List Item) → Cursor → Cursor → Result (Unit {0}) Fault → Type 0
Reads f w c d r = MatchResult r (λ _. Grew f w c d) (λ e. f (ahead c) ≡ Err (refused e))

-- all functions were read up to the end
pub record GrewAll (whole room : ℕ) (c d : Cursor) : Type 0 where
  pub tree : Script
  pub reads : funs (end_of c) (function_of (end_of c) whole) room (ahead c) ≡ Ok tree
  pub told : (after : List Item) → items d.table.now ++ after ≡ items c.table.now ++ items_each items_fun tree after
  pub text : d.text.now ≡ c.text.now
  pub same : d.table.ghost_name ≡ c.table.ghost_name
  pub long : length d.table.now.text.items ≡ length c.table.now.text.items

-- the answer of reading all functions from a cursor on
abbrev pub ReadsAll : ℕ → ℕ → Cursor → Cursor → Result (Unit {0}) Fault → Type 0
ReadsAll whole room c d r = MatchResult r (λ _. GrewAll whole room c d) (λ e. funs (end_of c) (function_of (end_of c) whole) room (ahead c) ≡ Err (refused e))
