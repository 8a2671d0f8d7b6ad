-- What the walk over all functions of a table lays down and lists.
use Rattle.std.specs.Prelude.{◌≡◌, ℕ, ◌+◌, ◌≤◌, List, [], length, drop, Ok}
use Rattle.std.specs.List.{ContainsAt as Has, AllByRecursion}
use Rattle.language.specs.Syntax.{Fun, Script}
use Rattle.language.specs.Typing.{TypedScript}
use Rattle.language.specs.Checking.{checking}
use Rattle.draft.specs.declared.table.Table.{Table}
use Rattle.draft.specs.Origin.{WasRead}
use Rattle.draft.specs.Items.{items, items_each, items_fun, items_of}
use Rattle.program.specs.declared.code.Code.{Code}
use Rattle.program.specs.Held.{commands, functions}
use Rattle.program.specs.Compiled.{compiled_from, listed_from}
use Rattle.resolving.specs.Walks.{Grows}

-- whatever functions of a well-typed script stand at the position, they are laid down and listed
abbrev pub FunctionsWalk : Table → Code → Code → ℕ → Type 0
FunctionsWalk t before after position = (F : Script) (fs : List Fun) → items t ≡ items_of F → TypedScript F → AllByRecursion (Has F) fs → drop position (items t) ≡ items_each items_fun fs [] →
    length (commands before) + length (compiled_from F (length (commands before)) fs) ≤ 4096 → length (functions before) + length fs ≤ 64 →
    Grows (commands before) (commands after) (compiled_from F (length (commands before)) fs) × Grows (functions before) (functions after) (listed_from (length (commands before)) fs)

-- the table holds a script that was read and passes checking
abbrev pub HoldsChecked : Table → Type 0
HoldsChecked t = ∥ ((end : ℕ) × (s : Script) × (items t ≡ items_of s) × (checking end s ≡ Ok s) × WasRead s) ∥₁
