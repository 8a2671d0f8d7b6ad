-- The verdict on a table's commands.
use Rattle.std.specs.Prelude.{◌≡◌, length, Ok, Result}
use Rattle.lexing.specs.declared.fault.Fault.{Fault}
use Rattle.language.specs.Syntax.{Script}
use Rattle.language.specs.Checking.{◌>>◌, checking}
use Rattle.draft.specs.declared.table.Table.{Table}
use Rattle.draft.specs.Items.{text_of, items, items_of}
use Rattle.scope.specs.Verdicts.{passed}

-- the answer is that of checking, for the script that the table holds
abbrev pub Judges : Table → Result (Unit {0}) Fault → Type 0
Judges t r = (s : Script) → items t ≡ items_of s → passed r ≡ (checking (length (text_of t)) s >> Ok tt)
