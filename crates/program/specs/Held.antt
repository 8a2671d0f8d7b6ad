-- What code holds, and what every program promises.
use Rattle.std.specs.Prelude.{◌≡◌, ℕ, ◌⊎◌, List, [], Ok}
use Rattle.language.specs.Syntax.{Script}
use Rattle.language.specs.Checking.{checking}
use Rattle.draft.specs.Origin.{WasRead}
use Rattle.program.specs.declared.command.Command.{Command}
use Rattle.program.specs.declared.command.Function.{Function}
use Rattle.program.specs.declared.code.Code.{Code}
use Rattle.program.specs.Compiled.{compiled, listed, main_index}

-- the commands and the functions, one after the other
abbrev pub commands : Code → List Command
commands c = c.commands.items

abbrev pub functions : Code → List Function
functions c = c.functions.items

-- the code is what a script is resolved to
abbrev pub Holds : Code → Script → Type 0
Holds c s = (commands c ≡ compiled s) × (functions c ≡ listed s) × (c.main ≡ main_index s)

-- there is no command, or the code is that of a script that has passed every question
abbrev pub Sound : Code → Type 0
Sound c = (commands c ≡ []) ⊎ ((end : ℕ) × (s : Script) × (checking end s ≡ Ok s) × Holds c s × WasRead s)
