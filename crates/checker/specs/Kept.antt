-- What a refusal of checking leaves.
use Rattle.std.specs.Prelude.{◌≡◌, Ok, Err, Result}
use Rattle.lexing.specs.declared.fault.Fault.{Fault}
use Rattle.program.specs.declared.program.Program.{Program}

-- a refusal leaves the program that was there
abbrev pub Keeps : Result (Unit {0}) Fault → Program → Program → Type 0
Keeps (Ok u) before after = Unit {0}
Keeps (Err e) before after = after ≡ before
