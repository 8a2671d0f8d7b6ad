-- Answers of calls, read as answers of the definitions.
use Rattle.std.specs.Prelude.{Ok, Err, Result}
use Rattle.lexing.specs.declared.fault.Fault.{Fault}
use Rattle.lexing.specs.Numbers.{question_number}
use Rattle.language.specs.Verdict.{Refused}
use Rattle.language.specs.Syntax.{Ident}
use Rattle.language.specs.Scope.{Scope}
use Rattle.language.specs.Checking.{◌>>◌, known_region}

-- a fault by its question's number and its place
abbrev pub refused : Fault → Refused
refused e = record { number = question_number e.question; place = e.place }

-- an answer whose value is read by a function
abbrev pub told : {A B : Type 0} → (A → B) → Result A Fault → Result B Refused
told f (Ok a) = Ok (f a)
told f (Err e) = Err (refused e)

-- an answer that has no value of its own
abbrev pub passed : {A : Type 0} → Result A Fault → Result (Unit {0}) Refused
passed (Ok a) = Ok tt
passed (Err e) = Err (refused e)

-- the region is known, and nothing more is answered
abbrev pub known : Scope → Ident → Result (Unit {0}) Refused
known Γ r = known_region Γ r >> Ok tt
