-- A script whose functions sum a list in a region that they are handed, and the commands that it is resolved to.
use Rattle.std.specs.Prelude.{◌≡◌, true, false, List, [], ◌∷◌, pos, Ok, Err, codes}
use Prim.Native.String.{String}
use Rattle.language.specs.Syntax.{Script}
use Rattle.language.specs.Reading.{reading}
use Rattle.draft.specs.declared.command.Operator.TheVariants.{Add}
use Rattle.program.specs.declared.command.Operand.TheVariants.{Slot, Number}
use Rattle.program.specs.declared.command.Way.TheVariants.{Return, Leave}
use Rattle.program.specs.declared.command.Command.TheVariants.{Operate, Nil, Cons, Call, Hand, Argument, Open, Case, Print, Finish}
use Rattle.program.specs.declared.command.Command.{Command}
use Rattle.program.specs.Compiled.{compiled, listed, main_index}

abbrev pub sum_text : String
sum_text =
    "fun sum[r](l: list@r(int)): int { let s = case l { 0 } else h t { let u = call sum[r](t); let v = add h u; v }; s } fun main(n: int): int { let s = region a { let e = nil@a(int); let c = cons@a(n, e); let d = cons@a(3, c); print n; let k = call sum[a](d); k }; s }"

-- the script of a text that can be read
abbrev pub script_of : String → Script
script_of text = elim (reading (codes text)) [ Ok F ↦ F | Err e ↦ [] ]

abbrev pub sum_commands : List Command
sum_commands =
    -- sum: its list is in slot 0
    Case (Slot 0) 0 2 1 ∷
    Finish (Number (pos 0)) (Leave 7 1 false) ∷
    Call 74 0 3 ∷
    Hand 0 ∷
    Argument (Slot 2) ∷
    Operate 98 Add (Slot 1) (Slot 3) 4 ∷
    Finish (Slot 4) (Leave 7 1 false) ∷
    Finish (Slot 1) Return ∷
    -- main: its number is in slot 0
    Open 148 0 ∷
    Nil 1 ∷
    Cons 187 0 (Slot 0) (Slot 1) 2 ∷
    Cons 209 0 (Number (pos 3)) (Slot 2) 3 ∷
    Print 223 (Slot 0) ∷
    Call 240 0 4 ∷
    Hand 0 ∷
    Argument (Slot 3) ∷
    Finish (Slot 4) (Leave 17 1 true) ∷
    Finish (Slot 1) Return ∷
    []

-- the script's commands, its functions and its `main`
abbrev pub SumIsResolved : Type 0
SumIsResolved =
    (compiled (script_of sum_text) ≡ sum_commands) ×
    (listed (script_of sum_text) ≡ record { start = 0; regions = 1; params = 1 } ∷ record { start = 8; regions = 0; params = 1 } ∷ []) ×
    (main_index (script_of sum_text) ≡ 1)
