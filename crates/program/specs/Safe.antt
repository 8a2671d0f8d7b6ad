-- What a run needs of its program, so that it has nothing to check: slots below 32, regions below 8, targets ahead and inside.
use Rattle.std.specs.Prelude.{◌≡◌, ℕ, ◌+◌, Bool, true, ◌&&◌, List, [], ◌∷◌, length, Ok, ◌==◌, nat_le, nat_lt, slice_index_or}
use Rattle.language.specs.Syntax.{Script}
use Rattle.language.specs.Checking.{checking}
use Rattle.program.specs.declared.command.Operand.{Operand}
use Rattle.program.specs.declared.command.Operand.TheVariants.{Slot, Number}
use Rattle.program.specs.declared.command.Way.{Way}
use Rattle.program.specs.declared.command.Way.TheVariants.{Return, Leave}
use Rattle.program.specs.declared.command.Command.{Command}
use Rattle.program.specs.declared.command.Command.TheVariants.{Move, Operate, Nil, Cons, Call, Hand, Argument, If, Open, Case, Print, Finish}
use Rattle.program.specs.declared.command.Function.{Function}
use Rattle.program.specs.Compiled.{compiled, listed, main_index}

abbrev pub safe_operand : Operand → Bool
safe_operand (Slot s) = nat_lt s 32
safe_operand (Number z) = true

-- an index ahead of `at` and below `total`
abbrev pub ahead : ℕ → ℕ → ℕ → Bool
ahead total at target = nat_lt at target && nat_lt target total

abbrev pub safe_way : ℕ → ℕ → Way → Bool
safe_way total at Return = true
safe_way total at (Leave next slot closes) = ahead total at next && nat_lt slot 32

-- the function of an index
abbrev pub function_at : List Function → ℕ → Function
function_at G i = slice_index_or G i (record { start = 0; regions = 0; params = 0 })

-- where a call goes on: behind the regions that it hands over and its arguments
abbrev pub behind_call : List Function → ℕ → ℕ → ℕ
behind_call G at g = at + 1 + ((function_at G g).regions + (function_at G g).params)

-- the command of index `at`, of `total` commands, with the functions G
abbrev pub safe_command : List Function → ℕ → ℕ → Command → Bool
safe_command G total at (Move a slot) = safe_operand a && (nat_lt slot 32 && ahead total at (at + 1))
safe_command G total at (Operate p o a b slot) = safe_operand a && (safe_operand b && (nat_lt slot 32 && ahead total at (at + 1)))
safe_command G total at (Nil slot) = nat_lt slot 32 && ahead total at (at + 1)
safe_command G total at (Cons p r a b slot) = nat_lt r 8 && (safe_operand a && (safe_operand b && (nat_lt slot 32 && ahead total at (at + 1))))
safe_command G total at (Call p g slot) = nat_lt g (length G) && (nat_lt slot 32 && ahead total at (behind_call G at g))
safe_command G total at (Hand r) = nat_lt r 8
safe_command G total at (Argument a) = safe_operand a
safe_command G total at (If a second) = safe_operand a && (ahead total at (at + 1) && ahead total at second)
safe_command G total at (Open p r) = nat_lt r 8 && ahead total at (at + 1)
safe_command G total at (Case a r second head) = safe_operand a && (nat_lt r 8 && (nat_lt (head + 1) 32 && (ahead total at (at + 1) && ahead total at second)))
safe_command G total at (Print p a) = safe_operand a && ahead total at (at + 1)
safe_command G total at (Finish a w) = safe_operand a && safe_way total at w

-- all commands from the index `at`
abbrev pub safe_from : List Function → ℕ → ℕ → List Command → Bool
safe_from G total at [] = true
safe_from G total at (c ∷ cs) = safe_command G total at c && safe_from G total (at + 1) cs

-- functions that start inside, with at most 8 regions and 8 parameters
abbrev pub safe_functions : ℕ → List Function → Bool
safe_functions total [] = true
safe_functions total (g ∷ G) = (nat_lt g.start total && (nat_le g.regions 8 && nat_le g.params 8)) && safe_functions total G

-- `main` is one of them, with no region and one parameter
abbrev pub safe_main : List Function → ℕ → Bool
safe_main G m = nat_lt m (length G) && ((function_at G m).regions == 0 && (function_at G m).params == 1)

-- every script that passes checking is resolved to what is safe
abbrev pub PassingIsSafe : Type 0
PassingIsSafe = (end : ℕ) (s : Script) → checking end s ≡ Ok s →
    (safe_from (listed s) (length (compiled s)) 0 (compiled s) ≡ true) ×
    (safe_functions (length (compiled s)) (listed s) ≡ true) ×
    (safe_main (listed s) (main_index s) ≡ true)
