-- What a checked script is resolved to: its commands in the order of the text, its functions, and which of them is `main`.
-- It is told of checked scripts. So that it is total, a name out of scope and a part without a type have a fixed meaning too; no checked script has one.
use Rattle.std.specs.Prelude.{ℕ, suc, ◌+◌, Bool, true, false, List, [], ◌∷◌, ◌++◌, map, length, Ok, Err, codes, Result}
use Rattle.lexing.specs.Tokens.{same_bytes}
use Rattle.language.specs.Verdict.{Refused}
use Rattle.language.specs.Syntax.{Ident, Atom, var, num, Op, add, sub, mul, div, rem, eq, lt, Right, atom, oper, nil, cons, call, test, region, split, Block, last, bind, print, Fun, Script}
use Rattle.language.specs.Types.{Name, RegionType, int, list}
use Rattle.language.specs.Scope.{Scope, with_variable, with_region, header_scope}
use Rattle.language.specs.Checking.{type_atom, type_right}
use Rattle.draft.specs.declared.command.Operator.{Operator}
use Rattle.draft.specs.declared.command.Operator.TheVariants.{Add, Sub, Mul, Div, Rem, Eq, Lt}
use Rattle.program.specs.declared.command.Operand.{Operand}
use Rattle.program.specs.declared.command.Operand.TheVariants.{Slot, Number}
use Rattle.program.specs.declared.command.Way.{Way}
use Rattle.program.specs.declared.command.Way.TheVariants.{Return, Leave}
use Rattle.program.specs.declared.command.Command.{Command}
use Rattle.program.specs.declared.command.Command.TheVariants.{Move, Operate, Nil, Cons, Call, Hand, Argument, If, Open, Case, Print, Finish}
use Rattle.program.specs.declared.command.Function.{Function}

-- the number of entries before the first of that name
abbrev pub index : {A : Type 0} → (A → Name) → Name → List A → ℕ
index name_of n [] = 0
index name_of n (e ∷ es) = elim (same_bytes (name_of e) n) [ true ↦ 0 | false ↦ suc (index name_of n es) ]

-- a variable's slot, a region's slot, a function's index
abbrev pub variable_slot : Scope → Name → ℕ
variable_slot Γ x = index (λ v. v.name) x Γ.variables

abbrev pub region_slot : Scope → Name → ℕ
region_slot Γ r = index (λ s. s) r Γ.regions

abbrev pub function_index : Script → Name → ℕ
function_index F f = index (λ g. g.name.name) f F

-- the slots that are free: a variable, a region that comes into scope gets that number
abbrev pub free_slot : Scope → ℕ
free_slot Γ = length Γ.variables

abbrev pub free_region : Scope → ℕ
free_region Γ = length Γ.regions

abbrev pub operand : Scope → Atom → Operand
operand Γ (var x) = Slot (variable_slot Γ x.name)
operand Γ (num p z) = Number z

abbrev pub operator_of : Op → Operator
operator_of add = Add
operator_of sub = Sub
operator_of mul = Mul
operator_of div = Div
operator_of rem = Rem
operator_of eq = Eq
operator_of lt = Lt

-- the type that a checked part has
abbrev pub type_in : Result RegionType Refused → RegionType
type_in (Ok T) = T
type_in (Err e) = int

-- the region that a list lies in, and the type of its elements
abbrev pub outermost : RegionType → Name
outermost int = []
outermost (list r S) = r

abbrev pub elements : RegionType → RegionType
elements int = int
elements (list r S) = S

-- how many commands a part has
abbrev mutual
  pub right_size : Right → ℕ
  right_size (atom a) = 1
  right_size (oper p o a b) = 1
  right_size (nil p r t) = 1
  right_size (cons p r a b) = 1
  right_size (call p g rs args) = 1 + (length rs + length args)
  right_size (test p a b c) = 1 + (block_size b + block_size c)
  right_size (region p r b) = 1 + block_size b
  right_size (split p a b x y c) = 1 + (block_size b + block_size c)

  pub block_size : Block → ℕ
  block_size (last a) = 1
  block_size (bind x r b) = right_size r + block_size b
  block_size (print p a b) = 1 + block_size b

-- the scope of the second block of a `case` on an atom
abbrev pub split_scope : Scope → Atom → Ident → Ident → Scope
split_scope Γ a x y = with_variable (with_variable Γ x (elements (type_in (type_atom Γ a)))) y (type_in (type_atom Γ a))

-- the regions that a call hands over, and its arguments
abbrev pub handed : Scope → List Ident → List Command
handed Γ rs = map (λ r. Hand (region_slot Γ r.name)) rs

abbrev pub arguments : Scope → List Atom → List Command
arguments Γ args = map (λ a. Argument (operand Γ a)) args

-- the way out of a block of a right side whose last command stands before `next`
abbrev pub leaving : Scope → ℕ → Bool → Way
leaving Γ next closes = Leave next (free_slot Γ) closes

-- the commands of a part whose first command has the index `at`
abbrev mutual
  pub compiled_right : Script → Scope → ℕ → Right → List Command
  compiled_right F Γ at (atom a) = Move (operand Γ a) (free_slot Γ) ∷ []
  compiled_right F Γ at (oper p o a b) = Operate p (operator_of o) (operand Γ a) (operand Γ b) (free_slot Γ) ∷ []
  compiled_right F Γ at (nil p r t) = Nil (free_slot Γ) ∷ []
  compiled_right F Γ at (cons p r a b) = Cons p (region_slot Γ r.name) (operand Γ a) (operand Γ b) (free_slot Γ) ∷ []
  compiled_right F Γ at (call p g rs args) = Call p (function_index F g.name) (free_slot Γ) ∷ (handed Γ rs ++ arguments Γ args)
  compiled_right F Γ at (test p a b c) =
      If (operand Γ a) (at + 1 + block_size b) ∷
      (compiled_block F Γ (at + 1) (leaving Γ (at + 1 + block_size b + block_size c) false) b ++
      compiled_block F Γ (at + 1 + block_size b) (leaving Γ (at + 1 + block_size b + block_size c) false) c)
  compiled_right F Γ at (region p r b) =
      Open p (free_region Γ) ∷ compiled_block F (with_region Γ r) (at + 1) (leaving Γ (at + 1 + block_size b) true) b
  compiled_right F Γ at (split p a b x y c) =
      Case (operand Γ a) (region_slot Γ (outermost (type_in (type_atom Γ a)))) (at + 1 + block_size b) (free_slot Γ) ∷
      (compiled_block F Γ (at + 1) (leaving Γ (at + 1 + block_size b + block_size c) false) b ++
      compiled_block F (split_scope Γ a x y) (at + 1 + block_size b) (leaving Γ (at + 1 + block_size b + block_size c) false) c)

  pub compiled_block : Script → Scope → ℕ → Way → Block → List Command
  compiled_block F Γ at w (last a) = Finish (operand Γ a) w ∷ []
  compiled_block F Γ at w (bind x r b) =
      compiled_right F Γ at r ++ compiled_block F (with_variable Γ x (type_in (type_right F Γ r))) (at + right_size r) w b
  compiled_block F Γ at w (print p a b) = Print p (operand Γ a) ∷ compiled_block F Γ (at + 1) w b

-- the commands of functions, one behind the other
abbrev pub compiled_from : Script → ℕ → List Fun → List Command
compiled_from F at [] = []
compiled_from F at (f ∷ fs) = compiled_block F (header_scope f) at Return f.body ++ compiled_from F (at + block_size f.body) fs

abbrev pub compiled : Script → List Command
compiled F = compiled_from F 0 F

-- where each function starts, and what its header counts
abbrev pub listed_from : ℕ → List Fun → List Function
listed_from at [] = []
listed_from at (f ∷ fs) = record { start = at; regions = length f.regions; params = length f.params } ∷ listed_from (at + block_size f.body) fs

abbrev pub listed : Script → List Function
listed F = listed_from 0 F

abbrev pub main_index : Script → ℕ
main_index F = function_index F (codes "main")
