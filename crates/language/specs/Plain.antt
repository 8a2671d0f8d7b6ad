-- The plain run: the script on values, with the account of region lengths beside it and the positions that region names mean.
-- It is told of checked scripts. So that it is total, a function or a region out of scope has a fixed meaning here too; no checked script has one.
use Rattle.std.specs.Prelude.{ℕ, suc, ◌-◌, true, false, List, [], ◌∷◌, ◌++◌, map, length, take, ℤ, pos, Some, None, codes, Option}
use Rattle.regions.specs.Model.{longer}
use Rattle.language.specs.Syntax.{Ident, int, num, Op, Right, Block, atom, oper, nil, cons, call, test, region, split, last, bind, print, Param, Fun, Script}
use Rattle.language.specs.Types.{Name}
use Rattle.language.specs.Scope.{find, find_function}
use Rattle.language.specs.Arithmetic.{calculated, has_divisor, same_number}
use Rattle.language.specs.Values.{Value, number, empty, link, Held, holding, number_of, value_of, values_of, handed}
use Rattle.language.specs.Questions.{Next, moves, calls, prints, grows, divides, ends}

-- a region name in scope, and the position that it means
pub record Placed : Type 0 where
  pub name : Name
  pub position : ℕ

-- what waits for a block's value: the variable that the value is for, the rest of the block around it, and what variables and regions mean there
pub data Frame : Type 0 where
  -- behind a block of `if` or `case`
  inner : Ident → Block → List Held → List Placed → Frame
  -- behind a region's block, which then leaves the account
  closing : Ident → Block → List Held → List Placed → Frame
  -- behind a call
  returning : Ident → Block → List Held → List Placed → Frame

-- a run: its script, the block that is left of the newest, the variables and regions in scope, what waits behind, and the account
pub record State : Type 0 where
  pub script : Script
  pub block : Block
  pub variables : List Held
  pub regions : List Placed
  pub frames : List Frame
  pub account : List ℕ

abbrev pub state : Script → Block → List Held → List Placed → List Frame → List ℕ → State
state F b E ρ K α = record { script = F; block = b; variables = E; regions = ρ; frames = K; account = α }

-- the position that a region name means, or none
abbrev pub meant : List Placed → Name → Option ℕ
meant ρ r = elim (find (λ q. q.name) r ρ) [ Some q ↦ Some q.position | None ↦ None ]

-- the same of a checked script, where there is one
abbrev pub position_of : List Placed → Ident → ℕ
position_of ρ r = elim (meant ρ r.name) [ Some p ↦ p | None ↦ 0 ]

-- a callee's region names mean the positions handed over
abbrev pub placed : List Ident → List ℕ → List Placed
placed [] ps = []
placed (r ∷ rs) [] = []
placed (r ∷ rs) (p ∷ ps) = record { name = r.name; position = p } ∷ placed rs ps

-- the function that stands for one that is not there
abbrev pub no_function : Fun
no_function = record { name = record { place = 0; name = [] }; regions = []; params = []; result = int; body = last (num 0 (pos 0)) }

abbrev pub function_of : Script → Ident → Fun
function_of F f = elim (find_function F f.name) [ Some g ↦ g | None ↦ no_function ]

abbrev pub param_names : List Param → List Ident
param_names qs = map (λ q. q.name) qs

-- a function entered with values for its parameters and positions for its regions
abbrev pub entered : Script → Fun → List Value → List ℕ → List Frame → List ℕ → State
entered F g vs ps K α = state F g.body (handed (param_names g.params) vs) (placed g.regions ps) K α

-- the calls that are unfinished, `main` counted
abbrev pub unfinished : List Frame → ℕ
unfinished [] = 1
unfinished (inner x b E ρ ∷ K) = unfinished K
unfinished (closing x b E ρ ∷ K) = unfinished K
unfinished (returning x b E ρ ∷ K) = suc (unfinished K)

-- entering a region's block adds a 0 to the account
abbrev pub opened : List ℕ → List ℕ
opened α = α ++ (0 ∷ [])

-- leaving it takes that away
abbrev pub closed : List ℕ → List ℕ
closed α = take (length α - 1) α

-- a cons adds 2 at its region
abbrev pub lengthened : List ℕ → ℕ → List ℕ
lengthened α p = longer α p 2

-- the block of an `if`: the first unless the number is 0
abbrev pub chosen : {A : Type 0} → ℤ → A → A → A
chosen z b c = elim (same_number z (pos 0)) [ true ↦ c | false ↦ b ]

-- a block has ended with a value: it goes to what waits for it, or `main` has ended
abbrev pub after_block : Script → Value → List Frame → List ℕ → Next State
after_block F v [] α = ends (number_of v)
after_block F v (inner x b E ρ ∷ K) α = moves (state F b (holding E x v) ρ K α)
after_block F v (closing x b E ρ ∷ K) α = moves (state F b (holding E x v) ρ K (closed α))
after_block F v (returning x b E ρ ∷ K) α = moves (state F b (holding E x v) ρ K α)

-- `case` takes its first block for the list without elements, else names head and tail
abbrev pub split_value : Script → Value → Block → Ident → Ident → Block → List Held → List Placed → List Frame → List ℕ → State
split_value F (number z) b h t c E ρ K α = state F b E ρ K α
split_value F empty b h t c E ρ K α = state F b E ρ K α
split_value F (link v w) b h t c E ρ K α = state F c (holding (holding E h v) t w) ρ K α

-- an operator: `div` and `rem` ask about the second number
abbrev pub operated : Op → ℕ → ℤ → State → Next State
operated o p z s = elim (has_divisor o) [ true ↦ divides p z s | false ↦ moves s ]

-- a right side, whose value is for the variable x of the block b
abbrev pub at_right : Script → Ident → Right → Block → List Held → List Placed → List Frame → List ℕ → Next State
at_right F x (atom a) b E ρ K α = moves (state F b (holding E x (value_of E a)) ρ K α)
at_right F x (oper p o a c) b E ρ K α =
    operated o p (number_of (value_of E c)) (state F b (holding E x (number (calculated o (number_of (value_of E a)) (number_of (value_of E c))))) ρ K α)
at_right F x (nil p r T) b E ρ K α = moves (state F b (holding E x empty) ρ K α)
at_right F x (cons p r a c) b E ρ K α =
    grows p (lengthened α (position_of ρ r)) (state F b (holding E x (link (value_of E a) (value_of E c))) ρ K (lengthened α (position_of ρ r)))
at_right F x (call p f rs xs) b E ρ K α =
    calls p (unfinished K) (entered F (function_of F f) (values_of E xs) (map (position_of ρ) rs) (returning x b E ρ ∷ K) α)
at_right F x (test p a c d) b E ρ K α = moves (state F (chosen (number_of (value_of E a)) c d) E ρ (inner x b E ρ ∷ K) α)
at_right F x (region p r c) b E ρ K α =
    grows p (opened α) (state F c E (ρ ++ (record { name = r.name; position = length α } ∷ [])) (closing x b E ρ ∷ K) (opened α))
at_right F x (split p a c h t d) b E ρ K α = moves (split_value F (value_of E a) c h t d E ρ (inner x b E ρ ∷ K) α)

-- a block: its items in order, then its last atom
abbrev pub at_block : Script → Block → List Held → List Placed → List Frame → List ℕ → Next State
at_block F (last a) E ρ K α = after_block F (value_of E a) K α
at_block F (bind x r b) E ρ K α = at_right F x r b E ρ K α
at_block F (print p a b) E ρ K α = prints p (number_of (value_of E a)) (state F b E ρ K α)

-- the next word of a run
abbrev pub next : State → Next State
next s = at_block s.script s.block s.variables s.regions s.frames s.account

-- `main` on a number
abbrev pub main : Ident
main = record { place = 0; name = codes "main" }

abbrev pub started : Script → ℤ → State
started F n = entered F (function_of F main) (number n ∷ []) [] [] []
