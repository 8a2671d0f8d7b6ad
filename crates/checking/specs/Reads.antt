-- What the checker's own values stand for, over the table that they point into.
use Rattle.std.specs.Prelude.{◌≡◌, ℕ, ◌<◌, List, [], ◌∷◌, ◌++◌, map, length, drop, Result}
use Rattle.language.specs.Verdict.{Refused}
use Rattle.language.specs.Types.{RegionType}
use Rattle.language.specs.Scope.{Scope}
use Rattle.draft.specs.declared.table.Table.{Table}
use Rattle.draft.specs.Items.{Item, items, text_of, ident}
use Rattle.draft.specs.declared.command.Name.{Name as Stands}
use Rattle.scope.specs.declared.state.State.{State}
use Rattle.scope.specs.declared.types.Sort.{Sort}
use Rattle.scope.specs.Words.{type_of}
use Rattle.scope.specs.Entries.{scope_of}
use Rattle.scope.specs.declared.spot.Spot.{Spot}
use Rattle.checking.specs.declared.part.Typed.{Typed}
use Rattle.checking.specs.declared.part.Heading.{Heading}
use Rattle.checking.specs.declared.part.Walk.{Walk}
use Rattle.checking.specs.declared.part.Functions.{Functions as Entries}
use Rattle.checking.specs.Walk.{Answer, Functions, walk_block}

-- a typed part
abbrev pub answer_of : Table → Typed → Answer
answer_of t a = (type_of (items t) a.sort, a.place, drop a.behind.position (items t))

-- a type and the items behind
abbrev pub pair_of : Table → Sort × Spot → RegionType × List Item
pair_of t a = (type_of (items t) a.0, drop a.1.position (items t))

-- the items from a spot on
abbrev pub rest_of : Table → Spot → List Item
rest_of t u = drop u.position (items t)

-- the functions with their headers
abbrev pub functions_of : Table → Entries → Functions
functions_of t f = map (λ e. (ident (text_of t) e.name, drop e.header (items t))) f.entries.items

-- how blocks are walked, with the functions and the steps of a walk
abbrev pub blocks_of : Table → Walk → Scope → List Item → Result Answer Refused
blocks_of t w = walk_block w.steps (functions_of t w.functions.now)

-- the scope is as it was
pub record Kept (s u : State) : Type 0 where
  pub regions : u.regions.items ≡ s.regions.items
  pub variables : u.variables.items ≡ s.variables.items

-- the scope that a state has come to, and the items behind
abbrev pub scope_behind : Table → State → Spot → Scope × List Item
scope_behind t s u = (scope_of t s, drop u.position (items t))

-- the scope that a state has come to, the items of a result type, and the items behind a header
abbrev pub heading_of : Table → State → Heading → Scope × List Item × List Item
heading_of t s h = (scope_of t s, drop h.result (items t), drop h.behind.position (items t))

-- where there is room, one function more is known
abbrev pub AddsFunction : Entries → Entries → Stands → ℕ → Type 0
AddsFunction f g n h = length f.entries.items < 64 → (t : Table) → functions_of t g ≡ functions_of t f ++ ((ident (text_of t) n, drop h (items t)) ∷ [])

-- the functions that are known in the end
abbrev pub functions_in : Table → Entries → Unit {0} → Functions
functions_in t f u = functions_of t f
