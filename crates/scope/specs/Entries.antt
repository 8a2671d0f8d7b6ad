-- Entries that bear a name, and what is in scope by them.
use Rattle.std.specs.Prelude.{◌≡◌, ◌<◌, map, length, take}
use Rattle.language.specs.Scope.{Scope, Variable, with_region, with_variable, empty_scope}
use Rattle.draft.specs.declared.table.Table.{Table}
use Rattle.draft.specs.Items.{text_of, items, ident}
use Rattle.scope.specs.declared.search.Variable.{Variable as Entry}
use Rattle.scope.specs.declared.state.Counts.{Counts}
use Rattle.scope.specs.declared.state.State.{State}
use Rattle.scope.specs.declared.types.Sort.{Sort}
use Rattle.draft.specs.declared.command.Name.{Name as Stands}
use Rattle.scope.specs.Words.{bytes, type_of}

-- the variable that an entry stands for
abbrev pub variable_of : Table → Entry → Variable
variable_of t v = record { name = bytes (text_of t) v.name; type = type_of (items t) v.sort }

-- the scope that a state stands for, over the table that its names and types stand in
abbrev pub scope_of : Table → State → Scope
scope_of t s =
    record {
      regions = map (bytes (text_of t)) s.regions.items;
      variables = map (variable_of t) s.variables.items;
    }

-- how many regions and how many variables are in scope
abbrev pub counts_of : State → Counts
counts_of s = record { regions = length s.regions.items; variables = length s.variables.items }

-- all that was in scope at first still stands in its place
pub record Grown (s u : State) : Type 0 where
  pub regions : take (length s.regions.items) u.regions.items ≡ s.regions.items
  pub variables : take (length s.variables.items) u.variables.items ≡ s.variables.items

-- nothing is in scope
abbrev pub Empty : State → Type 0
Empty s = (t : Table) → scope_of t s ≡ empty_scope

-- where there is room, one region more is in scope
abbrev pub AddsRegion : State → State → Stands → Type 0
AddsRegion s u n = length s.regions.items < 8 → (t : Table) → scope_of t u ≡ with_region (scope_of t s) (ident (text_of t) n)

-- where there is room, one variable more is in scope
abbrev pub AddsVariable : State → State → Stands → Sort → Type 0
AddsVariable s u n T = length s.variables.items < 32 → (t : Table) → scope_of t u ≡ with_variable (scope_of t s) (ident (text_of t) n) (type_of (items t) T)
