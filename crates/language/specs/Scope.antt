-- What a name means: the scope of variables and regions, and the one rule by which entries are found.
use Rattle.std.specs.Prelude.{ℕ, true, false, List, [], ◌∷◌, ◌++◌, map, Some, None, Option}
use Rattle.lexing.specs.Tokens.{same_bytes}
use Rattle.language.specs.Syntax.{Ident, Param, Fun, Script}
use Rattle.language.specs.Types.{Name, RegionType, unplaced}

-- how many functions a script, and how many parameters a function may have
abbrev pub most_functions : ℕ
most_functions = 64

abbrev pub most_params : ℕ
most_params = 8

-- how many regions, and how many variables may be in scope
abbrev pub most_regions : ℕ
most_regions = 8

abbrev pub most_variables : ℕ
most_variables = 32

-- the first entry of that name, or none
abbrev pub find : {A : Type 0} → (A → Name) → Name → List A → Option A
find name_of n [] = None
find name_of n (e ∷ es) = elim (same_bytes (name_of e) n) [ true ↦ Some e | false ↦ find name_of n es ]

-- a variable in scope: its name and its type
pub record Variable : Type 0 where
  pub name : Name
  pub type : RegionType

-- the regions and the variables in scope, the outermost first
pub record Scope : Type 0 where
  pub regions : List Name
  pub variables : List Variable

-- the variable of a name
abbrev pub find_variable : Scope → Name → Option Variable
find_variable Γ x = find (λ v. v.name) x Γ.variables

-- the region of a name: its entry is the name alone
abbrev pub find_region : Scope → Name → Option Name
find_region Γ r = find (λ s. s) r Γ.regions

-- the function of a name
abbrev pub find_function : Script → Name → Option Fun
find_function F f = find (λ g. g.name.name) f F

-- the scope with one more variable
abbrev pub with_variable : Scope → Ident → RegionType → Scope
with_variable Γ x T = record { regions = Γ.regions; variables = Γ.variables ++ (record { name = x.name; type = T } ∷ []) }

-- the scope with one more region
abbrev pub with_region : Scope → Ident → Scope
with_region Γ r = record { regions = Γ.regions ++ (r.name ∷ []); variables = Γ.variables }

-- the names as they are, without places
abbrev pub names : List Ident → List Name
names rs = map (λ r. r.name) rs

-- the variable that a parameter is
abbrev pub as_variable : Param → Variable
as_variable q = record { name = q.name.name; type = unplaced q.type }

-- the scope of a header's parameters: its regions, and no variable yet
abbrev pub region_scope : Fun → Scope
region_scope f = record { regions = names f.regions; variables = [] }

-- the scope of a function's block: the regions and the parameters of its header
abbrev pub header_scope : Fun → Scope
header_scope f = record { regions = names f.regions; variables = map as_variable f.params }

-- the scope in which nothing is known
abbrev pub empty_scope : Scope
empty_scope = record { regions = []; variables = [] }
