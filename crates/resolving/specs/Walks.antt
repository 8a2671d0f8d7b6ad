-- What the walk over a table's items lays down: for each part of a script that stands at a position, the commands that it is resolved to.
use Rattle.std.specs.Prelude.{◌≡◌, ℕ, suc, ◌+◌, ◌<◌, ◌≤◌, true, false, List, [], ◌∷◌, ◌++◌, map, length, drop, Some, None, Ok, Option, slice_get}
use Rattle.lexing.specs.Tokens.{same_bytes}
use Rattle.language.specs.Syntax.{Ident, Ty, Atom, Block, Right, atom, Param, Fun, Script}
use Rattle.language.specs.Types.{Name, RegionType, list}
use Rattle.language.specs.Scope.{Scope, with_variable, names, as_variable, header_scope}
use Rattle.language.specs.Typing.{TypedAtom, TypedAtoms, TypedRight, TypedBlock, NewRegions, NewParams, TypedHeader, TypedScript}
use Rattle.language.specs.Checking.{type_atom}
use Rattle.draft.specs.declared.table.Table.{Table}
use Rattle.draft.specs.Items.{Item, a_function, a_header_region, a_parameter, an_outcome, an_int, a_list, a_let, a_print, a_last, a_variable, a_number, an_operation, a_nil, a_cons, a_call, a_handed, an_if, a_region, a_case, case_names, items, items_type, items_atom, items_each, items_handed, items_header_region, items_right, items_block, items_param, items_fun, items_of}
use Rattle.scope.specs.declared.search.Variable.{Variable as Entry}
use Rattle.scope.specs.declared.state.State.{State}
use Rattle.scope.specs.Entries.{scope_of}
use Rattle.scope.specs.declared.types.Sort.{Sort}
use Rattle.scope.specs.Words.{type_of}
use Rattle.program.specs.declared.command.Command.{Command}
use Rattle.program.specs.declared.command.Way.{Way}
use Rattle.program.specs.Compiled.{region_slot, operand, right_size, block_size, handed, arguments, compiled_right, compiled_block}
use Rattle.resolving.specs.declared.atoms.Known.{Known}
use Rattle.resolving.specs.declared.calls.Callee.{Callee}
use Rattle.resolving.specs.declared.headers.Header.{Header}
use Rattle.resolving.specs.declared.rights.End.{End}

-- these items more at the end
pub record Grows {A : Type 0} (before after more : List A) : Type 0 where
  pub is : after ≡ before ++ more

-- the type of the variable in a slot
abbrev pub AtomSort : State → ℕ → Sort → Type 0
AtomSort n slot s = (v : Entry) → slice_get n.variables.items slot ≡ Some v → s ≡ v.sort

-- an atom's operand and its type
pub record Meant (t : Table) (Γ : Scope) (a : Atom) (T : RegionType) (k : Known) : Type 0 where
  pub operand_is : k.operand ≡ operand Γ a
  pub sort_is : type_of (items t) k.sort ≡ T

-- whatever typed atom stands at the position, it is known, and it is one item
abbrev pub AtomKnown : Table → State → ℕ → Known → Type 0
AtomKnown t n position k = (Γ : Scope) (a : Atom) (T : RegionType) (after : List Item) →
    scope_of t n ≡ Γ → drop position (items t) ≡ items_atom a after → type_atom Γ a ≡ Ok T → Meant t Γ a T k × (drop (position + 1) (items t) ≡ after)

-- commands are laid down, and the rest stands at a position
pub record Passed (t : Table) (before after : List Command) (cs : List Command) (position : ℕ) (rest : List Item) : Type 0 where
  pub grows : Grows before after cs
  pub on : drop position (items t) ≡ rest

-- whatever regions a call hands over at the position, they are laid down
abbrev pub Hands : Table → State → List Command → List Command → ℕ → ℕ → Type 0
Hands t n before after position end = (Γ : Scope) (rs : List Ident) (args : List Atom) (d : Block) (rest : List Item) →
    scope_of t n ≡ Γ → drop position (items t) ≡ items_each items_handed rs (items_each items_atom args (items_block d rest)) → length before + length rs ≤ 4096 →
    Passed t before after (handed Γ rs) end (items_each items_atom args (items_block d rest))

-- whatever typed arguments stand at the position, they are laid down
abbrev pub Argues : Table → State → List Command → List Command → ℕ → ℕ → Type 0
Argues t n before after position end = (Γ : Scope) (args : List Atom) (Ts : List RegionType) (d : Block) (rest : List Item) →
    scope_of t n ≡ Γ → drop position (items t) ≡ items_each items_atom args (items_block d rest) → TypedAtoms Γ args Ts → length before + length args ≤ 4096 →
    Passed t before after (arguments Γ args) end (items_block d rest)

-- the name of a function that begins with an item
abbrev pub heading : Item → Option Name
heading (a_function f) = Some f.name
heading (a_header_region p) = None
heading (a_parameter p) = None
heading an_outcome = None
heading an_int = None
heading (a_list p) = None
heading (a_let p) = None
heading (a_print p) = None
heading a_last = None
heading (a_variable p) = None
heading (a_number p q) = None
heading (an_operation p q) = None
heading (a_nil p q) = None
heading (a_cons p q) = None
heading (a_call p q) = None
heading (a_handed p) = None
heading (an_if p) = None
heading (a_region p q) = None
heading (a_case p) = None
heading (case_names p q) = None

-- how many functions begin before the first of that name, and the items from there on
abbrev pub functions_before : Name → List Item → ℕ
functions_before n [] = 0
functions_before n (i ∷ is) = elim (heading i) [ Some m ↦ elim (same_bytes m n) [ true ↦ 0 | false ↦ suc (functions_before n is) ] | None ↦ functions_before n is ]

abbrev pub function_from : Name → List Item → List Item
function_from n [] = []
function_from n (i ∷ is) = elim (heading i) [ Some m ↦ elim (same_bytes m n) [ true ↦ i ∷ is | false ↦ function_from n is ] | None ↦ function_from n is ]

-- from a position on, behind `index` functions: how many begin before the first of a name, and that one's items
abbrev pub Sought : Table → Name → ℕ → ℕ → Callee → Type 0
Sought t name position index r =
    (r.index ≡ index + functions_before name (drop position (items t))) × (drop r.header (items t) ≡ function_from name (drop position (items t)))

-- the rest stands behind one item
abbrev pub OneBehind : Table → ℕ → ℕ → Type 0
OneBehind t position end = (i : Item) (rest : List Item) → drop position (items t) ≡ i ∷ rest → drop end (items t) ≡ rest

-- the rest stands behind a type
abbrev pub TypeBehind : Table → ℕ → ℕ → Type 0
TypeBehind t position end = (T : Ty) (rest : List Item) → drop position (items t) ≡ items_type T rest → drop end (items t) ≡ rest

-- a header's regions come into scope
abbrev pub RegionsIn : Table → State → State → ℕ → ℕ → Type 0
RegionsIn t n m position end = (Γ : Scope) (rs : List Ident) (qs : List Param) (rest : List Item) → scope_of t n ≡ Γ →
    drop position (items t) ≡ items_each items_header_region rs (items_each items_param qs (an_outcome ∷ rest)) → NewRegions Γ rs →
    (scope_of t m ≡ record { regions = Γ.regions ++ names rs; variables = Γ.variables }) × (drop end (items t) ≡ items_each items_param qs (an_outcome ∷ rest))

-- a header's parameters come into scope
abbrev pub ParamsIn : Table → State → State → ℕ → ℕ → Type 0
ParamsIn t n m position end = (Γ : Scope) (qs : List Param) (rest : List Item) → scope_of t n ≡ Γ →
    drop position (items t) ≡ items_each items_param qs (an_outcome ∷ rest) → NewParams Γ qs →
    (scope_of t m ≡ record { regions = Γ.regions; variables = Γ.variables ++ map as_variable qs }) × (drop end (items t) ≡ an_outcome ∷ rest)

-- a function's header: its scope, its result's type and its block
pub record Headed (t : Table) (f : Fun) (rest : List Item) (r : Header) : Type 0 where
  pub scope : scope_of t r.state ≡ header_scope f
  pub result : drop r.result (items t) ≡ items_type f.result (items_block f.body rest)
  pub body : drop r.body (items t) ≡ items_block f.body rest

abbrev pub HeaderWalk : Table → ℕ → Header → Type 0
HeaderWalk t position r = (f : Fun) (rest : List Item) → drop position (items t) ≡ items_fun f rest → TypedHeader f → Headed t f rest r

-- an item stands at a position
abbrev pub Stands : Table → ℕ → Item → Type 0
Stands t position i = drop position (items t) ≡ i ∷ drop (position + 1) (items t)

-- the table holds a well-typed script, and the names stand for a scope
pub record Stage (t : Table) (F : Script) (n : State) (Γ : Scope) : Type 0 where
  pub script : items t ≡ items_of F
  pub typed : TypedScript F
  pub scope : scope_of t n ≡ Γ

-- commands are laid down, the rest stands behind, and the type is known
pub record Walked (t : Table) (before after : List Command) (cs : List Command) (rest : List Item) (T : RegionType) (end : End) : Type 0 where
  pub grows : Grows before after cs
  pub on : drop end.position (items t) ≡ rest
  pub sort_is : type_of (items t) end.sort ≡ T

-- whatever typed block stands at the position, its commands are laid down
abbrev pub BlockWalk : Table → State → List Command → List Command → ℕ → Way → End → Type 0
BlockWalk t n before after position w end = (F : Script) (Γ : Scope) (b : Block) (T : RegionType) (rest : List Item) →
    Stage t F n Γ → drop position (items t) ≡ items_block b rest → TypedBlock F Γ b T → length before + block_size b ≤ 4096 →
    Walked t before after (compiled_block F Γ (length before) w b) rest T end

-- whatever typed right side stands at the position, its commands are laid down
abbrev pub RightWalk : Table → State → List Command → List Command → ℕ → End → Type 0
RightWalk t n before after position end = (F : Script) (Γ : Scope) (r : Right) (d : Block) (T : RegionType) (rest : List Item) →
    Stage t F n Γ → drop position (items t) ≡ items_right r (items_block d rest) → TypedRight F Γ r T → length Γ.variables < 32 → length before + right_size r ≤ 4096 →
    Walked t before after (compiled_right F Γ (length before) r) (items_block d rest) T end

-- the same for an atom
abbrev pub AtomWalk : Table → State → List Command → List Command → ℕ → End → Type 0
AtomWalk t n before after position end = (F : Script) (Γ : Scope) (a : Atom) (T : RegionType) (rest : List Item) →
    Stage t F n Γ → drop position (items t) ≡ items_atom a rest → TypedAtom Γ a T → length before < 4096 →
    Walked t before after (compiled_right F Γ (length before) (atom a)) rest T end

-- the slot of the region of a list
abbrev pub ListRegion : Table → State → Sort → ℕ → Type 0
ListRegion t n s r = (x : Name) (S : RegionType) → type_of (items t) s ≡ list x S → r ≡ region_slot (scope_of t n) x

-- the names of a `case` come into scope
abbrev pub SplitNames : Table → State → State → Sort → ℕ → ℕ → Type 0
SplitNames t n m s position end = (Γ : Scope) (x y : Ident) (q : Name) (S : RegionType) (rest : List Item) → scope_of t n ≡ Γ → drop position (items t) ≡ case_names x y ∷ rest →
    type_of (items t) s ≡ list q S → length Γ.variables + 1 < 32 →
    (scope_of t m ≡ with_variable (with_variable Γ x S) y (list q S)) × (drop end (items t) ≡ rest)
