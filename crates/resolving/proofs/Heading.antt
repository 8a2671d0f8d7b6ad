-- A header, part by part.
use Rattle.std.proofs.Common.{◌≡◌, ℕ, ◌+◌, List, [], ◌∷◌, map, drop, sym, refl, ap, ◌∙◌, append_assoc, append-nil, arith}
use Rattle.language.specs.Syntax.{Ident, Ty, int, list}
use Rattle.language.specs.Types.{Name, RegionType, unplaced}
use Rattle.language.specs.Types as types
use Rattle.language.specs.Scope.{Scope, Variable, with_variable, with_region, names, as_variable, empty_scope}
use Rattle.language.specs.Typing.{more_new_regions, more_new_params}
use Rattle.draft.specs.declared.command.Name.{Name as NameOf}
use Rattle.draft.specs.declared.table.Table.{Table}
use Rattle.draft.specs.Items.{Item, a_function, a_header_region, a_parameter, an_outcome, a_list, text_of, items, ident, items_type, items_each, items_header_region, items_param, items_block}
use Rattle.scope.specs.declared.types.Sort.TheVariants.{Written}
use Rattle.scope.specs.Words.{type_at, type_of}
use Rattle.scope.specs.declared.state.State.{State}
use Rattle.scope.specs.Entries.{scope_of, AddsRegion, AddsVariable}
use Rattle.resolving.proofs.Scopes.{region_added, variable_added}
use Rattle.resolving.specs.Walks.{TypeBehind, RegionsIn, ParamsIn, HeaderWalk, OneBehind}

-- the type that stands at the front
pub type-front : (T : Ty) (rest : List Item) → type_at (items_type T rest) ≡ unplaced T
type-front int rest = refl
type-front (list r T) rest = ap (types.list r.name) (type-front T rest)

pub type-more : (t : Table) (position end : ℕ) (x : Ident) → drop position (items t) ≡ a_list x ∷ drop (position + 1) (items t) → TypeBehind t (position + 1) end → TypeBehind t position end
type-more t position end x there more int rest e = absurd (cc)
type-more t position end x there more (list r T) rest e = more T rest (cc)

pub type-last : (t : Table) (position : ℕ) (i : Item) → drop position (items t) ≡ i ∷ drop (position + 1) (items t) → ((x : Ident) → i ≡ a_list x → ⊥) → TypeBehind t position (position + 1)
type-last t position i there never int rest e = cc
type-last t position i there never (list r T) rest e = absurd (never r (cc))

abbrev scope-with : List Name → List Variable → Scope
scope-with rs vs = record { regions = rs; variables = vs }

pub regions-more : (t : Table) (n m u : State) (position end : ℕ) (name : NameOf) → drop position (items t) ≡ a_header_region (ident (text_of t) name) ∷ drop (position + 1) (items t) →
    AddsRegion n m name → RegionsIn t m u (position + 1) end → RegionsIn t n u position end
regions-more t n m u position end name there one more Γ [] [] rest s e h = absurd (cc)
regions-more t n m u position end name there one more Γ [] (q ∷ qs) rest s e h = absurd (cc)
regions-more t n m u position end name there one more Γ (x ∷ rs) qs rest s e (more_new_regions new hs) =
    let both = sym there ∙ e in
    let same : ident (text_of t) name ≡ x = cc in
    let on : drop (position + 1) (items t) ≡ items_each items_header_region rs (items_each items_param qs (an_outcome ∷ rest)) = cc in
    let p = more (with_region Γ x) rs qs rest (region_added t n m name Γ one s new.room ∙ ap (with_region Γ) same) on hs in
    (p.0 ∙ ap (λ l. scope-with l Γ.variables) (append_assoc Γ.regions (x.name ∷ []) (names rs)), p.1)

pub regions-none : (t : Table) (n : State) (position : ℕ) → ((x : Ident) (xs : List Item) → drop position (items t) ≡ a_header_region x ∷ xs → ⊥) → RegionsIn t n n position position
regions-none t n position never Γ [] qs rest s e h = (s ∙ ap (λ l. scope-with l Γ.variables) (sym (append-nil Γ.regions)), e)
regions-none t n position never Γ (x ∷ rs) qs rest s e h = absurd (never x _ e)

pub params_more : (t : Table) (n m u : State) (position middle end : ℕ) (name : NameOf) → drop position (items t) ≡ a_parameter (ident (text_of t) name) ∷ drop (position + 1) (items t) →
    AddsVariable n m name (Written (position + 1)) → TypeBehind t (position + 1) middle → ParamsIn t m u middle end → ParamsIn t n u position end
params_more t n m u position middle end name there one behind more Γ [] rest s e h = absurd (cc)
params_more t n m u position middle end name there one behind more Γ (q ∷ qs) rest s e (more_new_params new within hs) =
    let both = sym there ∙ e in
    let same : ident (text_of t) name ≡ q.name = cc in
    let on : drop (position + 1) (items t) ≡ items_type q.type (items_each items_param qs (an_outcome ∷ rest)) = cc in
    let typed : type_of (items t) (Written (position + 1)) ≡ unplaced q.type = ap type_at on ∙ type-front q.type _ in
    let s' : scope_of t m ≡ with_variable Γ q.name (unplaced q.type) =
    variable_added t n m name (Written (position + 1)) Γ one s (omega (arith, new.room)) ∙ ap (λ x. with_variable Γ x (type_of (items t) (Written (position + 1)))) same ∙ ap (with_variable Γ q.name) typed in
    let p = more (with_variable Γ q.name (unplaced q.type)) qs rest s' (behind q.type _ on) hs in
    (p.0 ∙ ap (scope-with Γ.regions) (append_assoc Γ.variables (as_variable q ∷ []) (map as_variable qs)), p.1)

pub params_none : (t : Table) (n : State) (position : ℕ) → ((x : Ident) (xs : List Item) → drop position (items t) ≡ a_parameter x ∷ xs → ⊥) → ParamsIn t n n position position
params_none t n position never Γ [] rest s e h = (s ∙ ap (scope-with Γ.regions) (sym (append-nil Γ.variables)), e)
params_none t n position never Γ (q ∷ qs) rest s e h = absurd (never q.name _ e)

pub type-none : (t : Table) (position : ℕ) → drop position (items t) ≡ [] → TypeBehind t position position
type-none t position h int rest e = absurd (cc)
type-none t position h (list r T) rest e = absurd (cc)

-- the parts of a header together
pub header_whole : (t : Table) (position first second third last end : ℕ) (n o b : State) → scope_of t n ≡ empty_scope → OneBehind t position first → RegionsIn t n o first second →
    ParamsIn t o b second third → OneBehind t third last → TypeBehind t last end → HeaderWalk t position (record { state = b; result = last; body = end })
header_whole t position first second third last end n o b s one regs pars two typ f rest e h =
    let result = items_type f.result (items_block f.body rest) in
    let start = one (a_function f.name) (items_each items_header_region f.regions (items_each items_param f.params (an_outcome ∷ result))) e in
    let p = regs empty_scope f.regions f.params result s start h.regions_new in
    let q = pars (record { regions = names f.regions; variables = [] }) f.params result p.0 p.1 h.params_new in
    let r = two an_outcome result q.1 in
    record { scope = q.0; result = r; body = typ f.result (items_block f.body rest) r }
