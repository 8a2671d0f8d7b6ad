-- A variable's slot and its type, from the entry that it is found at.
use Rattle.std.proofs.Common.{◌≡◌, ℕ, Bool, true, false, suc, List, [], ◌∷◌, map, Some, Ok, Option, sym, refl, ap, ◌∙◌, subst}
use Rattle.std.specs.List.{slice_get}
use Rattle.lexing.specs.Tokens.{same_bytes}
use Rattle.language.specs.Syntax.{Ident, Atom, var, num}
use Rattle.language.specs.Types.{Name as Bytes, RegionType}
use Rattle.language.specs.Scope.{Scope, find, find_variable}
use Rattle.language.specs.Checking.{type_atom}
use Rattle.language.proofs.Answered.{bound, found-is, ok-is}
use Rattle.draft.specs.declared.command.Name.{Name}
use Rattle.draft.specs.declared.table.Table.{Table}
use Rattle.draft.specs.Items.{Item, a_variable, text_of, ident, items_atom}
use Rattle.scope.specs.declared.state.State.{State}
use Rattle.scope.specs.declared.types.Sort.{Sort}
use Rattle.scope.specs.Words.{bytes}
use Rattle.scope.specs.Entries.{variable_of, scope_of}
use Rattle.program.specs.declared.command.Operand.TheVariants.{Slot}
use Rattle.program.specs.Compiled.{index, variable_slot}
use Rattle.resolving.specs.Walks.{AtomSort, Meant}

-- what is found in other words stands at its index
found_at : {A B : Type 0} (f : A → B) (key : B → Bytes) (n : Bytes) (es : List A) (x : B) → find key n (map f es) ≡ Some x → (e : A) × (slice_get es (index key n (map f es)) ≡ Some e) × (f e ≡ x)
found_at f key n [] x e = absurd (cc)
found_at {A} {B} f key n (y ∷ es) x e = go (same_bytes (key (f y)) n) e (found_at f key n es x)
  where
    go : (b : Bool) → ◌≡◌ {A = Option B} (elim b [ true ↦ Some (f y) | false ↦ find key n (map f es) ]) (Some x) →
        (find key n (map f es) ≡ Some x → (e : A) × (slice_get es (index key n (map f es)) ≡ Some e) × (f e ≡ x)) →
        (e : A) × (slice_get (y ∷ es) (elim b as (λ _. ℕ) [ true ↦ 0 | false ↦ suc (index key n (map f es)) ]) ≡ Some e) × (f e ≡ x)
    go true s later = (y, refl, cc)
    go false s later = later s

pub variable-atom : (t : Table) (n : State) (Γ : Scope) (a : Atom) (T : RegionType) (after rest : List Item) (name : Name) (slot : ℕ) (s : Sort) → scope_of t n ≡ Γ →
    slot ≡ variable_slot (scope_of t n) (bytes (text_of t) name) → AtomSort n slot s → a_variable (ident (text_of t) name) ∷ rest ≡ items_atom a after → type_atom Γ a ≡ Ok T →
    Meant t Γ a T (record { operand = Slot slot; sort = s }) × (rest ≡ after)
variable-atom t n Γ (var x) T after rest name slot s sc i h e k =
    let x-is : ident (text_of t) name ≡ x = cc in
    let same : bytes (text_of t) name ≡ x.name = ap (λ (y : Ident). y.name) x-is in
    let there : slot ≡ variable_slot Γ x.name = i ∙ ap (λ Δ. variable_slot Δ (bytes (text_of t) name)) sc ∙ ap (variable_slot Γ) same in
    let (v, f, q) = bound _ _ k in
    let found : find_variable (scope_of t n) x.name ≡ Some v = ap (λ Δ. find_variable Δ x.name) sc ∙ found-is (find_variable Γ x.name) x.place f in
    let (w, at, is) = found_at (variable_of t) (λ v. v.name) x.name n.variables.items v found in
    let at-slot = subst (λ j. slice_get n.variables.items j ≡ Some w) (ap (λ Δ. variable_slot Δ x.name) sc ∙ sym there) at in (
      record { operand_is = ap Slot there; sort_is = ap (λ s. (variable_of t (record { name = name; sort = s })).type) (h w at-slot) ∙ ap (λ v. v.type) is ∙ ok-is q },
      cc,
    )
variable-atom t n Γ (num p z) T after rest name slot s sc i h e k = absurd (cc)
