-- What the names of a state say of the scope that it stands for.
use Rattle.std.proofs.Common.{◌≡◌, ◌<◌, length, sym, ap, ◌∙◌, arith}
use Rattle.std.proofs.lemmas.List.{length-map}
use Rattle.language.specs.Scope.{Scope, with_region, with_variable}
use Rattle.draft.specs.declared.command.Name.{Name}
use Rattle.draft.specs.declared.table.Table.{Table}
use Rattle.draft.specs.Items.{text_of, items, ident}
use Rattle.scope.specs.declared.state.State.{State}
use Rattle.scope.specs.declared.types.Sort.{Sort}
use Rattle.scope.specs.Words.{bytes, type_of}
use Rattle.scope.specs.Entries.{variable_of, scope_of, AddsRegion, AddsVariable}

pub length-regions : (t : Table) (n : State) (Γ : Scope) → scope_of t n ≡ Γ → length n.regions.items ≡ length Γ.regions
length-regions t n Γ e = sym (length-map n.regions.items (bytes (text_of t))) ∙ ap (λ Δ. length Δ.regions) e

pub length-variables : (t : Table) (n : State) (Γ : Scope) → scope_of t n ≡ Γ → length n.variables.items ≡ length Γ.variables
length-variables t n Γ e = sym (length-map n.variables.items (variable_of t)) ∙ ap (λ Δ. length Δ.variables) e

-- one name more where the scope has room
pub region_added : (t : Table) (n m : State) (name : Name) (Γ : Scope) → AddsRegion n m name → scope_of t n ≡ Γ → length Γ.regions < 8 → scope_of t m ≡ with_region Γ (ident (text_of t) name)
region_added t n m name Γ h e room = h (omega (arith, length-regions t n Γ e)) t ∙ ap (λ Δ. with_region Δ (ident (text_of t) name)) e

pub variable_added : (t : Table) (n m : State) (name : Name) (s : Sort) (Γ : Scope) → AddsVariable n m name s → scope_of t n ≡ Γ → length Γ.variables < 32 →
    scope_of t m ≡ with_variable Γ (ident (text_of t) name) (type_of (items t) s)
variable_added t n m name s Γ h e room = h (omega (arith, length-variables t n Γ e)) t ∙ ap (λ Δ. with_variable Δ (ident (text_of t) name) (type_of (items t) s)) e
