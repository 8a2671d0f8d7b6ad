-- Regions handed over and arguments, one after the other.
use Rattle.std.proofs.Common.{◌≡◌, ℕ, ◌+◌, ◌<◌, List, [], ◌∷◌, drop, sym, ap, ◌∙◌, subst, arith, length, ◌++◌}
use Rattle.language.specs.Syntax.{Ident, Atom, var, num, Block, last, bind, print}
use Rattle.language.specs.Typing.{more_atoms}
use Rattle.language.proofs.WellTyped.{atom-says}
use Rattle.draft.specs.declared.command.Name.{Name}
use Rattle.draft.specs.declared.table.Table.{Table}
use Rattle.draft.specs.Items.{Item, a_handed, text_of, items, ident, items_atom, items_each, items_handed, items_block}
use Rattle.scope.specs.Words.{bytes}
use Rattle.program.specs.declared.command.Command.{Command}
use Rattle.program.specs.declared.command.Command.TheVariants.{Hand, Argument}
use Rattle.program.specs.Compiled.{region_slot}
use Rattle.scope.specs.declared.state.State.{State}
use Rattle.resolving.specs.declared.atoms.Known.{Known}
use Rattle.scope.specs.Entries.{scope_of}
use Rattle.resolving.specs.Walks.{Grows, AtomKnown, Hands, Argues}
use Rattle.resolving.proofs.Growth.{grows_none, grows-join, grown}

-- behind the regions stands none
no-region_left : (args : List Atom) (d : Block) (rest xs : List Item) (r : Ident) → a_handed r ∷ xs ≡ items_each items_atom args (items_block d rest) → ⊥
no-region_left [] (last a) rest xs r e = cc
no-region_left [] (bind x q b) rest xs r e = cc
no-region_left [] (print p a b) rest xs r e = cc
no-region_left (var x ∷ args) d rest xs r e = cc
no-region_left (num p n ∷ args) d rest xs r e = cc

pub hand_more : (t : Table) (n : State) (before mid after : List Command) (position end region : ℕ) (name : Name) →
    drop position (items t) ≡ a_handed (ident (text_of t) name) ∷ drop (position + 1) (items t) → region ≡ region_slot (scope_of t n) (bytes (text_of t) name) →
    (length before < 4096 → mid ≡ before ++ Hand region ∷ []) → Hands t n mid after (position + 1) end → Hands t n before after position end
hand_more t n before mid after position end region name there slot one more Γ [] args d rest s e fits = absurd (no-region_left args d rest (drop (position + 1) (items t)) (ident (text_of t) name) (sym there ∙ e))
hand_more t n before mid after position end region name there slot one more Γ (r ∷ rs) args d rest s e fits =
    let both = sym there ∙ e in
    let same : ident (text_of t) name ≡ r = cc in
    let rest-is : drop (position + 1) (items t) ≡ items_each items_handed rs (items_each items_atom args (items_block d rest)) = cc in
    let g : Grows before mid (Hand region ∷ []) = record { is = one (omega arith) } in
    let here : region ≡ region_slot Γ r.name = slot ∙ ap (λ Δ. region_slot Δ (bytes (text_of t) name)) s ∙ ap (λ (q : Ident). region_slot Γ q.name) same in
    let p = more Γ rs args d rest s rest-is (omega (arith, grown g)) in
    record { grows = grows-join (subst (λ k. Grows before mid (Hand k ∷ [])) here g) p.grows; on = p.on }

pub hand_none : (t : Table) (n : State) (before : List Command) (position : ℕ) → ((r : Ident) (xs : List Item) → drop position (items t) ≡ a_handed r ∷ xs → ⊥) → Hands t n before before position position
hand_none t n before position never Γ [] args d rest s e fits = record { grows = grows_none before; on = e }
hand_none t n before position never Γ (r ∷ rs) args d rest s e fits = absurd (never r _ e)

pub argue_more : (t : Table) (n : State) (before mid after : List Command) (position end : ℕ) (k : Known) → ((d : Block) (rest : List Item) → drop position (items t) ≡ items_block d rest → ⊥) →
    AtomKnown t n position k → (length before < 4096 → mid ≡ before ++ Argument k.operand ∷ []) → Argues t n mid after (position + 1) end → Argues t n before after position end
argue_more t n before mid after position end k never known one more Γ [] Ts d rest s e h fits = absurd (never d rest e)
argue_more t n before mid after position end k never known one more Γ (a ∷ args) [] d rest s e h fits = elim h [ ]
argue_more t n before mid after position end k never known one more Γ (a ∷ args) (T ∷ Ts) d rest s e (more_atoms h hs) fits =
    let (m, on) = known Γ a T (items_each items_atom args (items_block d rest)) s e (atom-says h) in
    let g : Grows before mid (Argument k.operand ∷ []) = record { is = one (omega arith) } in
    let p = more Γ args Ts d rest s on hs (omega (arith, grown g)) in
    record { grows = grows-join (subst (λ o. Grows before mid (Argument o ∷ [])) m.operand_is g) p.grows; on = p.on }

pub argue_none : (t : Table) (n : State) (before : List Command) (position : ℕ) → ((a : Atom) (rest : List Item) → drop position (items t) ≡ items_atom a rest → ⊥) → Argues t n before before position position
argue_none t n before position never Γ [] Ts d rest s e h fits = record { grows = grows_none before; on = e }
argue_none t n before position never Γ (a ∷ args) Ts d rest s e h fits = absurd (never a _ e)
