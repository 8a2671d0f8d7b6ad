-- Where no block, no right side with a word of its own begins.
use Rattle.std.proofs.Common.{◌≡◌, ℕ, List, ◌∷◌, drop, arith}
use Rattle.language.specs.Syntax.{Ident, Op, atom, oper, nil, cons, call, test, region, split, Block, last, bind, print}
use Rattle.language.specs.Typing.{atom_has}
use Rattle.draft.specs.declared.table.Table.{Table}
use Rattle.draft.specs.Items.{Item, items, a_let, a_print, a_last, an_operation, a_nil, a_cons, a_call, an_if, a_region, a_case, items_block}
use Rattle.scope.specs.declared.state.State.{State}
use Rattle.program.specs.declared.command.Command.{Command}
use Rattle.resolving.specs.declared.rights.End.{End}
use Rattle.resolving.specs.Walks.{AtomWalk, RightWalk}

-- what begins with none of a block's items is no block
pub no_block : (zs : List Item) → ((x : Ident) (xs : List Item) → zs ≡ a_let x ∷ xs → ⊥) → ((p : ℕ) (xs : List Item) → zs ≡ a_print p ∷ xs → ⊥) → ((xs : List Item) → zs ≡ a_last ∷ xs → ⊥) →
    (b : Block) (rest : List Item) → zs ≡ items_block b rest → ⊥
no_block zs h i j (last a) rest e = j _ e
no_block zs h i j (bind x r b) rest e = h x _ e
no_block zs h i j (print p a b) rest e = i p _ e

-- what begins with none of the right sides' words is an atom
pub right-else : (t : Table) (n : State) (before after : List Command) (position : ℕ) (end : End) →
    ((p : ℕ) (o : Op) (xs : List Item) → drop position (items t) ≡ an_operation p o ∷ xs → ⊥) → ((p : ℕ) (x : Ident) (xs : List Item) → drop position (items t) ≡ a_nil p x ∷ xs → ⊥) →
    ((p : ℕ) (x : Ident) (xs : List Item) → drop position (items t) ≡ a_cons p x ∷ xs → ⊥) → ((p : ℕ) (x : Ident) (xs : List Item) → drop position (items t) ≡ a_call p x ∷ xs → ⊥) →
    ((p : ℕ) (xs : List Item) → drop position (items t) ≡ an_if p ∷ xs → ⊥) → ((p : ℕ) (x : Ident) (xs : List Item) → drop position (items t) ≡ a_region p x ∷ xs → ⊥) →
    ((p : ℕ) (xs : List Item) → drop position (items t) ≡ a_case p ∷ xs → ⊥) → AtomWalk t n before after position end → RightWalk t n before after position end
right-else t n before after position end h₁ h₂ h₃ h₄ h₅ h₆ h₇ walk F Γ (atom a) d T rest st e (atom_has h) room fits = walk F Γ a T (items_block d rest) st e h (omega (arith, fits))
right-else t n before after position end h₁ h₂ h₃ h₄ h₅ h₆ h₇ walk F Γ (oper p o a b) d T rest st e h room fits = absurd (h₁ p o _ e)
right-else t n before after position end h₁ h₂ h₃ h₄ h₅ h₆ h₇ walk F Γ (nil p x u) d T rest st e h room fits = absurd (h₂ p x _ e)
right-else t n before after position end h₁ h₂ h₃ h₄ h₅ h₆ h₇ walk F Γ (cons p x a b) d T rest st e h room fits = absurd (h₃ p x _ e)
right-else t n before after position end h₁ h₂ h₃ h₄ h₅ h₆ h₇ walk F Γ (call p x rs args) d T rest st e h room fits = absurd (h₄ p x _ e)
right-else t n before after position end h₁ h₂ h₃ h₄ h₅ h₆ h₇ walk F Γ (test p a b c) d T rest st e h room fits = absurd (h₅ p _ e)
right-else t n before after position end h₁ h₂ h₃ h₄ h₅ h₆ h₇ walk F Γ (region p x b) d T rest st e h room fits = absurd (h₆ p x _ e)
right-else t n before after position end h₁ h₂ h₃ h₄ h₅ h₆ h₇ walk F Γ (split p a b x y c) d T rest st e h room fits = absurd (h₇ p _ e)
