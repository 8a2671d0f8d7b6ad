-- A command that is none in a row ends the row.
use Rattle.std.proofs.Common.{◌≡◌, ℕ, List, [], ◌∷◌, Some, None, Option, refl, ap, ◌∙◌}
use Rattle.draft.specs.declared.command.Name.{Name}
use Rattle.draft.specs.declared.command.Command.{Command}
use Rattle.draft.specs.declared.command.Command.TheVariants.{Function, HeaderRegion, Parameter, Outcome, Int, List as ListCommand, Let, Print, Last, Variable, Number, Operate, Nil, Cons, Call, Handed, If, Region, Case, CaseNames}
use Rattle.draft.specs.Items.{Item, item}
use Rattle.scope.specs.Words.{row, word, declared, handed}

-- the row ends at an item that is none of it
pub row-end : {A : Type 0} (view : Item → Option A) (i : Item) (is xs : List Item) → xs ≡ i ∷ is → view i ≡ None → row view xs ≡ []
row-end {A} view i is xs e v =
    let F : Option A → List A = λ o. elim o [ Some a ↦ a ∷ row view is | None ↦ [] ] in
    ap (row view) e ∙ ap F v

pub no_word : (text : List ℕ) (c : Command) → ((n : Name) → c ≡ ListCommand n → ⊥) → ((p : ℕ) (n : Name) → c ≡ Nil p n → ⊥) → word (item text c) ≡ None
no_word text (Function a) h0 h1 = refl
no_word text (HeaderRegion a) h0 h1 = refl
no_word text (Parameter a) h0 h1 = refl
no_word text Outcome h0 h1 = refl
no_word text Int h0 h1 = refl
no_word text (ListCommand a) h0 h1 = absurd (h0 a refl)
no_word text (Let a) h0 h1 = refl
no_word text (Print a) h0 h1 = refl
no_word text Last h0 h1 = refl
no_word text (Variable a) h0 h1 = refl
no_word text (Number a b) h0 h1 = refl
no_word text (Operate a b) h0 h1 = refl
no_word text (Nil a b) h0 h1 = absurd (h1 a b refl)
no_word text (Cons a b) h0 h1 = refl
no_word text (Call a b) h0 h1 = refl
no_word text (Handed a) h0 h1 = refl
no_word text (If a) h0 h1 = refl
no_word text (Region a b) h0 h1 = refl
no_word text (Case a) h0 h1 = refl
no_word text (CaseNames a b) h0 h1 = refl

pub no-declared : (text : List ℕ) (c : Command) → ((n : Name) → c ≡ HeaderRegion n → ⊥) → declared (item text c) ≡ None
no-declared text (Function a) h0 = refl
no-declared text (HeaderRegion a) h0 = absurd (h0 a refl)
no-declared text (Parameter a) h0 = refl
no-declared text Outcome h0 = refl
no-declared text Int h0 = refl
no-declared text (ListCommand a) h0 = refl
no-declared text (Let a) h0 = refl
no-declared text (Print a) h0 = refl
no-declared text Last h0 = refl
no-declared text (Variable a) h0 = refl
no-declared text (Number a b) h0 = refl
no-declared text (Operate a b) h0 = refl
no-declared text (Nil a b) h0 = refl
no-declared text (Cons a b) h0 = refl
no-declared text (Call a b) h0 = refl
no-declared text (Handed a) h0 = refl
no-declared text (If a) h0 = refl
no-declared text (Region a b) h0 = refl
no-declared text (Case a) h0 = refl
no-declared text (CaseNames a b) h0 = refl

pub no-handed : (text : List ℕ) (c : Command) → ((n : Name) → c ≡ Handed n → ⊥) → handed (item text c) ≡ None
no-handed text (Function a) h0 = refl
no-handed text (HeaderRegion a) h0 = refl
no-handed text (Parameter a) h0 = refl
no-handed text Outcome h0 = refl
no-handed text Int h0 = refl
no-handed text (ListCommand a) h0 = refl
no-handed text (Let a) h0 = refl
no-handed text (Print a) h0 = refl
no-handed text Last h0 = refl
no-handed text (Variable a) h0 = refl
no-handed text (Number a b) h0 = refl
no-handed text (Operate a b) h0 = refl
no-handed text (Nil a b) h0 = refl
no-handed text (Cons a b) h0 = refl
no-handed text (Call a b) h0 = refl
no-handed text (Handed a) h0 = absurd (h0 a refl)
no-handed text (If a) h0 = refl
no-handed text (Region a b) h0 = refl
no-handed text (Case a) h0 = refl
no-handed text (CaseNames a b) h0 = refl
