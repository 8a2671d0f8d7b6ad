-- What holds of the typing rules and of checking.
use Rattle.std.specs.Prelude.{◌≡◌, ℕ, ◌≤◌, ◌⊎◌, ◌↔◌, List, [], ◌∷◌, map, length, None, Ok, Err}
use Rattle.std.specs.List.{ContainsAt as Has, AllByRecursion}
use Rattle.language.specs.Verdict.{Refused}
use Rattle.language.specs.Syntax.{Ident, Atom, Right, test, region, split, Block, bind, print, Fun, Script}
use Rattle.language.specs.Types.{Name, RegionType, list}
use Rattle.language.specs.Scope.{find, Scope, with_variable, with_region, header_scope}
use Rattle.language.specs.Typing.{Within, TypedAtom, TypedRight, TypedBlock, TypedScript}
use Rattle.language.specs.Checking.{checking}

-- the rules hold exactly of the scripts that checking passes, and what passes is the script itself
abbrev pub PassesExactlyTheTyped : Type 0
PassesExactlyTheTyped = (end : ℕ) (F G : Script) → (checking end F ≡ Ok G) ↔ (TypedScript F × (G ≡ F))

-- every script has an answer: the script itself, or a refusal by one of the questions 8 to 16
abbrev pub AnswersEveryScript : Type 0
AnswersEveryScript = (end : ℕ) (F : Script) →
    (checking end F ≡ Ok F) ⊎ ((e : Refused) × (checking end F ≡ Err e) × (8 ≤ e.number) × (e.number ≤ 16))

-- an atom, a right side, a block has at most one type in a scope
abbrev pub TypesAreUnique : Type 0
TypesAreUnique = (F : Script) (Γ : Scope) (T U : RegionType) →
    ((a : Atom) → TypedAtom Γ a T → TypedAtom Γ a U → T ≡ U) ×
    ((r : Right) → TypedRight F Γ r T → TypedRight F Γ r U → T ≡ U) ×
    ((b : Block) → TypedBlock F Γ b T → TypedBlock F Γ b U → T ≡ U)

-- the walk over a script's blocks comes to a block in a scope
pub data Reached (F : Script) : Scope → Block → Type 0 where
  whole_body : {f : Fun} → Has F f → Reached F (header_scope f) f.body
  behind_let : {Γ : Scope} {x : Ident} {r : Right} {b : Block} {S : RegionType} → Reached F Γ (bind x r b) → TypedRight F Γ r S → Reached F (with_variable Γ x S) b
  behind_print : {Γ : Scope} {p : ℕ} {a : Atom} {b : Block} → Reached F Γ (print p a b) → Reached F Γ b
  test_first : {Γ : Scope} {x : Ident} {p : ℕ} {a : Atom} {b c d : Block} → Reached F Γ (bind x (test p a b c) d) → Reached F Γ b
  test_second : {Γ : Scope} {x : Ident} {p : ℕ} {a : Atom} {b c d : Block} → Reached F Γ (bind x (test p a b c) d) → Reached F Γ c
  in_region : {Γ : Scope} {x : Ident} {p : ℕ} {r : Ident} {b d : Block} → Reached F Γ (bind x (region p r b) d) → Reached F (with_region Γ r) b
  case_first : {Γ : Scope} {x : Ident} {p : ℕ} {a : Atom} {b c d : Block} {h t : Ident} → Reached F Γ (bind x (split p a b h t c) d) → Reached F Γ b
  case_second : {Γ : Scope} {x : Ident} {p : ℕ} {a : Atom} {b c d : Block} {h t : Ident} {r : Name} {S : RegionType} →
      Reached F Γ (bind x (split p a b h t c) d) → TypedAtom Γ a (list r S) → Reached F (with_variable (with_variable Γ h S) t (list r S)) c

-- wherever the walk over a well-typed script comes, every variable's type mentions only regions in scope, and so does the block's own
abbrev pub TypesStayInScope : Type 0
TypesStayInScope = (F : Script) → TypedScript F → (Γ : Scope) (b : Block) → Reached F Γ b →
    AllByRecursion (λ v. Within Γ v.type) Γ.variables × ((T : RegionType) × TypedBlock F Γ b T × Within Γ T)

-- no two names of a list are the same
abbrev pub Apart : List Name → Type 0
Apart [] = Unit {0}
Apart (n ∷ ns) = (find (λ m. m) n ns ≡ None) × Apart ns

-- a well-typed script has at most 64 functions, no two of one name, of at most 8 parameters each;
-- wherever the walk comes, at most 8 regions and 32 variables are in scope, no two regions and no two variables of one name
abbrev pub ScopesKeepLimits : Type 0
ScopesKeepLimits = (F : Script) → TypedScript F →
    ((length F ≤ 64) × Apart (map (λ f. f.name.name) F) × AllByRecursion (λ f. length f.params ≤ 8) F) ×
    ((Γ : Scope) (b : Block) → Reached F Γ b →
    (length Γ.regions ≤ 8) × Apart Γ.regions × (length Γ.variables ≤ 32) × Apart (map (λ v. v.name) Γ.variables))
