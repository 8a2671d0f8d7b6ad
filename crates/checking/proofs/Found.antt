-- What is found among the functions that are known, and among their entries.
use Rattle.std.proofs.Common.{◌≡◌, ℕ, not, nat_lt, List, length, get_or, drop, is_some, Some, None, Option, Result, sym, refl, ap, ◌∙◌, MatchOption}
use Rattle.std.proofs.lemmas.List.{length-map}
use Rattle.std.specs.Option.{option_map}
use Rattle.lexing.specs.declared.fault.Fault.{Fault}
use Rattle.language.specs.Verdict.{Refused}
use Rattle.language.specs.Syntax.{Ident}
use Rattle.language.specs.Types.{Name}
use Rattle.language.specs.Scope.{Scope, find}
use Rattle.language.specs.Checking.{◌>>=◌, ◌>>◌, ask, found}
use Rattle.draft.specs.declared.table.Table.{Table}
use Rattle.draft.specs.Items.{Item, text_of, items, ident}
use Rattle.scope.specs.declared.search.Function.{Function}
use Rattle.scope.specs.Words.{bytes}
use Rattle.scope.specs.Searches.{First, known_among}
use Rattle.scope.specs.Verdicts.{told}
use Rattle.scope.proofs.Scopes.{find-map}
use Rattle.checking.specs.declared.part.Functions.{Functions as Entries}
use Rattle.checking.specs.Walk.{called, walk_call, new_function}
use Rattle.checking.specs.Reads.{functions_of}

-- the function that an entry stands for
abbrev pub function_of : Table → Function → Ident × List Item
function_of t e = (ident (text_of t) e.name, drop e.header (items t))

pub find-functions : (t : Table) (f : Entries) (n : Name) (o : Option Function) → find (λ e. bytes (text_of t) e.name) n f.entries.items ≡ o → find (λ h. h.0.name) n (functions_of t f) ≡ option_map (function_of t) o
find-functions t f n o e = find-map (λ h. h.0.name) (function_of t) n f.entries.items ∙ ap (option_map (function_of t)) e

found-map : {A B C : Type 0} (f : A → B) (k : B → Result C Refused) (o : Option A) (place : ℕ) → (found (option_map f o) place >>= k) ≡ (found o place >>= (λ e. k (f e)))
found-map f k None place = refl
found-map f k (Some e) place = refl

-- a call of the function that is found
pub call-found : (t : Table) (f : Entries) (Γ : Scope) (x : Ident) (is : List Item) (r : Result Function Fault) → told (λ e. e) r ≡ known_among (λ e. bytes (text_of t) e.name) x f.entries.items
    → walk_call (functions_of t f) Γ x is ≡ (told (λ e. e) r >>= (λ e. called Γ x is (drop e.header (items t))))
call-found t f Γ x is r h =
    ap (λ o. found o x.place >>= (λ h. called Γ x is h.1)) (find-functions t f x.name _ refl)
    ∙ found-map (function_of t) (λ h. called Γ x is h.1) (find (λ e. bytes (text_of t) e.name) x.name f.entries.items) x.place
    ∙ ap (λ q. q >>= (λ e. called Γ x is (drop e.header (items t)))) (sym h)

is-some_map : {A B : Type 0} (f : A → B) (o : Option A) → is_some (option_map f o) ≡ is_some o
is-some_map f None = refl
is-some_map f (Some e) = refl

new-function_is : (t : Table) (f : Entries) (x : Ident) (o : Option Function) → find (λ e. bytes (text_of t) e.name) x.name f.entries.items ≡ o
    → new_function (functions_of t f) x ≡ (ask (not (is_some o)) 8 x.place >> ask (nat_lt (length f.entries.items) 64) 10 x.place)
new-function_is t f x o e =
    ap (λ v. ask (not v) 8 x.place >> ask (nat_lt (length (functions_of t f)) 64) 10 x.place) (ap is_some (find-functions t f x.name o e) ∙ is-some_map (function_of t) o)
    ∙ ap (λ n. ask (not (is_some o)) 8 x.place >> ask (nat_lt n 64) 10 x.place) (length-map f.entries.items (function_of t))

-- a new function, by the index of the first entry of its name
pub new-function_by : (t : Table) (f : Entries) (x : Ident) (es : List Function) (n : Name) (r : Option ℕ) → es ≡ f.entries.items → n ≡ x.name
    → MatchOption r (find (λ e. bytes (text_of t) e.name) n es ≡ None) (λ i. First (λ e. bytes (text_of t) e.name) n es i)
    → new_function (functions_of t f) x ≡ (ask (not (is_some r)) 8 x.place >> ask (nat_lt (length f.entries.items) 64) 10 x.place)
new-function_by t f x es n None e g h = new-function_is t f x None (ap (λ n. find (λ e. bytes (text_of t) e.name) n f.entries.items) (sym g) ∙ ap (find (λ e. bytes (text_of t) e.name) n) (sym e) ∙ h)
new-function_by t f x es n (Some i) e g h =
    let d : Function = record { name = record { place = 0; length = 0 }; header = 0 } in
    new-function_is t f x (Some (get_or es i d)) (ap (λ n. find (λ e. bytes (text_of t) e.name) n f.entries.items) (sym g) ∙ ap (find (λ e. bytes (text_of t) e.name) n) (sym e) ∙ h.1 d)
