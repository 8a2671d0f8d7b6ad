-- What is found and what is new in the scope that a state stands for.
use Rattle.std.proofs.Common.{◌≡◌, ℕ, Bool, true, false, not, nat_lt, List, [], ◌∷◌, map, length, is_some, Some, None, Ok, Err, Option, Result, cond, MatchOption, sym, refl, ap, ◌∙◌, ◌<◌, arith, lt-ltb}
use Rattle.std.proofs.lemmas.List.{length-map}
use Rattle.std.specs.Option.{option_map}
use Rattle.lexing.specs.Tokens.{same_bytes}
use Rattle.lexing.specs.declared.fault.Fault.{Fault}
use Rattle.language.specs.Verdict.{Refused}
use Rattle.language.specs.Syntax.{Ident, var}
use Rattle.language.specs.Types.{Name}
use Rattle.language.specs.Scope.{find}
use Rattle.language.specs.Checking.{◌>>◌, ◌>>=◌, ask, found, type_atom}
use Rattle.draft.specs.declared.table.Table.{Table}
use Rattle.draft.specs.declared.command.Name.{Name as Stands}
use Rattle.draft.specs.Items.{text_of, items, ident}
use Rattle.scope.specs.declared.search.Variable.{Variable as Entry}
use Rattle.scope.specs.declared.state.State.{State}
use Rattle.scope.specs.Words.{bytes, type_of}
use Rattle.scope.specs.Entries.{scope_of, variable_of}
use Rattle.scope.specs.Searches.{First, known_among, new_among}
use Rattle.scope.specs.Verdicts.{told, passed, known}

mapped_by : {A B : Type 0} (k : B → Name) (f : A → B) (n : Name) (e : A) (es : List A) (v : Bool) → find k n (map f es) ≡ option_map f (find (λ e. k (f e)) n es)
    → elim v as (λ _. Option B) [ true ↦ Some (f e) | false ↦ find k n (map f es) ] ≡ option_map f (elim v [ true ↦ Some e | false ↦ find (λ e. k (f e)) n es ])
mapped_by k f n e es true h = refl
mapped_by k f n e es false h = h

-- the search among what entries stand for
pub find-map : {A B : Type 0} (k : B → Name) (f : A → B) (n : Name) (es : List A) → find k n (map f es) ≡ option_map f (find (λ e. k (f e)) n es)
find-map k f n [] = refl
find-map k f n (e ∷ es) = mapped_by k f n e es (same_bytes (k (f e)) n) (find-map k f n es)

is-some_map : {A B : Type 0} (f : A → B) (o : Option A) → is_some (option_map f o) ≡ is_some o
is-some_map f None = refl
is-some_map f (Some e) = refl

-- a name is new among what entries stand for where it is new among the entries
pub new-among_map : {A B : Type 0} (most : ℕ) (k : B → Name) (f : A → B) (x : Ident) (es : List A) → new_among most (λ e. k (f e)) x es ≡ new_among most k x (map f es)
new-among_map most k f x es =
    ap (λ n. ask (nat_lt n most) 10 x.place >> ask (not (is_some (find (λ e. k (f e)) x.name es))) 12 x.place) (sym (length-map es f))
    ∙ ap (λ b. ask (nat_lt (length (map f es)) most) 10 x.place >> ask (not b) 12 x.place) (sym (is-some_map f (find (λ e. k (f e)) x.name es)) ∙ ap is_some (sym (find-map k f x.name es)))

first-is_some : {A : Type 0} (key : A → Name) (n : Name) (es : List A) (i : ℕ) → First key n es i → is_some (find key n es) ≡ true
first-is_some key n [] i h = absurd (omega (arith, h.0))
first-is_some key n (e ∷ es) i h = ap is_some (h.1 e)

-- a name that an entry bears is taken
taken : {A : Type 0} (key : A → Name) (x : Ident) (es : List A) (most i : ℕ) → length es < most → First key x.name es i → Err (record { number = 12; place = x.place }) ≡ new_among most key x es
taken key x es most i h f =
    sym (ap (λ b. ask b 10 x.place >> ask (not (is_some (find key x.name es))) 12 x.place) (lt-ltb (length es) most h) ∙ ap (λ b. ask (not b) 12 x.place) (first-is_some key x.name es i f))

-- the same, by what a search answered
pub taken_some : {A : Type 0} (key : A → Name) (x : Ident) (es : List A) (most : ℕ) (o : Option ℕ) → length es < most → is_some o ≡ true
    → MatchOption o (find key x.name es ≡ None) (λ i. First key x.name es i) → Err (record { number = 12; place = x.place }) ≡ new_among most key x es
taken_some key x es most None h t f = absurd (let z : ◌≡◌ {A = ℕ} 0 1 = ap (λ b. cond b 1 0) t in omega arith)
taken_some key x es most (Some i) h t f = taken key x es most i h f

passed-told : {A : Type 0} (r : Result A Fault) → passed r ≡ (told (λ e. e) r >> Ok tt)
passed-told (Ok e) = refl
passed-told (Err e) = refl

told-told : {A B : Type 0} (g : A → B) (r : Result A Fault) → told g r ≡ (told (λ e. e) r >>= (λ e. Ok (g e)))
told-told g (Ok e) = refl
told-told g (Err e) = refl

-- what is found is passed over
abbrev passed-over : {A : Type 0} → Option A → ℕ → Result (Unit {0}) Refused
passed-over o place = found o place >> Ok tt

found-known : {A B : Type 0} (f : A → B) (o : Option A) (place : ℕ) → passed-over o place ≡ passed-over (option_map f o) place
found-known f None place = refl
found-known f (Some e) place = refl

found-typed : {A B C : Type 0} (f : A → B) (g : B → C) (o : Option A) (place : ℕ) → (found o place >>= (λ e. Ok (g (f e)))) ≡ (found (option_map f o) place >>= (λ e. Ok (g e)))
found-typed f g None place = refl
found-typed f g (Some e) place = refl

-- a region that is found is known
pub region-known : (t : Table) (s : State) (n : Stands) (r : Result Stands Fault) → told (λ e. e) r ≡ known_among (bytes (text_of t)) (ident (text_of t) n) s.regions.items → passed r ≡ known (scope_of t s) (ident (text_of t) n)
region-known t s n r h =
    let text = text_of t in
    passed-told r ∙ ap (λ q. q >> Ok tt) h ∙ found-known (bytes text) (find (bytes text) (bytes text n) s.regions.items) n.place
    ∙ ap (λ o. found o n.place >> Ok tt) (sym (find-map (λ x. x) (bytes text) (bytes text n) s.regions.items))

-- a variable that is found has its type
pub variable-typed : (t : Table) (s : State) (n : Stands) (r : Result Entry Fault) → told (λ e. e) r ≡ known_among (λ v. bytes (text_of t) v.name) (ident (text_of t) n) s.variables.items
    → told (λ v. type_of (items t) v.sort) r ≡ type_atom (scope_of t s) (var (ident (text_of t) n))
variable-typed t s n r h =
    let text = text_of t in
    told-told (λ v. type_of (items t) v.sort) r ∙ ap (λ q. q >>= (λ v. Ok (type_of (items t) v.sort))) h
    ∙ found-typed (variable_of t) (λ v. v.type) (find (λ v. bytes text v.name) (bytes text n) s.variables.items) n.place
    ∙ ap (λ o. found o n.place >>= (λ v. Ok v.type)) (sym (find-map (λ x. x.name) (variable_of t) (bytes text n) s.variables.items))
