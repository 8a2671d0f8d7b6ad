-- Checking: for every script exactly one answer, the script itself or the first question that fails, in the order of the walk.
use Rattle.std.specs.Prelude.{ℕ, Bool, true, false, not, ◌&&◌, List, [], ◌∷◌, ◌++◌, length, is_some, Some, None, Ok, Err, codes, Option, Result, ◌==◌, nat_le, nat_lt}
use Rattle.language.specs.Verdict.{Refused}
use Rattle.language.specs.Syntax.{Ident, Ty, Atom, var, num, Right, atom, oper, nil, cons, call, test, region, split, Block, last, bind, print, Param, Fun, Script}
use Rattle.language.specs.Types.{Name, RegionType, int, list, unplaced, same_type, mentions, depth, deepest}
use Rattle.language.specs.Scope.{most_functions, most_params, most_regions, most_variables, Scope, find_variable, find_region, find_function, with_variable, with_region, region_scope, header_scope, empty_scope}
use Rattle.language.specs.Typing.{at_call, needed}

infixr 30 ◌>>=◌ ◌>>◌
-- go on with what was answered, or stay refused
abbrev pub ◌>>=◌ : {A B : Type 0} → Result A Refused → (A → Result B Refused) → Result B Refused
(Ok a) >>= k = k a
(Err e) >>= k = Err e

-- go on, or stay refused
abbrev pub ◌>>◌ : {A B : Type 0} → Result A Refused → Result B Refused → Result B Refused
(Ok a) >> r = r
(Err e) >> r = Err e

-- a question with its number and its place
abbrev pub ask : Bool → ℕ → ℕ → Result (Unit {0}) Refused
ask true number place = Ok tt
ask false number place = Err (record { number = number; place = place })

-- the entry that was looked for, or question 11 at the name
abbrev pub found : {A : Type 0} → Option A → ℕ → Result A Refused
found (Some e) place = Ok e
found None place = Err (record { number = 11; place = place })

-- the region is known
abbrev pub known_region : Scope → Ident → Result Name Refused
known_region Γ r = found (find_region Γ r.name) r.place

abbrev pub known_regions : Scope → List Ident → Result (Unit {0}) Refused
known_regions Γ [] = Ok tt
known_regions Γ (r ∷ rs) = known_region Γ r >> known_regions Γ rs

-- the type that the text writes, its regions known
abbrev pub known_type : Scope → Ty → Result RegionType Refused
known_type Γ Ty.int = Ok int
known_type Γ (Ty.list r t) = do
  known_region Γ r
  T ← known_type Γ t
  Ok (list r.name T)

-- a region may take that name
abbrev pub new_region : Scope → Ident → Result (Unit {0}) Refused
new_region Γ r = do
  ask (nat_lt (length Γ.regions) most_regions) 10 r.place
  ask (not (is_some (find_region Γ r.name))) 12 r.place

-- a variable may take that name
abbrev pub new_variable : ℕ → Scope → Ident → Result (Unit {0}) Refused
new_variable most Γ x = do
  ask (nat_lt (length Γ.variables) most) 10 x.place
  ask (not (is_some (find_variable Γ x.name))) 12 x.place

abbrev pub atom_place : Atom → ℕ
atom_place (var x) = x.place
atom_place (num p z) = p

-- the place of a block's last atom
abbrev pub last_place : Block → ℕ
last_place (last a) = atom_place a
last_place (bind x r b) = last_place b
last_place (print p a b) = last_place b

-- the type of an atom
abbrev pub type_atom : Scope → Atom → Result RegionType Refused
type_atom Γ (var x) = do
  v ← found (find_variable Γ x.name) x.place
  Ok v.type
type_atom Γ (num p z) = Ok int

-- the atom has the type that it needs
abbrev pub need : Scope → Atom → RegionType → Result (Unit {0}) Refused
need Γ a T = do
  U ← type_atom Γ a
  ask (same_type U T) 13 (atom_place a)

-- each atom has the type that it needs, from the left
abbrev pub need_all : Scope → List Atom → List RegionType → Result (Unit {0}) Refused
need_all Γ [] Ts = Ok tt
need_all Γ (a ∷ args) [] = Ok tt
need_all Γ (a ∷ args) (T ∷ Ts) = need Γ a T >> need_all Γ args Ts

-- a list's region and the type of its elements, or question 13 at the atom
abbrev pub element : RegionType → ℕ → Result (Name × RegionType) Refused
element int place = Err (record { number = 13; place = place })
element (list r S) place = Ok (r, S)

abbrev mutual
  -- the type of a right side
  pub type_right : Script → Scope → Right → Result RegionType Refused
  type_right F Γ (atom a) = type_atom Γ a
  type_right F Γ (oper p o a b) = do
    need Γ a int
    need Γ b int
    Ok int
  type_right F Γ (nil p r t) = do
    known_region Γ r
    T ← known_type Γ t
    ask (nat_le (depth (list r.name T)) deepest) 15 p
    Ok (list r.name T)
  type_right F Γ (cons p r a b) = do
    known_region Γ r
    T ← type_atom Γ a
    need Γ b (list r.name T)
    Ok (list r.name T)
  type_right F Γ (call p g rs args) = do
    f ← found (find_function F g.name) g.place
    ask (length rs == length f.regions && length args == length f.params) 16 g.place
    known_regions Γ rs
    need_all Γ args (needed f rs)
    Ok (at_call f rs f.result)
  type_right F Γ (test p a b c) = do
    need Γ a int
    T ← type_block F Γ b
    U ← type_block F Γ c
    ask (same_type U T) 13 (last_place c)
    Ok T
  type_right F Γ (region p r b) = do
    new_region Γ r
    T ← type_block F (with_region Γ r) b
    ask (not (mentions r.name T)) 14 (last_place b)
    Ok T
  type_right F Γ (split p a b x y c) = do
    L ← type_atom Γ a
    e ← element L (atom_place a)
    T ← type_block F Γ b
    new_variable most_variables Γ x
    new_variable most_variables (with_variable Γ x e.1) y
    U ← type_block F (with_variable (with_variable Γ x e.1) y L) c
    ask (same_type U T) 13 (last_place c)
    Ok T

  -- the type of a block
  pub type_block : Script → Scope → Block → Result RegionType Refused
  type_block F Γ (last a) = type_atom Γ a
  type_block F Γ (bind x r b) = do
    new_variable most_variables Γ x
    S ← type_right F Γ r
    type_block F (with_variable Γ x S) b
  type_block F Γ (print p a b) = do
    need Γ a int
    type_block F Γ b

-- a header's regions come into scope one after the other
abbrev pub check_regions : Scope → List Ident → Result (Unit {0}) Refused
check_regions Γ [] = Ok tt
check_regions Γ (r ∷ rs) = new_region Γ r >> check_regions (with_region Γ r) rs

-- a header's parameters come into scope one after the other, each behind its type
abbrev pub check_params : Scope → List Param → Result (Unit {0}) Refused
check_params Γ [] = Ok tt
check_params Γ (q ∷ qs) = do
  new_variable most_params Γ q.name
  T ← known_type Γ q.type
  check_params (with_variable Γ q.name T) qs

-- a header behind the functions before it
abbrev pub check_header : Script → Fun → Result (Unit {0}) Refused
check_header G f = do
  ask (not (is_some (find_function G f.name.name))) 8 f.name.place
  ask (nat_lt (length G) most_functions) 10 f.name.place
  check_regions empty_scope f.regions
  check_params (region_scope f) f.params
  known_type (header_scope f) f.result
  Ok tt

-- all headers from the left
abbrev pub check_headers : Script → Script → Result (Unit {0}) Refused
check_headers G [] = Ok tt
check_headers G (f ∷ fs) = check_header G f >> check_headers (G ++ (f ∷ [])) fs

-- whether the parameters are one int
abbrev pub one_int : List Param → Bool
one_int [] = false
one_int (q ∷ []) = same_type (unplaced q.type) int
one_int (q ∷ (r ∷ qs)) = false

-- no regions, one int parameter and an int result
abbrev pub main_like : Fun → Bool
main_like f = length f.regions == 0 && (one_int f.params && same_type (unplaced f.result) int)

-- there is a main; where it is lacking, the place is the text's length
abbrev pub check_main : ℕ → Option Fun → Result (Unit {0}) Refused
check_main end (Some f) = ask (main_like f) 9 f.name.place
check_main end None = Err (record { number = 9; place = end })

-- a function's block has the declared result type
abbrev pub check_body : Script → Fun → Result (Unit {0}) Refused
check_body F f = do
  T ← type_block F (header_scope f) f.body
  ask (same_type T (unplaced f.result)) 13 (last_place f.body)

-- all blocks from the left
abbrev pub check_bodies : Script → Script → Result (Unit {0}) Refused
check_bodies F [] = Ok tt
check_bodies F (f ∷ fs) = check_body F f >> check_bodies F fs

-- the answer for a script whose text is `end` bytes long: the headers, question 9, the blocks
abbrev pub checking : ℕ → Script → Result Script Refused
checking end F = do
  check_headers [] F
  check_main end (find_function F (codes "main"))
  check_bodies F F
  Ok F
