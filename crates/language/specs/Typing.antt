-- The rules of region typing, after Tofte and Talpin: when an atom, a right side, a block has a type in a scope Γ of a script F, and when F is well typed.
use Rattle.std.specs.Prelude.{◌≡◌, ℕ, ◌<◌, ◌≤◌, true, false, List, [], ◌∷◌, ◌++◌, map, length, ℤ, is_some, Some, None, codes}
use Rattle.std.specs.List.{AllByRecursion}
use Rattle.language.specs.Syntax.{Ident, Ty, Atom, var, num, Op, Right, atom, oper, nil, cons, call, test, region, split, Block, last, bind, print, Param, Fun, Script}
use Rattle.language.specs.Types.{Name, RegionType, int, list, unplaced, mentions, depth, deepest, replaced}
use Rattle.language.specs.Scope.{most_functions, most_params, most_regions, most_variables, Scope, Variable, find_variable, find_region, find_function, with_variable, with_region, names, region_scope, header_scope, empty_scope}

-- the region is in scope
abbrev pub KnownRegion : Scope → Name → Type 0
KnownRegion Γ r = is_some (find_region Γ r) ≡ true

-- the type mentions only regions in scope
abbrev pub Within : Scope → RegionType → Type 0
Within Γ T = (r : Name) → mentions r T ≡ true → KnownRegion Γ r

-- a region may take that name: there is room for one more in scope, and none has it yet
pub record NewRegion (Γ : Scope) (r : Ident) : Type 0 where
  pub room : length Γ.regions < most_regions
  pub unused : find_region Γ r.name ≡ None

-- a variable may take that name: there is room for one more in scope, and none has it yet
pub record NewVariable (most : ℕ) (Γ : Scope) (x : Ident) : Type 0 where
  pub room : length Γ.variables < most
  pub unused : find_variable Γ x.name ≡ None

-- a variable has the type of its entry, a numeral is an int
pub data TypedAtom (Γ : Scope) : Atom → RegionType → Type 0 where
  variable_has : {x : Ident} {v : Variable} {T : RegionType} → find_variable Γ x.name ≡ Some v → v.type ≡ T → TypedAtom Γ (var x) T
  numeral_has : {p : ℕ} {z : ℤ} → TypedAtom Γ (num p z) int

-- as many atoms as types, each of its type
pub data TypedAtoms (Γ : Scope) : List Atom → List RegionType → Type 0 where
  no_atoms : TypedAtoms Γ [] []
  more_atoms : {a : Atom} {T : RegionType} {args : List Atom} {Ts : List RegionType} → TypedAtom Γ a T → TypedAtoms Γ args Ts → TypedAtoms Γ (a ∷ args) (T ∷ Ts)

-- a type of the callee's header, seen from a call that hands over these regions
abbrev pub at_call : Fun → List Ident → Ty → RegionType
at_call f rs t = replaced (names f.regions) (names rs) (unplaced t)

-- the types that a call's atoms need
abbrev pub needed : Fun → List Ident → List RegionType
needed f rs = map (λ q. at_call f rs q.type) f.params

mutual
  -- a right side has a type
  pub data TypedRight (F : Script) : Scope → Right → RegionType → Type 0 where
    -- an atom has its own type
    atom_has : {Γ : Scope} {a : Atom} {T : RegionType} → TypedAtom Γ a T → TypedRight F Γ (atom a) T
    -- the seven operators take two ints and give an int
    oper_has : {Γ : Scope} {p : ℕ} {o : Op} {a b : Atom} → TypedAtom Γ a int → TypedAtom Γ b int → TypedRight F Γ (oper p o a b) int
    -- nil@r(T) has the type list@r(T), nested at most 5 deep
    nil_has : {Γ : Scope} {p : ℕ} {r : Ident} {t : Ty} →
        KnownRegion Γ r.name → Within Γ (unplaced t) → depth (list r.name (unplaced t)) ≤ deepest → TypedRight F Γ (nil p r t) (list r.name (unplaced t))
    -- cons@r(a, b) needs b of type list@r(type of a), and has that type
    cons_has : {Γ : Scope} {p : ℕ} {r : Ident} {a b : Atom} {T : RegionType} →
        KnownRegion Γ r.name → TypedAtom Γ a T → TypedAtom Γ b (list r.name T) → TypedRight F Γ (cons p r a b) (list r.name T)
    -- a call hands over as many regions as the function has; each atom has its parameter's type, seen from the call, and the call the result type
    call_has : {Γ : Scope} {p : ℕ} {g : Ident} {rs : List Ident} {args : List Atom} {f : Fun} {T : RegionType} →
        find_function F g.name ≡ Some f → length rs ≡ length f.regions → AllByRecursion (λ r. KnownRegion Γ r.name) rs → TypedAtoms Γ args (needed f rs) →
        at_call f rs f.result ≡ T → TypedRight F Γ (call p g rs args) T
    -- `if` takes an int, and both blocks have one type
    test_has : {Γ : Scope} {p : ℕ} {a : Atom} {b c : Block} {T : RegionType} → TypedAtom Γ a int → TypedBlock F Γ b T → TypedBlock F Γ c T → TypedRight F Γ (test p a b c) T
    -- the region is known inside its block, whose type does not mention it
    region_has : {Γ : Scope} {p : ℕ} {r : Ident} {b : Block} {T : RegionType} →
        NewRegion Γ r → TypedBlock F (with_region Γ r) b T → mentions r.name T ≡ false → TypedRight F Γ (region p r b) T
    -- `case` takes a list@r(S); in its second block the first new name is an S, the second has the list's type; both blocks have one type
    split_has : {Γ : Scope} {p : ℕ} {a : Atom} {b c : Block} {x y : Ident} {r : Name} {S T : RegionType} →
        TypedAtom Γ a (list r S) → TypedBlock F Γ b T →
        NewVariable most_variables Γ x → NewVariable most_variables (with_variable Γ x S) y → TypedBlock F (with_variable (with_variable Γ x S) y (list r S)) c T →
        TypedRight F Γ (split p a b x y c) T

  -- a block has the type of its last atom
  pub data TypedBlock (F : Script) : Scope → Block → RegionType → Type 0 where
    last_has : {Γ : Scope} {a : Atom} {T : RegionType} → TypedAtom Γ a T → TypedBlock F Γ (last a) T
    -- a variable is known from behind its item to the end of the block
    bind_has : {Γ : Scope} {x : Ident} {r : Right} {b : Block} {S T : RegionType} →
        NewVariable most_variables Γ x → TypedRight F Γ r S → TypedBlock F (with_variable Γ x S) b T → TypedBlock F Γ (bind x r b) T
    -- `print` takes an int
    print_has : {Γ : Scope} {p : ℕ} {a : Atom} {b : Block} {T : RegionType} → TypedAtom Γ a int → TypedBlock F Γ b T → TypedBlock F Γ (print p a b) T

-- regions that come into scope one after the other
pub data NewRegions : Scope → List Ident → Type 0 where
  no_new_regions : {Γ : Scope} → NewRegions Γ []
  more_new_regions : {Γ : Scope} {r : Ident} {rs : List Ident} → NewRegion Γ r → NewRegions (with_region Γ r) rs → NewRegions Γ (r ∷ rs)

-- parameters that come into scope one after the other, each of a type that mentions only regions in scope
pub data NewParams : Scope → List Param → Type 0 where
  no_new_params : {Γ : Scope} → NewParams Γ []
  more_new_params : {Γ : Scope} {q : Param} {qs : List Param} →
      NewVariable most_params Γ q.name → Within Γ (unplaced q.type) → NewParams (with_variable Γ q.name (unplaced q.type)) qs → NewParams Γ (q ∷ qs)

-- a header by itself
pub record TypedHeader (f : Fun) : Type 0 where
  pub regions_new : NewRegions empty_scope f.regions
  pub params_new : NewParams (region_scope f) f.params
  pub result_within : Within (header_scope f) (unplaced f.result)

-- functions behind those before them: new names, at most 64 in all, and headers that hold
pub data TypedHeaders : Script → Script → Type 0 where
  no_headers : {G : Script} → TypedHeaders G []
  more_headers : {G : Script} {f : Fun} {fs : Script} →
      find_function G f.name.name ≡ None → length G < most_functions → TypedHeader f → TypedHeaders (G ++ (f ∷ [])) fs → TypedHeaders G (f ∷ fs)

-- a function's block has the declared result type
abbrev pub TypedBody : Script → Fun → Type 0
TypedBody F f = TypedBlock F (header_scope f) f.body (unplaced f.result)

-- a main that a session can start: no regions, one int parameter, an int result
pub record Main (f : Fun) : Type 0 where
  pub no_region : f.regions ≡ []
  pub one_int : map (λ q. unplaced q.type) f.params ≡ (int ∷ [])
  pub gives_int : unplaced f.result ≡ int

-- a script is well typed
pub record TypedScript (F : Script) : Type 0 where
  pub headers : TypedHeaders [] F
  pub main_is : (f : Fun) × (find_function F (codes "main") ≡ Some f) × Main f
  pub bodies : AllByRecursion (TypedBody F) F
