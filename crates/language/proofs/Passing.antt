-- What passes checking is well typed.
use Rattle.std.proofs.Common.{◌≡◌, ℕ, ◌<◌, ◌≤◌, Bool, true, false, eqb, ltb, leb, List, [], ◌∷◌, ◌++◌, map, length, Some, None, Ok, codes, Option, sym, refl, ◌∙◌, subst, arith}
use Rattle.std.proofs.lemmas.List.{length-map}
use Rattle.std.proofs.lemmas.Bool.Decides.{nat_tests}
use Rattle.std.specs.List.{AllByRecursion}
use Rattle.lexing.specs.Tokens.{same_bytes}
use Rattle.language.specs.Syntax.{Ident, Ty, Atom, var, num, Right, atom, oper, nil, cons, call, test, region, split, Block, last, bind, print, Param, Fun, Script}
use Rattle.language.specs.Types.{Name, RegionType, int, list, unplaced, mentions, depth, deepest}
use Rattle.language.specs.Scope.{most_functions, most_variables, Scope, find_variable, find_region, find_function, with_variable, with_region, region_scope, header_scope, empty_scope}
use Rattle.language.specs.Typing.{KnownRegion, Within, NewRegion, NewVariable, TypedAtom, variable_has, numeral_has, TypedAtoms, no_atoms, more_atoms, at_call, needed, TypedRight, atom_has, oper_has, nil_has, cons_has, call_has, test_has, region_has, split_has, TypedBlock, last_has, bind_has, print_has, NewRegions, no_new_regions, more_new_regions, NewParams, no_new_params, more_new_params, TypedHeader, TypedHeaders, no_headers, more_headers, TypedBody, Main, TypedScript}
use Rattle.language.specs.Checking.{known_region, known_regions, known_type, new_region, new_variable, atom_place, type_atom, need, need_all, element, type_right, type_block, check_regions, check_params, check_header, check_headers, one_int, main_like, check_main, check_body, check_bodies, checking}
use Rattle.language.proofs.Names.{true_false, same-bytes_is, same-type_is}
use Rattle.language.proofs.Answered.{bound, after, ok-is, asked, found-is, none_is, not_is, and_is}

below : (m n : ℕ) → ltb m n ≡ true → m < n
below m n e = grind (arith, nat_tests)

at_most : (m n : ℕ) → leb m n ≡ true → m ≤ n
at_most m n e = grind (arith, nat_tests)

equal : (m n : ℕ) → eqb m n ≡ true → m ≡ n
equal m n e = grind (arith, nat_tests)

new-region_is : {Γ : Scope} {r : Ident} {u : Unit {0}} → new_region Γ r ≡ Ok u → NewRegion Γ r
new-region_is {Γ} {r} e =
    let (u, p, q) = after _ _ e in
    record { room = below _ _ (asked _ _ _ p); unused = none_is _ (asked _ _ _ q) }

new-variable_is : {most : ℕ} {Γ : Scope} {x : Ident} {u : Unit {0}} → new_variable most Γ x ≡ Ok u → NewVariable most Γ x
new-variable_is e =
    let (u, p, q) = after _ _ e in
    record { room = below _ _ (asked _ _ _ p); unused = none_is _ (asked _ _ _ q) }

known_is : {n : Name} (Γ : Scope) (r : Ident) → known_region Γ r ≡ Ok n → KnownRegion Γ r.name
known_is Γ r e = let f = found-is (find_region Γ r.name) r.place e in rw f

knowns_are : {u : Unit {0}} (Γ : Scope) (rs : List Ident) → known_regions Γ rs ≡ Ok u → AllByRecursion (λ r. KnownRegion Γ r.name) rs
knowns_are Γ [] e = tt
knowns_are Γ (r ∷ rs) e = let (n, p, q) = after (known_region Γ r) _ e in (known_is Γ r p, knowns_are Γ rs q)

pub within-int : (Γ : Scope) → Within Γ int
within-int Γ r m = absurd (true_false (sym m))

pub within-list : (Γ : Scope) (n : Name) (T : RegionType) → KnownRegion Γ n → Within Γ T → Within Γ (list n T)
within-list Γ n T k w r m = go (same_bytes n r) refl m
  where
    go : (b : Bool) → same_bytes n r ≡ b → elim b [ true ↦ true | false ↦ mentions r T ] ≡ true → KnownRegion Γ r
    go true s m' = rw (← (same-bytes_is n r s)) k
    go false s m' = w r m'

-- a type whose regions are known is the one that the text writes, and mentions only regions in scope
record KnownType (Γ : Scope) (t : Ty) (T : RegionType) : Type 0 where
  is : T ≡ unplaced t
  within : Within Γ (unplaced t)

known-type_is : {Γ : Scope} (t : Ty) {T : RegionType} → known_type Γ t ≡ Ok T → KnownType Γ t T
known-type_is {Γ} Ty.int e = record { is = cc; within = within-int Γ }
known-type_is {Γ} (Ty.list r t) e =
    let (n, p, q) = after (known_region Γ r) _ e in
    let (S, s, f) = bound (known_type Γ t) _ q in
    let h = known-type_is {Γ = Γ} t s in
    record { is = cc h.is; within = within-list Γ r.name (unplaced t) (known_is Γ r p) h.within }

atom_is : {Γ : Scope} {T : RegionType} (a : Atom) → type_atom Γ a ≡ Ok T → TypedAtom Γ a T
atom_is {Γ} (var x) e = let (v, p, q) = bound _ _ e in variable_has (found-is (find_variable Γ x.name) x.place p) (cc)
atom_is {Γ} (num p z) e =
    let has : TypedAtom Γ (num p z) int = numeral_has in
    subst (TypedAtom Γ (num p z)) (cc) has

need-is : {Γ : Scope} {T : RegionType} {u : Unit {0}} (a : Atom) → need Γ a T ≡ Ok u → TypedAtom Γ a T
need-is {Γ} {T} a e =
    let (U, p, q) = bound _ _ e in
    subst (TypedAtom Γ a) (same-type_is U T (asked _ _ _ q)) (atom_is a p)

needs_are : {Γ : Scope} {u : Unit {0}} (args : List Atom) (Ts : List RegionType) → length args ≡ length Ts → need_all Γ args Ts ≡ Ok u → TypedAtoms Γ args Ts
needs_are [] [] l e = no_atoms
needs_are [] (T ∷ Ts) l e = absurd (omega arith)
needs_are (a ∷ args) [] l e = absurd (omega arith)
needs_are (a ∷ args) (T ∷ Ts) l e =
    let (u, p, q) = after _ _ e in
    more_atoms (need-is a p) (needs_are args Ts (omega arith) q)

element-is : {S : Name × RegionType} (L : RegionType) (p : ℕ) → element L p ≡ Ok S → L ≡ list S.0 S.1
element-is int p e = cc
element-is (list r T) p e = cc

pub length-needed : (f : Fun) (rs : List Ident) → length (needed f rs) ≡ length f.params
length-needed f rs = length-map f.params (λ q. at_call f rs q.type)

split-is : {F : Script} {Γ : Scope} {p : ℕ} {a : Atom} {b c : Block} {x y : Ident} (L : RegionType) (r : Name) (R S U T : RegionType) → L ≡ list r R → U ≡ S → S ≡ T →
    TypedAtom Γ a L → TypedBlock F Γ b S → NewVariable most_variables Γ x → NewVariable most_variables (with_variable Γ x R) y →
    TypedBlock F (with_variable (with_variable Γ x R) y L) c U → TypedRight F Γ (split p a b x y c) T
split-is {F} {Γ} {p} {a} {b} {c} {x} {y} L r R S U T is same ends h k m n l =
    subst (TypedRight F Γ (split p a b x y c)) ends
    (split_has (subst (TypedAtom Γ a) is h) k m n
    (subst (λ K. TypedBlock F (with_variable (with_variable Γ x R) y K) c S) is (subst (TypedBlock F (with_variable (with_variable Γ x R) y L) c) same l)))

mutual
  pub right_is : {F : Script} {Γ : Scope} {T : RegionType} (r : Right) → type_right F Γ r ≡ Ok T → TypedRight F Γ r T
  right_is (atom a) e = atom_has (atom_is a e)
  right_is {F} {Γ} (oper p o a b) e =
      let (u, e₁, e₂) = after _ _ e in
      let (v, e₃, e₄) = after _ _ e₂ in
      subst (TypedRight F Γ (oper p o a b)) (ok-is e₄) (oper_has (need-is a e₁) (need-is b e₃))
  right_is {F} {Γ} (nil p r t) e =
      let (n, e₁, e₂) = after _ _ e in
      let (S, e₃, e₄) = bound _ _ e₂ in
      let (u, e₅, e₆) = after _ _ e₄ in
      let h = known-type_is {Γ = Γ} t e₃ in
      subst (TypedRight F Γ (nil p r t)) (cc h.is) (nil_has (known_is Γ r e₁) h.within (subst (λ U. depth (list r.name U) ≤ deepest) h.is (at_most (depth (list r.name S)) deepest (asked _ 15 p e₅))))
  right_is {F} {Γ} (cons p r a b) e =
      let (n, e₁, e₂) = after _ _ e in
      let (S, e₃, e₄) = bound _ _ e₂ in
      let (u, e₅, e₆) = after _ _ e₄ in
      subst (TypedRight F Γ (cons p r a b)) (ok-is e₆) (cons_has (known_is Γ r e₁) (atom_is a e₃) (need-is b e₅))
  right_is {F} {Γ} (call p g rs args) e =
      let (f, e₁, e₂) = bound _ _ e in
      let (u, e₃, e₄) = after _ _ e₂ in
      let (v, e₅, e₆) = after _ _ e₄ in
      let (w, e₇, e₈) = after _ _ e₆ in
      let (l, m) = and_is _ _ (asked _ _ _ e₃) in
      let l' = equal _ _ l in
      let m' = equal _ _ m in
      call_has (found-is (find_function F g.name) g.place e₁) l' (knowns_are Γ rs e₅) (needs_are args (needed f rs) (m' ∙ sym (length-needed f rs)) e₇) (ok-is e₈)
  right_is {F} {Γ} (test p a b c) e =
      let (u, e₁, e₂) = after _ _ e in
      let (S, e₃, e₄) = bound _ _ e₂ in
      let (U, e₅, e₆) = bound _ _ e₄ in
      let (v, e₇, e₈) = after _ _ e₆ in
      subst (TypedRight F Γ (test p a b c)) (ok-is e₈)
      (test_has (need-is a e₁) (block_is b e₃) (subst (TypedBlock F Γ c) (same-type_is U S (asked _ _ _ e₇)) (block_is c e₅)))
  right_is {F} {Γ} (region p r b) e =
      let (u, e₁, e₂) = after _ _ e in
      let (S, e₃, e₄) = bound _ _ e₂ in
      let (v, e₅, e₆) = after _ _ e₄ in
      subst (TypedRight F Γ (region p r b)) (ok-is e₆) (region_has (new-region_is e₁) (block_is b e₃) (not_is _ (asked _ _ _ e₅)))
  right_is {F} {Γ} {T} (split p a b x y c) e =
      let (L, e₁, e₂) = bound _ _ e in
      let (s, e₃, e₄) = bound _ _ e₂ in
      let (S, e₅, e₆) = bound _ _ e₄ in
      let (u, e₇, e₈) = after _ _ e₆ in
      let (v, e₉, d₀) = after _ _ e₈ in
      let (U, d₁, d₂) = bound _ _ d₀ in
      let (w, d₃, d₄) = after _ _ d₂ in
      split-is L s.0 s.1 S U T (element-is L (atom_place a) e₃) (same-type_is U S (asked _ _ _ d₃)) (ok-is d₄)
      (atom_is a e₁) (block_is b e₅) (new-variable_is e₇) (new-variable_is e₉) (block_is c d₁)

  pub block_is : {F : Script} {Γ : Scope} {T : RegionType} (b : Block) → type_block F Γ b ≡ Ok T → TypedBlock F Γ b T
  block_is (last a) e = last_has (atom_is a e)
  block_is (bind x r b) e =
      let (u, e₁, e₂) = after _ _ e in
      let (S, e₃, e₄) = bound _ _ e₂ in
      bind_has (new-variable_is e₁) (right_is r e₃) (block_is b e₄)
  block_is (print p a b) e =
      let (u, e₁, e₂) = after _ _ e in
      print_has (need-is a e₁) (block_is b e₂)

regions-are : {u : Unit {0}} (Γ : Scope) (rs : List Ident) → check_regions Γ rs ≡ Ok u → NewRegions Γ rs
regions-are Γ [] e = no_new_regions
regions-are Γ (r ∷ rs) e = let (u, p, q) = after _ _ e in more_new_regions (new-region_is p) (regions-are (with_region Γ r) rs q)

params_are : {u : Unit {0}} (Γ : Scope) (qs : List Param) → check_params Γ qs ≡ Ok u → NewParams Γ qs
params_are Γ [] e = no_new_params
params_are Γ (q ∷ qs) e =
    let (u, e₁, e₂) = after _ _ e in
    let (T, e₃, e₄) = bound (known_type Γ q.type) _ e₂ in
    let h = known-type_is {Γ = Γ} q.type e₃ in
    more_new_params (new-variable_is e₁) h.within (params_are (with_variable Γ q.name (unplaced q.type)) qs (rw (← h.is) e₄))

header_is : {u : Unit {0}} (G : Script) (f : Fun) → check_header G f ≡ Ok u → (find_function G f.name.name ≡ None) × (length G < most_functions) × TypedHeader f
header_is G f e =
    let (u₁, e₁, r₁) = after _ _ e in
    let (u₂, e₂, r₂) = after _ _ r₁ in
    let (u₃, e₃, r₃) = after (check_regions empty_scope f.regions) _ r₂ in
    let (u₄, e₄, r₄) = after (check_params (region_scope f) f.params) _ r₃ in
    let (T, e₅, r₅) = after (known_type (header_scope f) f.result) _ r₄ in (
      none_is _ (asked _ _ _ e₁),
      below _ _ (asked _ _ _ e₂),
      record {
        regions_new = regions-are empty_scope f.regions e₃;
        params_new = params_are (region_scope f) f.params e₄;
        result_within = (known-type_is {Γ = header_scope f} f.result e₅).within;
      },
    )

headers-are : {u : Unit {0}} (G fs : Script) → check_headers G fs ≡ Ok u → TypedHeaders G fs
headers-are G [] e = no_headers
headers-are G (f ∷ fs) e =
    let (u, p, q) = after (check_header G f) _ e in
    let (new, room, holds) = header_is G f p in
    more_headers new room holds (headers-are (G ++ (f ∷ [])) fs q)

body_is : {u : Unit {0}} (F : Script) (f : Fun) → check_body F f ≡ Ok u → TypedBody F f
body_is F f e =
    let (T, p, q) = bound (type_block F (header_scope f) f.body) _ e in
    subst (TypedBlock F (header_scope f) f.body) (same-type_is T (unplaced f.result) (asked _ _ _ q)) (block_is f.body p)

bodies-are : {u : Unit {0}} (F fs : Script) → check_bodies F fs ≡ Ok u → AllByRecursion (TypedBody F) fs
bodies-are F [] e = tt
bodies-are F (f ∷ fs) e = let (u, p, q) = after (check_body F f) _ e in (body_is F f p, bodies-are F fs q)

no_names : (rs : List Ident) → eqb (length rs) 0 ≡ true → rs ≡ []
no_names [] e = refl
no_names (r ∷ rs) e = let z = equal (length (r ∷ rs)) 0 e in absurd (omega arith)

one-int_is : (qs : List Param) → one_int qs ≡ true → map (λ q. unplaced q.type) qs ≡ (int ∷ [])
one-int_is [] e = cc
one-int_is (q ∷ []) e = cc (same-type_is (unplaced q.type) int e)
one-int_is (q ∷ (r ∷ qs)) e = cc

main_is : (f : Fun) → main_like f ≡ true → Main f
main_is f e =
    let (r, s) = and_is (eqb (length f.regions) 0) _ e in
    let (q, t) = and_is (one_int f.params) _ s in
    record { no_region = no_names f.regions r; one_int = one-int_is f.params q; gives_int = same-type_is (unplaced f.result) int t }

a_main_is : {u : Unit {0}} (end : ℕ) (o : Option Fun) → check_main end o ≡ Ok u → (f : Fun) × (o ≡ Some f) × Main f
a_main_is end (Some f) e = (f, refl, main_is f (asked (main_like f) _ _ e))
a_main_is end None e = absurd (let z : ◌≡◌ {A = ℕ} 0 1 = cc in omega arith)

-- a script that passes is the one that was checked, and it is well typed
pub passed_is : (end : ℕ) (F G : Script) → checking end F ≡ Ok G → TypedScript F × (G ≡ F)
passed_is end F G e =
    let (u₁, e₁, r₁) = after (check_headers [] F) _ e in
    let (u₂, e₂, r₂) = after (check_main end (find_function F (codes "main"))) _ r₁ in
    let (u₃, e₃, r₃) = after (check_bodies F F) _ r₂ in
    (record { headers = headers-are [] F e₁; main_is = a_main_is end (find_function F (codes "main")) e₂; bodies = bodies-are F F e₃ }, sym (ok-is r₃))
