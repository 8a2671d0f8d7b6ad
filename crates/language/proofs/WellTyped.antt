-- What is well typed passes checking.
use Rattle.std.proofs.Common.{◌≡◌, ℕ, ◌<◌, ◌≤◌, Bool, true, false, eqb, ltb, leb, List, [], ◌∷◌, map, length, None, Ok, refl, ap, ◌∙◌, arith}
use Rattle.std.proofs.lemmas.Bool.Decides.{nat_tests}
use Rattle.std.specs.List.{AllByRecursion}
use Rattle.lexing.specs.Tokens.{same_bytes}
use Rattle.language.specs.Syntax.{Ident, Ty, Atom, Right, Block, Param, Fun, Script}
use Rattle.language.specs.Types.{Name, RegionType, int, unplaced, deepest}
use Rattle.language.specs.Scope.{most_functions, most_params, most_variables, Scope, find_region, find_function, with_variable, header_scope}
use Rattle.language.specs.Typing.{KnownRegion, Within, NewRegion, NewVariable, TypedAtom, variable_has, numeral_has, TypedAtoms, no_atoms, more_atoms, TypedRight, atom_has, oper_has, nil_has, cons_has, call_has, test_has, region_has, split_has, TypedBlock, last_has, bind_has, print_has, NewRegions, no_new_regions, more_new_regions, NewParams, no_new_params, more_new_params, TypedHeader, TypedHeaders, no_headers, more_headers, TypedBody, Main, TypedScript}
use Rattle.language.specs.Checking.{known_region, known_regions, known_type, new_region, new_variable, atom_place, last_place, type_atom, need, need_all, type_right, type_block, check_regions, check_params, check_header, check_headers, one_int, main_like, check_body, check_bodies, checking}
use Rattle.language.proofs.Names.{same-bytes_refl, same-type_refl}
use Rattle.language.proofs.Answered.{bind-says, then-says, ask-says, found-says, none-says, not_says, and_says, some_is}
use Rattle.language.proofs.Passing.{length-needed}

below_says : (m n : ℕ) → m < n → ltb m n ≡ true
below_says m n h = grind (arith, nat_tests)

at-most_says : (m n : ℕ) → m ≤ n → leb m n ≡ true
at-most_says m n h = grind (arith, nat_tests)

new-region_says : (Γ : Scope) (r : Ident) → NewRegion Γ r → new_region Γ r ≡ Ok tt
new-region_says Γ r h = then-says (ask-says _ 10 _ (below_says _ _ h.room)) (ask-says _ 12 _ (none-says h.unused))

new-variable_says : (most : ℕ) (Γ : Scope) (x : Ident) → NewVariable most Γ x → new_variable most Γ x ≡ Ok tt
new-variable_says most Γ x h = then-says (ask-says _ 10 _ (below_says _ _ h.room)) (ask-says _ 12 _ (none-says h.unused))

known-says : (Γ : Scope) (r : Ident) → KnownRegion Γ r.name → (n : Name) × (known_region Γ r ≡ Ok n)
known-says Γ r h = let (n, e) = some_is (find_region Γ r.name) h in (n, found-says r.place e)

knowns_say : (Γ : Scope) (rs : List Ident) → AllByRecursion (λ r. KnownRegion Γ r.name) rs → known_regions Γ rs ≡ Ok tt
knowns_say Γ [] hs = refl
knowns_say Γ (r ∷ rs) hs = then-says (known-says Γ r hs.0).1 (knowns_say Γ rs hs.1)

pub if_true : (b c : Bool) → b ≡ true → elim b [ true ↦ true | false ↦ c ] ≡ true
if_true true c e = refl
if_true false c e = cc

pub or_later : (b c : Bool) → c ≡ true → elim b [ true ↦ true | false ↦ c ] ≡ true
or_later true c e = refl
or_later false c e = e

known-type_says : (Γ : Scope) (t : Ty) → Within Γ (unplaced t) → known_type Γ t ≡ Ok (unplaced t)
known-type_says Γ Ty.int w = refl
known-type_says Γ (Ty.list r t) w =
    then-says (known-says Γ r (w r.name (if_true (same_bytes r.name r.name) _ (same-bytes_refl r.name)))).1
    (bind-says _ (known-type_says Γ t (λ s m. w s (or_later (same_bytes r.name s) _ m))) refl)

pub atom-says : {Γ : Scope} {a : Atom} {T : RegionType} → TypedAtom Γ a T → type_atom Γ a ≡ Ok T
atom-says (variable_has {x = x} {v = v} e is) = bind-says _ (found-says x.place e) (cc)
atom-says numeral_has = refl

need-says : {Γ : Scope} {a : Atom} {T : RegionType} → TypedAtom Γ a T → need Γ a T ≡ Ok tt
need-says {a = a} {T = T} h = bind-says _ (atom-says h) (ask-says _ 13 (atom_place a) (same-type_refl T))

needs_say : {Γ : Scope} {args : List Atom} {Ts : List RegionType} → TypedAtoms Γ args Ts → need_all Γ args Ts ≡ Ok tt
needs_say no_atoms = refl
needs_say (more_atoms h hs) = then-says (need-says h) (needs_say hs)

as_many : {Γ : Scope} {args : List Atom} {Ts : List RegionType} → TypedAtoms Γ args Ts → length args ≡ length Ts
as_many no_atoms = refl
as_many (more_atoms h hs) = cc (as_many hs)

eqb_says : (m n : ℕ) → m ≡ n → eqb m n ≡ true
eqb_says m n e = grind (arith, nat_tests)

mutual
  pub right_says : {F : Script} {Γ : Scope} {r : Right} {T : RegionType} → TypedRight F Γ r T → type_right F Γ r ≡ Ok T
  right_says (atom_has h) = atom-says h
  right_says (oper_has h k) = then-says (need-says h) (then-says (need-says k) refl)
  right_says {Γ = Γ} (nil_has {p = p} {r = r} {t = t} h w d) =
      then-says (known-says Γ r h).1 (bind-says _ (known-type_says Γ t w) (then-says (ask-says _ 15 p (at-most_says _ deepest d)) refl))
  right_says {Γ = Γ} (cons_has {r = r} h k l) = then-says (known-says Γ r h).1 (bind-says _ (atom-says k) (then-says (need-says l) refl))
  right_says {Γ = Γ} (call_has {g = g} {rs = rs} {args = args} {f = f} e l ks hs is) =
      bind-says _ (found-says g.place e)
      (then-says (ask-says _ 16 g.place (and_says (eqb_says (length rs) (length f.regions) l) (eqb_says (length args) (length f.params) (as_many hs ∙ length-needed f rs))))
      (then-says (knowns_say Γ rs ks) (then-says (needs_say hs) (cc))))
  right_says (test_has {c = c} {T = T} h k l) =
      then-says (need-says h) (bind-says _ (block_says k) (bind-says _ (block_says l) (then-says (ask-says _ 13 (last_place c) (same-type_refl T)) refl)))
  right_says {Γ = Γ} (region_has {r = r} {b = b} n h m) =
      then-says (new-region_says Γ r n) (bind-says _ (block_says h) (then-says (ask-says _ 14 (last_place b) (not_says m)) refl))
  right_says {Γ = Γ} (split_has {c = c} {x = x} {y = y} {S = S} {T = T} h k m n l) =
      bind-says _ (atom-says h) (bind-says _ (block_says k)
      (then-says (new-variable_says most_variables Γ x m) (then-says (new-variable_says most_variables (with_variable Γ x S) y n)
      (bind-says _ (block_says l) (then-says (ask-says _ 13 (last_place c) (same-type_refl T)) refl)))))

  pub block_says : {F : Script} {Γ : Scope} {b : Block} {T : RegionType} → TypedBlock F Γ b T → type_block F Γ b ≡ Ok T
  block_says (last_has h) = atom-says h
  block_says {Γ = Γ} (bind_has {x = x} n h k) = then-says (new-variable_says most_variables Γ x n) (bind-says _ (right_says h) (block_says k))
  block_says (print_has h k) = then-says (need-says h) (block_says k)

regions-say : {Γ : Scope} {rs : List Ident} → NewRegions Γ rs → check_regions Γ rs ≡ Ok tt
regions-say no_new_regions = refl
regions-say (more_new_regions {Γ = Γ} {r = r} h hs) = then-says (new-region_says Γ r h) (regions-say hs)

params-say : {Γ : Scope} {qs : List Param} → NewParams Γ qs → check_params Γ qs ≡ Ok tt
params-say no_new_params = refl
params-say (more_new_params {Γ = Γ} {q = q} h w hs) =
    then-says (new-variable_says most_params Γ q.name h) (bind-says _ (known-type_says Γ q.type w) (params-say hs))

header_says : (G : Script) (f : Fun) → find_function G f.name.name ≡ None → length G < most_functions → TypedHeader f → check_header G f ≡ Ok tt
header_says G f new room h =
    then-says (ask-says _ 8 f.name.place (none-says new)) (then-says (ask-says _ 10 f.name.place (below_says _ _ room))
    (then-says (regions-say h.regions_new) (then-says (params-say h.params_new)
    (then-says (known-type_says (header_scope f) f.result h.result_within) refl))))

headers-say : {G fs : Script} → TypedHeaders G fs → check_headers G fs ≡ Ok tt
headers-say no_headers = refl
headers-say (more_headers {G = G} {f = f} new room h hs) = then-says (header_says G f new room h) (headers-say hs)

body-says : (F : Script) (f : Fun) → TypedBody F f → check_body F f ≡ Ok tt
body-says F f h = bind-says _ (block_says h) (ask-says _ 13 (last_place f.body) (same-type_refl (unplaced f.result)))

bodies-say : (F fs : Script) → AllByRecursion (TypedBody F) fs → check_bodies F fs ≡ Ok tt
bodies-say F [] hs = refl
bodies-say F (f ∷ fs) hs = then-says (body-says F f hs.0) (bodies-say F fs hs.1)

one-int_says : (qs : List Param) → map (λ q. unplaced q.type) qs ≡ (int ∷ []) → one_int qs ≡ true
one-int_says [] e = cc
one-int_says (q ∷ []) e = let t : unplaced q.type ≡ int = cc in rw t
one-int_says (q ∷ (r ∷ qs)) e = cc

main-says : (f : Fun) → Main f → main_like f ≡ true
main-says f m =
    and_says (eqb_says (length f.regions) 0 (ap length m.no_region))
    (and_says (one-int_says f.params m.one_int) (rw m.gives_int))

-- a script that is well typed passes, whatever the length of its text
pub typed-passes : (end : ℕ) (F : Script) → TypedScript F → checking end F ≡ Ok F
typed-passes end F h =
    let (f, e, m) = h.main_is in
    then-says (headers-say h.headers)
    (then-says (rw e (ask-says (main_like f) 9 f.name.place (main-says f m))) (then-says (bodies-say F F h.bodies) refl))
