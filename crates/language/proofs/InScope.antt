-- Wherever the walk over a well-typed script comes, types mention only regions in scope.
use Rattle.std.proofs.Common.{◌≡◌, ℕ, Bool, true, false, ◌⊎◌, List, [], ◌∷◌, ◌++◌, length, is_some, Some, None, sym, refl, ap, ◌∙◌, subst, inl, inr, arith}
use Rattle.std.specs.List.{AllByRecursion}
use Rattle.std.proofs.ByRecursion.{All-push, All-weaker, All-map, all-has}
use Rattle.std.proofs.lemmas.List.{length-map}
use Rattle.lexing.specs.Tokens.{same_bytes}
use Rattle.language.specs.Syntax.{Ident, Ty, Atom, Right, Block, bind, print, test, region, split, Param, Fun, Script}
use Rattle.language.specs.Types.{Name, RegionType, int, list, unplaced, mentions, renamed, replaced}
use Rattle.language.specs.Scope.{Scope, find, with_variable, with_region, names, as_variable, header_scope}
use Rattle.language.specs.Typing.{KnownRegion, Within, TypedAtom, variable_has, numeral_has, at_call, TypedRight, atom_has, oper_has, nil_has, cons_has, call_has, test_has, region_has, split_has, TypedBlock, last_has, bind_has, print_has, NewParams, no_new_params, more_new_params, TypedHeader, TypedHeaders, no_headers, more_headers, TypedBody, TypedScript}
use Rattle.language.specs.TypingLaws.{Reached, whole_body, behind_let, behind_print, test_first, test_second, in_region, case_first, case_second, TypesStayInScope}
use Rattle.language.proofs.Names.{true_false, same-bytes_is, same-bytes_refl}
use Rattle.language.proofs.Passing.{within-int, within-list}
use Rattle.language.proofs.WellTyped.{if_true, or_later}
use Rattle.language.proofs.Unique.{types_are_unique}

-- each variable's type mentions only regions in scope
abbrev pub Scoped : Scope → Type 0
Scoped Γ = AllByRecursion (λ v. Within Γ v.type) Γ.variables

-- what holds of each entry holds of the one that is found
found-holds : {A : Type 0} (P : A → Type 0) (name_of : A → Name) (n : Name) (es : List A) (x : A) → AllByRecursion P es → find name_of n es ≡ Some x → P x
found-holds P name_of n [] x h e = absurd (let z : ◌≡◌ {A = ℕ} 0 1 = cc in omega arith)
found-holds {A} P name_of n (y ∷ es) x h e = go (same_bytes (name_of y) n) e (found-holds P name_of n es x h.1)
  where
    go : (b : Bool) → elim b [ true ↦ Some y | false ↦ find name_of n es ] ≡ Some x → (find name_of n es ≡ Some x → P x) → P x
    go true f later = let is : y ≡ x = cc in subst P is h.0
    go false f later = later f

-- a region stays known where one more comes into scope
known-longer : (s r : Name) (R : List Name) → is_some (find (λ t. t) s R) ≡ true → is_some (find (λ t. t) s (R ++ (r ∷ []))) ≡ true
known-longer s r [] e = absurd (true_false (sym e))
known-longer s r (t ∷ R) e = go (same_bytes t s) e (known-longer s r R)
  where
    go : (b : Bool) → is_some (elim b [ true ↦ Some t | false ↦ find (λ t. t) s R ]) ≡ true → (is_some (find (λ t. t) s R) ≡ true → is_some (find (λ t. t) s (R ++ (r ∷ []))) ≡ true) →
        is_some (elim b [ true ↦ Some t | false ↦ find (λ t. t) s (R ++ (r ∷ [])) ]) ≡ true
    go true f later = refl
    go false f later = later f

-- and where that one goes, every other stays known
known-shorter : (s r : Name) (R : List Name) → is_some (find (λ t. t) s (R ++ (r ∷ []))) ≡ true → (is_some (find (λ t. t) s R) ≡ true) ⊎ (r ≡ s)
known-shorter s r [] e = go (same_bytes r s) refl e
  where
    go : (b : Bool) → same_bytes r s ≡ b → is_some (elim b [ true ↦ Some r | false ↦ None ]) ≡ true → (false ≡ true) ⊎ (r ≡ s)
    go true is f = inr (same-bytes_is r s is)
    go false is f = inl f
known-shorter s r (t ∷ R) e = go (same_bytes t s) e (known-shorter s r R)
  where
    go : (b : Bool) → is_some (elim b [ true ↦ Some t | false ↦ find (λ t. t) s (R ++ (r ∷ [])) ]) ≡ true →
        (is_some (find (λ t. t) s (R ++ (r ∷ []))) ≡ true → (is_some (find (λ t. t) s R) ≡ true) ⊎ (r ≡ s)) →
        (is_some (elim b [ true ↦ Some t | false ↦ find (λ t. t) s R ]) ≡ true) ⊎ (r ≡ s)
    go true f later = inl refl
    go false f later = later f

within-longer : (Γ : Scope) (r : Ident) (T : RegionType) → Within Γ T → Within (with_region Γ r) T
within-longer Γ r T w s m = known-longer s r.name Γ.regions (w s m)

within-shorter : (Γ : Scope) (r : Ident) (T : RegionType) → Within (with_region Γ r) T → mentions r.name T ≡ false → Within Γ T
within-shorter Γ r T w n s m = elim (known-shorter s r.name Γ.regions (w s m)) [
  | inl k ↦ k
  | inr is ↦ absurd (true_false (sym m ∙ ap (λ t. mentions t T) (sym is) ∙ n))
]

within-head : (Γ : Scope) (r : Name) (T : RegionType) → Within Γ (list r T) → KnownRegion Γ r
within-head Γ r T w = w r (if_true (same_bytes r r) _ (same-bytes_refl r))

within-tail : (Γ : Scope) (r : Name) (T : RegionType) → Within Γ (list r T) → Within Γ T
within-tail Γ r T w s m = w s (or_later (same_bytes r s) _ m)

-- a name of the callee's header becomes a region known at the call
renamed-known : (Γ : Scope) (os : List Name) (rs : List Ident) (s : Name) → length rs ≡ length os → AllByRecursion (λ r. KnownRegion Γ r.name) rs →
    is_some (find (λ t. t) s os) ≡ true → KnownRegion Γ (renamed os (names rs) s)
renamed-known Γ [] rs s l hs e = absurd (true_false (sym e))
renamed-known Γ (o ∷ os) [] s l hs e = absurd (omega arith)
renamed-known Γ (o ∷ os) (r ∷ rs) s l hs e = go (same_bytes o s) e (renamed-known Γ os rs s (omega arith) hs.1)
  where
    go : (b : Bool) → is_some (elim b [ true ↦ Some o | false ↦ find (λ t. t) s os ]) ≡ true →
        (is_some (find (λ t. t) s os) ≡ true → KnownRegion Γ (renamed os (names rs) s)) →
        KnownRegion Γ (elim b [ true ↦ r.name | false ↦ renamed os (names rs) s ])
    go true f later = hs.0
    go false f later = later f

replaced-within : (Γ Δ : Scope) (rs : List Ident) (T : RegionType) → length rs ≡ length Δ.regions → AllByRecursion (λ r. KnownRegion Γ r.name) rs → Within Δ T →
    Within Γ (replaced Δ.regions (names rs) T)
replaced-within Γ Δ rs int l hs w = within-int Γ
replaced-within Γ Δ rs (list r T) l hs w =
    within-list Γ (renamed Δ.regions (names rs) r) (replaced Δ.regions (names rs) T)
    (renamed-known Γ Δ.regions rs r l hs (within-head Δ r T w)) (replaced-within Γ Δ rs T l hs (within-tail Δ r T w))

call-within : (Γ : Scope) (f : Fun) (rs : List Ident) (t : Ty) → length rs ≡ length f.regions → AllByRecursion (λ r. KnownRegion Γ r.name) rs → Within (header_scope f) (unplaced t) →
    Within Γ (at_call f rs t)
call-within Γ f rs t l hs w = replaced-within Γ (header_scope f) rs (unplaced t) (l ∙ sym (length-map f.regions (λ r. r.name))) hs w

scoped_more : (Γ : Scope) (x : Ident) (S : RegionType) → Scoped Γ → Within Γ S → Scoped (with_variable Γ x S)
scoped_more Γ x S h w = All-push (λ v. Within Γ v.type) Γ.variables (record { name = x.name; type = S }) h w

scoped_region : (Γ : Scope) (r : Ident) → Scoped Γ → Scoped (with_region Γ r)
scoped_region Γ r h = All-weaker (λ v. Within Γ v.type) (λ v. Within (with_region Γ r) v.type) (λ v w. within-longer Γ r v.type w) Γ.variables h

atom-within : {Γ : Scope} {a : Atom} {T : RegionType} → Scoped Γ → TypedAtom Γ a T → Within Γ T
atom-within {Γ} h (variable_has {x = x} {v = v} e is) = subst (Within Γ) is (found-holds (λ v. Within Γ v.type) (λ v. v.name) x.name Γ.variables v h e)
atom-within {Γ} h numeral_has = within-int Γ

mutual
  right_within : {F : Script} {Γ : Scope} {r : Right} {T : RegionType} → AllByRecursion TypedHeader F → Scoped Γ → TypedRight F Γ r T → Within Γ T
  right_within H h (atom_has k) = atom-within h k
  right_within {Γ = Γ} H h (oper_has k l) = within-int Γ
  right_within {Γ = Γ} H h (nil_has {r = r} {t = t} k w d) = within-list Γ r.name (unplaced t) k w
  right_within H h (cons_has k l m) = atom-within h m
  right_within {F} {Γ = Γ} H h (call_has {g = g} {rs = rs} {f = f} e l ks hs is) =
      subst (Within Γ) is (call-within Γ f rs f.result l ks (found-holds TypedHeader (λ g. g.name.name) g.name F f H e).result_within)
  right_within H h (test_has k l m) = block_within H h l
  right_within {Γ = Γ} H h (region_has {r = r} {T = T} n k m) = within-shorter Γ r T (block_within H (scoped_region Γ r h) k) m
  right_within H h (split_has k l m n o) = block_within H h l

  block_within : {F : Script} {Γ : Scope} {b : Block} {T : RegionType} → AllByRecursion TypedHeader F → Scoped Γ → TypedBlock F Γ b T → Within Γ T
  block_within H h (last_has k) = atom-within h k
  block_within {Γ = Γ} H h (bind_has {x = x} {S = S} n k l) = block_within H (scoped_more Γ x S h (right_within H h k)) l
  block_within H h (print_has k l) = block_within H h l

pub headers-each : {G fs : Script} → TypedHeaders G fs → AllByRecursion TypedHeader fs
headers-each no_headers = tt
headers-each (more_headers new room h hs) = (h, headers-each hs)

params-within : {Γ : Scope} {qs : List Param} → NewParams Γ qs → AllByRecursion (λ q. Within Γ (unplaced q.type)) qs
params-within no_new_params = tt
params-within (more_new_params h w hs) = (w, params-within hs)

header_scoped : (f : Fun) → TypedHeader f → Scoped (header_scope f)
header_scoped f h = All-map (λ v. Within (header_scope f) v.type) as_variable f.params (params-within h.params_new)

-- a block in its scope: the variables' types hold there, and it has a type
pub record Stands (F : Script) (Γ : Scope) (b : Block) : Type 0 where
  pub scoped : Scoped Γ
  pub type : RegionType
  pub typed : TypedBlock F Γ b type

let_stands : {F : Script} {Γ : Scope} {x : Ident} {r : Right} {b : Block} {S T : RegionType} → AllByRecursion TypedHeader F → Scoped Γ → TypedBlock F Γ (bind x r b) T → TypedRight F Γ r S → Stands F (with_variable Γ x S) b
let_stands {F} {Γ} {x} {r} {b} {S} {T} H h (bind_has {S = S'} n k l) t =
    record {
      scoped = scoped_more Γ x S h (right_within H h t);
      type = T;
      typed = subst (λ U. TypedBlock F (with_variable Γ x U) b T) ((types_are_unique F Γ S' S).1 r k t) l;
    }

print-stands : {F : Script} {Γ : Scope} {p : ℕ} {a : Atom} {b : Block} {T : RegionType} → Scoped Γ → TypedBlock F Γ (print p a b) T → Stands F Γ b
print-stands h (print_has k l) = record { scoped = h; type = _; typed = l }

first-stands : {F : Script} {Γ : Scope} {x : Ident} {p : ℕ} {a : Atom} {b c d : Block} {T : RegionType} → Scoped Γ → TypedBlock F Γ (bind x (test p a b c) d) T → Stands F Γ b
first-stands h (bind_has n (test_has k l m) o) = record { scoped = h; type = _; typed = l }

second_stands : {F : Script} {Γ : Scope} {x : Ident} {p : ℕ} {a : Atom} {b c d : Block} {T : RegionType} → Scoped Γ → TypedBlock F Γ (bind x (test p a b c) d) T → Stands F Γ c
second_stands h (bind_has n (test_has k l m) o) = record { scoped = h; type = _; typed = m }

region-stands : {F : Script} {Γ : Scope} {x : Ident} {p : ℕ} {r : Ident} {b d : Block} {T : RegionType} → Scoped Γ → TypedBlock F Γ (bind x (region p r b) d) T → Stands F (with_region Γ r) b
region-stands {Γ = Γ} {r = r} h (bind_has n (region_has m k l) o) = record { scoped = scoped_region Γ r h; type = _; typed = k }

nil-stands : {F : Script} {Γ : Scope} {x : Ident} {p : ℕ} {a : Atom} {b c d : Block} {y z : Ident} {T : RegionType} → Scoped Γ → TypedBlock F Γ (bind x (split p a b y z c) d) T → Stands F Γ b
nil-stands h (bind_has n (split_has k l m m' o) q) = record { scoped = h; type = _; typed = l }

pub parts : {r s : Name} {S T : RegionType} → list r S ≡ list s T → (r ≡ s) × (S ≡ T)
parts e = (cc, cc)

cons-stands : {F : Script} {Γ : Scope} {x : Ident} {p : ℕ} {a : Atom} {b c d : Block} {y z : Ident} {r : Name} {S T : RegionType} →
    Scoped Γ → TypedBlock F Γ (bind x (split p a b y z c) d) T → TypedAtom Γ a (list r S) → Stands F (with_variable (with_variable Γ y S) z (list r S)) c
cons-stands {F} {Γ} {a = a} {c = c} {y = y} {z = z} {r = r} {S = S} h (bind_has n (split_has {r = r'} {S = S'} {T = U} k l m m' o) q) t =
    let is = (types_are_unique F Γ (list r' S') (list r S)).0 a k t in
    let w = atom-within h t in
    record {
      scoped = scoped_more (with_variable Γ y S) z (list r S) (scoped_more Γ y S h (within-tail Γ r S w)) w;
      type = U;
      typed = subst (λ V. TypedBlock F (with_variable (with_variable Γ y V) z (list r S)) c U) (parts is).1
          (subst (λ L. TypedBlock F (with_variable (with_variable Γ y S') z L) c U) is o);
    }

pub reached-stands : {F : Script} {Γ : Scope} {b : Block} → TypedScript F → Reached F Γ b → Stands F Γ b
reached-stands {F} t (whole_body {f = f} m) =
    record { scoped = header_scoped f (all-has TypedHeader F f (headers-each t.headers) m); type = _; typed = all-has (TypedBody F) F f t.bodies m }
reached-stands t (behind_let h k) = let i = reached-stands t h in let_stands (headers-each t.headers) i.scoped i.typed k
reached-stands t (behind_print h) = let i = reached-stands t h in print-stands i.scoped i.typed
reached-stands t (test_first h) = let i = reached-stands t h in first-stands i.scoped i.typed
reached-stands t (test_second h) = let i = reached-stands t h in second_stands i.scoped i.typed
reached-stands t (in_region h) = let i = reached-stands t h in region-stands i.scoped i.typed
reached-stands t (case_first h) = let i = reached-stands t h in nil-stands i.scoped i.typed
reached-stands t (case_second h k) = let i = reached-stands t h in cons-stands i.scoped i.typed k

pub types_stay_in_scope : TypesStayInScope
types_stay_in_scope F t Γ b h =
    let i = reached-stands t h in
    (i.scoped, (i.type, i.typed, block_within (headers-each t.headers) i.scoped i.typed))
