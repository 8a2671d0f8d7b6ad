-- What comes into scope one by one, each new and within the limit, has names apart and is no longer than the limit.
use Rattle.std.proofs.Common.{◌≡◌, ℕ, ◌<◌, ◌≤◌, Bool, true, false, List, [], ◌∷◌, ◌++◌, map, length, Some, None, Option, sym, refl, ap, ◌∙◌, subst, arith, length-append}
use Rattle.std.proofs.ByRecursion.{all-has, All-weaker}
use Rattle.std.proofs.lemmas.List.{append-nil, append_assoc, map-append, length-map}
use Rattle.lexing.specs.Tokens.{same_bytes}
use Rattle.language.specs.Syntax.{Ident, Atom, Right, Block, bind, region, split, Param, Fun, Script}
use Rattle.language.specs.Types.{Name, RegionType, list}
use Rattle.language.specs.Scope.{most_functions, most_params, most_regions, most_variables, find, Scope, Variable, with_variable, with_region, names, as_variable, header_scope}
use Rattle.language.specs.Typing.{NewRegion, NewVariable, TypedAtom, TypedBlock, bind_has, region_has, split_has, NewRegions, no_new_regions, more_new_regions, NewParams, no_new_params, more_new_params, TypedHeader, TypedHeaders, no_headers, more_headers, TypedScript}
use Rattle.language.specs.TypingLaws.{Reached, whole_body, behind_let, behind_print, test_first, test_second, in_region, case_first, case_second, Apart, ScopesKeepLimits}
use Rattle.language.proofs.Names.{true_false, same-bytes_is, same-bytes_refl}
use Rattle.language.proofs.Unique.{types_are_unique}
use Rattle.language.proofs.InScope.{headers-each, parts, reached-stands}

same-bytes_turned : (m n : Name) → same_bytes m n ≡ false → same_bytes n m ≡ false
same-bytes_turned m n e = go (same_bytes n m) refl
  where
    go : (b : Bool) → same_bytes n m ≡ b → b ≡ false
    go true f = absurd (true_false (sym (same-bytes_refl m) ∙ ap (same_bytes m) (sym (same-bytes_is n m f)) ∙ e))
    go false f = refl

-- a name that is not found is neither the first nor among the others
record Missing (n m : Name) (o : Option Name) : Type 0 where
  first : same_bytes m n ≡ false
  later : o ≡ None

missing : (n m : Name) (ns : List Name) → find (λ t. t) n (m ∷ ns) ≡ None → Missing n m (find (λ t. t) n ns)
missing n m ns e = go (same_bytes m n) refl e
  where
    go : (b : Bool) → same_bytes m n ≡ b → ◌≡◌ {A = Option Name} (elim b [ true ↦ Some m | false ↦ find (λ t. t) n ns ]) None → Missing n m (find (λ t. t) n ns)
    go true s f = absurd (let z : ◌≡◌ {A = ℕ} 0 1 = cc in omega arith)
    go false s f = record { first = s; later = f }

still_missing : (b : Bool) (m : Name) (o : Option Name) → b ≡ false → o ≡ None → ◌≡◌ {A = Option Name} (elim b [ true ↦ Some m | false ↦ o ]) None
still_missing true m o e f = absurd (true_false e)
still_missing false m o e f = f

missing_push : (n m : Name) (ns : List Name) → find (λ t. t) n ns ≡ None → same_bytes m n ≡ false → find (λ t. t) n (ns ++ (m ∷ [])) ≡ None
missing_push n m [] e f = still_missing (same_bytes m n) m None f refl
missing_push n m (k ∷ ns) e f =
    let h = missing n k ns e in
    still_missing (same_bytes k n) k (find (λ t. t) n (ns ++ (m ∷ []))) h.first (missing_push n m ns h.later f)

apart_push : (n : Name) (ns : List Name) → Apart ns → find (λ t. t) n ns ≡ None → Apart (ns ++ (n ∷ []))
apart_push n [] h e = (refl, tt)
apart_push n (m ∷ ns) h e =
    let k = missing n m ns e in
    (missing_push m n ns h.0 (same-bytes_turned m n k.first), apart_push n ns h.1 k.later)

missing_names : {A : Type 0} (key : A → Name) (n : Name) (es : List A) → find key n es ≡ None → find (λ t. t) n (map key es) ≡ None
missing_names key n [] e = refl
missing_names {A} key n (x ∷ es) e = go (same_bytes (key x) n) e (missing_names key n es)
  where
    go : (b : Bool) → ◌≡◌ {A = Option A} (elim b [ true ↦ Some x | false ↦ find key n es ]) None → (find key n es ≡ None → find (λ t. t) n (map key es) ≡ None) →
        ◌≡◌ {A = Option Name} (elim b [ true ↦ Some (key x) | false ↦ find (λ t. t) n (map key es) ]) None
    go true f later = absurd (let z : ◌≡◌ {A = ℕ} 0 1 = cc in omega arith)
    go false f later = later f

-- entries within a limit, with names apart
record Kept {A : Type 0} (key : A → Name) (most : ℕ) (es : List A) : Type 0 where
  few : length es ≤ most
  apart : Apart (map key es)

kept_push : {A : Type 0} (key : A → Name) (most : ℕ) (es : List A) (x : A) → Kept key most es → length es < most → find key (key x) es ≡ None → Kept key most (es ++ (x ∷ []))
kept_push key most es x h room new =
    record {
      few = omega (arith, length-append es (x ∷ []));
      apart = rw (map-append key es (x ∷ [])) (apart_push (key x) (map key es) h.apart (missing_names key (key x) es new));
    }

functions-kept : {G fs : Script} → TypedHeaders G fs → Kept (λ (f : Fun). f.name.name) most_functions G → Kept (λ (f : Fun). f.name.name) most_functions (G ++ fs)
functions-kept (no_headers {G = G}) h = rw (append-nil G) h
functions-kept (more_headers {G = G} {f = f} {fs = fs} new room head hs) h =
    rw (← (append_assoc G (f ∷ []) fs)) (functions-kept hs (kept_push (λ (f : Fun). f.name.name) most_functions G f h room new))

regions-kept : {Γ : Scope} {rs : List Ident} → NewRegions Γ rs → Kept (λ t. t) most_regions Γ.regions → Kept (λ t. t) most_regions (Γ.regions ++ names rs)
regions-kept (no_new_regions {Γ = Γ}) h = rw (append-nil Γ.regions) h
regions-kept (more_new_regions {Γ = Γ} {r = r} {rs = rs} n hs) h =
    rw (← (append_assoc Γ.regions (r.name ∷ []) (names rs))) (regions-kept hs (kept_push (λ t. t) most_regions Γ.regions r.name h n.room n.unused))

params-kept : {Γ : Scope} {qs : List Param} → NewParams Γ qs → Kept (λ (v : Variable). v.name) most_params Γ.variables →
    Kept (λ (v : Variable). v.name) most_params (Γ.variables ++ map as_variable qs)
params-kept (no_new_params {Γ = Γ}) h = rw (append-nil Γ.variables) h
params-kept (more_new_params {Γ = Γ} {q = q} {qs = qs} n w hs) h =
    rw (← (append_assoc Γ.variables ((as_variable q) ∷ []) (map as_variable qs)))
    (params-kept hs (kept_push (λ (v : Variable). v.name) most_params Γ.variables (as_variable q) h n.room n.unused))

-- a scope within its limits
record Bounded (Γ : Scope) : Type 0 where
  regions : Kept (λ t. t) most_regions Γ.regions
  variables : Kept (λ (v : Variable). v.name) most_variables Γ.variables

bounded_header : (f : Fun) → TypedHeader f → Bounded (header_scope f)
bounded_header f h =
    let p = params-kept h.params_new (record { few = omega arith; apart = tt }) in
    record { regions = regions-kept h.regions_new (record { few = omega arith; apart = tt }); variables = record { few = omega (arith, p.few); apart = p.apart } }

bounded_variable : (Γ : Scope) (x : Ident) (S : RegionType) → Bounded Γ → NewVariable most_variables Γ x → Bounded (with_variable Γ x S)
bounded_variable Γ x S h n =
    record { regions = h.regions; variables = kept_push (λ (v : Variable). v.name) most_variables Γ.variables (record { name = x.name; type = S }) h.variables n.room n.unused }

bounded_region : (Γ : Scope) (r : Ident) → Bounded Γ → NewRegion Γ r → Bounded (with_region Γ r)
bounded_region Γ r h n = record { regions = kept_push (λ t. t) most_regions Γ.regions r.name h.regions n.room n.unused; variables = h.variables }

bounded_let : {F : Script} {Γ : Scope} {x : Ident} {r : Right} {b : Block} {T : RegionType} (S : RegionType) → Bounded Γ → TypedBlock F Γ (bind x r b) T → Bounded (with_variable Γ x S)
bounded_let {Γ = Γ} {x = x} S h (bind_has n k l) = bounded_variable Γ x S h n

bounded_in_region : {F : Script} {Γ : Scope} {x : Ident} {p : ℕ} {r : Ident} {b d : Block} {T : RegionType} → Bounded Γ → TypedBlock F Γ (bind x (region p r b) d) T → Bounded (with_region Γ r)
bounded_in_region {Γ = Γ} {r = r} h (bind_has n (region_has m k l) o) = bounded_region Γ r h m

bounded_case : {F : Script} {Γ : Scope} {x : Ident} {p : ℕ} {a : Atom} {b c d : Block} {y z : Ident} {r : Name} {S T : RegionType} →
    Bounded Γ → TypedBlock F Γ (bind x (split p a b y z c) d) T → TypedAtom Γ a (list r S) → Bounded (with_variable (with_variable Γ y S) z (list r S))
bounded_case {F} {Γ} {a = a} {y = y} {z = z} {r = r} {S = S} h (bind_has n (split_has {r = r'} {S = S'} k l m m' o) q) t =
    let is = (parts ((types_are_unique F Γ (list r' S') (list r S)).0 a k t)).1 in
    bounded_variable (with_variable Γ y S) z (list r S) (bounded_variable Γ y S h m) (subst (λ V. NewVariable most_variables (with_variable Γ y V) z) is m')

reached-bounded : {F : Script} {Γ : Scope} {b : Block} → TypedScript F → Reached F Γ b → Bounded Γ
reached-bounded {F} t (whole_body {f = f} m) = bounded_header f (all-has TypedHeader F f (headers-each t.headers) m)
reached-bounded t (behind_let {S = S} h k) = bounded_let S (reached-bounded t h) (reached-stands t h).typed
reached-bounded t (behind_print h) = reached-bounded t h
reached-bounded t (test_first h) = reached-bounded t h
reached-bounded t (test_second h) = reached-bounded t h
reached-bounded t (in_region h) = bounded_in_region (reached-bounded t h) (reached-stands t h).typed
reached-bounded t (case_first h) = reached-bounded t h
reached-bounded t (case_second h k) = bounded_case (reached-bounded t h) (reached-stands t h).typed k

map_same : (R : List Name) → map (λ t. t) R ≡ R
map_same [] = refl
map_same (r ∷ R) = cc (map_same R)

few-params : (f : Fun) → TypedHeader f → length f.params ≤ 8
few-params f h =
    let p = params-kept h.params_new (record { few = omega arith; apart = tt }) in
    omega (arith, p.few, length-map f.params as_variable)

pub scopes_keep_limits : ScopesKeepLimits
scopes_keep_limits F t =
    let g = functions-kept t.headers (record { few = omega arith; apart = tt }) in (
      (g.few, g.apart, All-weaker TypedHeader (λ f. length f.params ≤ 8) few-params F (headers-each t.headers)),
      λ Γ b h.
          let i = reached-bounded t h in
          (i.regions.few, rw (map_same Γ.regions) at i.regions.apart, i.variables.few, i.variables.apart),
    )
