-- Every script that passes checking is resolved to what is safe.
use Rattle.std.proofs.Common.{◌≡◌, ℕ, ◌+◌, ◌<◌, ◌≤◌, true, false, ltb, List, [], ◌∷◌, ◌++◌, length, codes, sym, refl, ap, ◌∙◌, subst, add-zero, arith, length-append, lt-ltb, eq-eqb, le-leb}
use Rattle.std.specs.List.{ContainsAt as Has, AllByRecursion}
use Rattle.std.proofs.lemmas.List.{length-map}
use Rattle.std.proofs.ByRecursion.{all-has, all_has_itself}
use Rattle.language.specs.Syntax.{Ident, Atom, Right, atom, oper, nil, cons, call, test, region, split, Block, last, bind, print, Fun, Script}
use Rattle.language.specs.Types.{Name, RegionType, int, list, unplaced, mentions}
use Rattle.language.specs.Scope.{Scope, find_region, with_variable, header_scope}
use Rattle.language.specs.Typing.{KnownRegion, Within, TypedAtom, variable_has, numeral_has, TypedAtoms, no_atoms, more_atoms, TypedRight, atom_has, oper_has, cons_has, call_has, test_has, region_has, split_has, TypedBlock, last_has, bind_has, print_has, TypedScript}
use Rattle.language.specs.TypingLaws.{Reached, whole_body, behind_let, behind_print, test_first, test_second, in_region, case_first, case_second}
use Rattle.language.specs.Checking.{type_atom, type_right}
use Rattle.language.proofs.Answered.{some_is, and_is, and_says}
use Rattle.language.proofs.Names.{same-bytes_refl}
use Rattle.language.proofs.WellTyped.{if_true, atom-says, right_says}
use Rattle.language.proofs.Passing.{passed_is, length-needed}
use Rattle.language.proofs.InScope.{types_stay_in_scope}
use Rattle.language.proofs.Limits.{scopes_keep_limits}
use Rattle.program.specs.declared.command.Way.{Way}
use Rattle.program.specs.declared.command.Way.TheVariants.{Return, Leave}
use Rattle.program.specs.declared.command.Command.{Command}
use Rattle.program.specs.declared.command.Command.TheVariants.{Hand, Case}
use Rattle.program.specs.declared.command.Function.{Function}
use Rattle.program.specs.Compiled.{region_slot, free_slot, operand, type_in, outermost, elements, right_size, block_size, handed, arguments, leaving, compiled_right, compiled_block, compiled_from, compiled, listed_from, listed, main_index}
use Rattle.program.specs.Safe.{safe_operand, ahead, safe_way, safe_command, safe_from, safe_functions, safe_main, PassingIsSafe}
use Rattle.program.proofs.Sizes.{right_length, block_length, block-some, bodies-size, from_length}
use Rattle.program.proofs.Found.{index-found, found_all, listed_found}

-- one part behind the other
safe_join : (G : List Function) (total at n : ℕ) (xs ys : List Command) → length xs ≡ n → safe_from G total at xs ≡ true → safe_from G total (at + n) ys ≡ true → safe_from G total at (xs ++ ys) ≡ true
safe_join G total at n [] ys l h k = let z : n ≡ 0 = sym l in subst (λ m. safe_from G total m ys ≡ true) (ap (λ m. at + m) z ∙ add-zero at) k
safe_join G total at n (x ∷ xs) ys l h k =
    let (one, more) = and_is (safe_command G total at x) (safe_from G total (at + 1) xs) h in
    let e : at + n ≡ at + 1 + length xs = omega (arith, l) in
    and_says one (safe_join G total (at + 1) (length xs) xs ys refl more (subst (λ m. safe_from G total m ys ≡ true) e k))

is-ahead : (total at target : ℕ) → at < target → target < total → ahead total at target ≡ true
is-ahead total at target h k = and_says (lt-ltb at target h) (lt-ltb target total k)

-- what a block's way out needs behind the block's end
abbrev WayHolds : ℕ → ℕ → Way → Type 0
WayHolds total end Return = Unit {0}
WayHolds total end (Leave next slot closes) = (end ≤ next) × (next < total) × (slot < 32)

way_safe : (total at end : ℕ) (w : Way) → at < end → WayHolds total end w → safe_way total at w ≡ true
way_safe total at end Return h k = refl
way_safe total at end (Leave next slot closes) h k = and_says (is-ahead total at next (omega arith) (omega arith)) (lt-ltb slot 32 k.2)

-- what is known of a scope
record Narrow (Γ : Scope) : Type 0 where
  regions : length Γ.regions ≤ 8
  variables : length Γ.variables ≤ 32
  within : AllByRecursion (λ v. Within Γ v.type) Γ.variables

narrow : {F : Script} {Γ : Scope} {b : Block} → TypedScript F → Reached F Γ b → Narrow Γ
narrow {F} {Γ} {b} t h =
    let l = (scopes_keep_limits F t).1 Γ b h in
    record { regions = l.0; variables = l.2; within = (types_stay_in_scope F t Γ b h).0 }

operand-safe : {Γ : Scope} {a : Atom} {T : RegionType} → Narrow Γ → TypedAtom Γ a T → safe_operand (operand Γ a) ≡ true
operand-safe {Γ} n (variable_has {x = x} {v = v} f s) =
    let i = index-found (λ w. w.name) x.name Γ.variables v f in
    lt-ltb _ 32 (omega (arith, i, n.variables))
operand-safe n numeral_has = refl

region-safe : {Γ : Scope} (r : Name) → Narrow Γ → KnownRegion Γ r → ltb (region_slot Γ r) 8 ≡ true
region-safe {Γ} r n k =
    let (s, f) = some_is (find_region Γ r) k in
    let i = index-found (λ q. q) r Γ.regions s f in
    lt-ltb _ 8 (omega (arith, i, n.regions))

-- the region of a list in scope is in scope
list-region : {Γ : Scope} {a : Atom} {L : RegionType} (r : Name) (S : RegionType) → Narrow Γ → TypedAtom Γ a L → L ≡ list r S → KnownRegion Γ r
list-region {Γ} r S n (variable_has {x = x} {v = v} f s) e =
    let w = found_all (λ v. Within Γ v.type) (λ w. w.name) x.name Γ.variables v n.within f in
    w r (subst (λ T. mentions r T ≡ true) (sym (s ∙ e)) (if_true _ _ (same-bytes_refl r)))
list-region r S n numeral_has e = absurd (let z : ◌≡◌ {A = ℕ} 0 1 = cc in omega arith)

-- what a call hands over
handed-safe : {Γ : Scope} (G : List Function) (total at : ℕ) (rs : List Ident) → Narrow Γ → AllByRecursion (λ r. KnownRegion Γ r.name) rs → safe_from G total at (handed Γ rs) ≡ true
handed-safe G total at [] n h = refl
handed-safe G total at (r ∷ rs) n h = and_says (region-safe r.name n h.0) (handed-safe G total (at + 1) rs n h.1)

arguments-safe : {Γ : Scope} {args : List Atom} {Ts : List RegionType} (G : List Function) (total at : ℕ) → Narrow Γ → TypedAtoms Γ args Ts → safe_from G total at (arguments Γ args) ≡ true
arguments-safe G total at n no_atoms = refl
arguments-safe G total at n (more_atoms h hs) = and_says (operand-safe n h) (arguments-safe G total (at + 1) n hs)

as_many : {Γ : Scope} {args : List Atom} {Ts : List RegionType} → TypedAtoms Γ args Ts → length args ≡ length Ts
as_many no_atoms = refl
as_many (more_atoms h hs) = omega (arith, as_many hs)

-- what a well-typed block says of its first item
last-typed : {F : Script} {Γ : Scope} {a : Atom} {T : RegionType} → TypedBlock F Γ (last a) T → TypedAtom Γ a T
last-typed (last_has k) = k

print-typed : {F : Script} {Γ : Scope} {p : ℕ} {a : Atom} {b : Block} {T : RegionType} → TypedBlock F Γ (print p a b) T → TypedAtom Γ a int
print-typed (print_has k l) = k

bind-typed : {F : Script} {Γ : Scope} {x : Ident} {r : Right} {b : Block} {T : RegionType} → TypedBlock F Γ (bind x r b) T → (length Γ.variables < 32) × ((S : RegionType) × TypedRight F Γ r S)
bind-typed (bind_has n k l) = (n.room, (_, k))

mutual
  safe_right : {F : Script} {Γ : Scope} {x : Ident} {d : Block} {S : RegionType} (t : TypedScript F) (total at : ℕ) (r : Right) → Reached F Γ (bind x r d) → TypedRight F Γ r S →
      length Γ.variables < 32 → at + right_size r < total → safe_from (listed F) total at (compiled_right F Γ at r) ≡ true
  safe_right t total at (atom a) h (atom_has k) room end =
      let n = narrow t h in
      and_says (and_says (operand-safe n k) (and_says (lt-ltb _ 32 room) (is-ahead total at (at + 1) (omega arith) end))) refl
  safe_right t total at (oper p o a b) h (oper_has k l) room end =
      let n = narrow t h in
      and_says (and_says (operand-safe n k) (and_says (operand-safe n l) (and_says (lt-ltb _ 32 room) (is-ahead total at (at + 1) (omega arith) end)))) refl
  safe_right t total at (nil p r T) h k room end = and_says (and_says (lt-ltb _ 32 room) (is-ahead total at (at + 1) (omega arith) end)) refl
  safe_right t total at (cons p r a b) h (cons_has q k l) room end =
      let n = narrow t h in
      and_says (and_says (region-safe r.name n q) (and_says (operand-safe n k) (and_says (operand-safe n l) (and_says (lt-ltb _ 32 room) (is-ahead total at (at + 1) (omega arith) end))))) refl
  safe_right {F} {Γ} t total at (call p g rs args) h (call_has {f = f} found many known typed is) room end =
      let n = narrow t h in
      let i = listed_found 0 F g.name f found in
      let m = as_many typed in
      let l = length-needed f rs in
      and_says
      (and_says (lt-ltb _ _ i.inside) (and_says (lt-ltb _ 32 room) (is-ahead total at _ (omega arith) (omega (arith, i.regions, i.params, m, l, many)))))
      (safe_join (listed F) total (at + 1) (length rs) (handed Γ rs) (arguments Γ args) (length-map rs (λ r. Hand (region_slot Γ r.name))) (handed-safe (listed F) total (at + 1) rs n known) (arguments-safe (listed F) total _ n typed))
  safe_right {F} {Γ} t total at (test p a b c) h (test_has k l m) room end =
      let n = narrow t h in
      let w = leaving Γ (at + 1 + block_size b + block_size c) false in
      and_says
      (and_says (operand-safe n k) (and_says (is-ahead total at (at + 1) (omega arith) (omega (arith, block-some b))) (is-ahead total at (at + 1 + block_size b) (omega arith) (omega (arith, block-some c)))))
      (safe_join (listed F) total (at + 1) (block_size b) (compiled_block F Γ (at + 1) w b) (compiled_block F Γ (at + 1 + block_size b) w c) (block_length F Γ (at + 1) w b)
      (safe_block t total (at + 1) w b (test_first h) (omega arith) (omega arith, omega arith, room))
      (safe_block t total (at + 1 + block_size b) w c (test_second h) (omega arith) (omega arith, omega arith, room)))
  safe_right {F} {Γ} t total at (region p r b) h (region_has m k l) room end =
      let w = leaving Γ (at + 1 + block_size b) true in
      and_says (and_says (lt-ltb _ 8 m.room) (is-ahead total at (at + 1) (omega arith) (omega (arith, block-some b))))
      (safe_block t total (at + 1) w b (in_region h) (omega arith) (omega arith, omega arith, room))
  safe_right {F} {Γ} t total at (split p a b x y c) h (split_has {r = q} {S = S} k l m m' o) room end =
      let n = narrow t h in
      let w = leaving Γ (at + 1 + block_size b + block_size c) false in
      let e : type_in (type_atom Γ a) ≡ list q S = ap type_in (atom-says k) in
      subst
      (λ L. safe_from (listed F) total at (Case (operand Γ a) (region_slot Γ (outermost L)) (at + 1 + block_size b) (free_slot Γ) ∷
      (compiled_block F Γ (at + 1) w b ++ compiled_block F (with_variable (with_variable Γ x (elements L)) y L) (at + 1 + block_size b) w c)) ≡ true)
      (sym e)
      (and_says
      (and_says (operand-safe n k) (and_says (region-safe q n (list-region q S n k refl)) (and_says (lt-ltb _ 32 (omega (arith, m'.room, length-append Γ.variables (record { name = x.name; type = S } ∷ []))))
      (and_says (is-ahead total at (at + 1) (omega arith) (omega (arith, block-some b))) (is-ahead total at (at + 1 + block_size b) (omega arith) (omega (arith, block-some c)))))))
      (safe_join (listed F) total (at + 1) (block_size b) (compiled_block F Γ (at + 1) w b) (compiled_block F (with_variable (with_variable Γ x S) y (list q S)) (at + 1 + block_size b) w c) (block_length F Γ (at + 1) w b)
      (safe_block t total (at + 1) w b (case_first h) (omega arith) (omega arith, omega arith, room))
      (safe_block t total (at + 1 + block_size b) w c (case_second h k) (omega arith) (omega arith, omega arith, room))))

  safe_block : {F : Script} {Γ : Scope} (t : TypedScript F) (total at : ℕ) (w : Way) (b : Block) → Reached F Γ b → at + block_size b ≤ total → WayHolds total (at + block_size b) w →
      safe_from (listed F) total at (compiled_block F Γ at w b) ≡ true
  safe_block {F} {Γ} t total at w (last a) h end way =
      let (T, k, v) = (types_stay_in_scope F t Γ (last a) h).1 in
      and_says (and_says (operand-safe (narrow t h) (last-typed k)) (way_safe total at (at + 1) w (omega arith) way)) refl
  safe_block {F} {Γ} t total at w (bind x r b) h end way =
      let (T, k, v) = (types_stay_in_scope F t Γ (bind x r b) h).1 in
      let (room, (S, j)) = bind-typed k in
      let e : type_in (type_right F Γ r) ≡ S = ap type_in (right_says j) in
      safe_join (listed F) total at (right_size r) (compiled_right F Γ at r) (compiled_block F (with_variable Γ x (type_in (type_right F Γ r))) (at + right_size r) w b) (right_length F Γ at r)
      (safe_right t total at r h j room (omega (arith, block-some b)))
      (subst (λ U. safe_from (listed F) total (at + right_size r) (compiled_block F (with_variable Γ x U) (at + right_size r) w b) ≡ true) (sym e)
      (safe_block t total (at + right_size r) w b (behind_let h j) (omega arith) (subst (λ m. WayHolds total m w) (omega arith) way)))
  safe_block {F} {Γ} t total at w (print p a b) h end way =
      let (T, k, v) = (types_stay_in_scope F t Γ (print p a b) h).1 in
      and_says (and_says (operand-safe (narrow t h) (print-typed k)) (is-ahead total at (at + 1) (omega arith) (omega (arith, block-some b))))
      (safe_block t total (at + 1) w b (behind_print h) (omega arith) (subst (λ m. WayHolds total m w) (omega arith) way))

from_safe : {F : Script} (t : TypedScript F) (total at : ℕ) (fs : List Fun) → AllByRecursion (Has F) fs → at + bodies-size fs ≤ total → safe_from (listed F) total at (compiled_from F at fs) ≡ true
from_safe t total at [] h end = refl
from_safe {F} t total at (f ∷ fs) h end =
    let n = block_size f.body in
    safe_join (listed F) total at n (compiled_block F (header_scope f) at Return f.body) (compiled_from F (at + n) fs) (block_length F (header_scope f) at Return f.body)
    (safe_block t total at Return f.body (whole_body h.0) (omega arith) tt)
    (from_safe t total (at + n) fs h.1 (omega arith))

few-regions : {F : Script} (t : TypedScript F) (f : Fun) → Has F f → length f.regions ≤ 8
few-regions t f h = omega (arith, (narrow t (whole_body h)).regions, length-map f.regions (λ r. r.name))

few-params : {F : Script} (t : TypedScript F) (f : Fun) → Has F f → length f.params ≤ 8
few-params {F} t f h = all-has (λ g. length g.params ≤ 8) F f (scopes_keep_limits F t).0.2 h

functions-safe : {F : Script} (t : TypedScript F) (total at : ℕ) (fs : List Fun) → AllByRecursion (Has F) fs → at + bodies-size fs ≤ total → safe_functions total (listed_from at fs) ≡ true
functions-safe t total at [] h end = refl
functions-safe t total at (f ∷ fs) h end =
    and_says
    (and_says (lt-ltb at total (omega (arith, block-some f.body))) (and_says (le-leb _ 8 (few-regions t f h.0)) (le-leb _ 8 (few-params t f h.0))))
    (functions-safe t total (at + block_size f.body) fs h.1 (omega arith))

main-safe : {F : Script} (t : TypedScript F) → safe_main (listed F) (main_index F) ≡ true
main-safe {F} t =
    let (f, found, m) = t.main_is in
    let i = listed_found 0 F (codes "main") f found in
    let none = ap length m.no_region in
    let one = ap length m.one_int in
    let same = length-map f.params (λ q. unplaced q.type) in
    and_says (lt-ltb _ _ i.inside) (and_says (eq-eqb _ 0 (i.regions ∙ none)) (eq-eqb _ 1 (i.params ∙ sym same ∙ one)))

pub passing_is_safe : PassingIsSafe
passing_is_safe end s e =
    let t = (passed_is end s s e).0 in
    let end : 0 + bodies-size s ≤ length (compiled s) = omega (arith, from_length s 0 s) in
    let each = all_has_itself s in
    (from_safe t (length (compiled s)) 0 s each end, functions-safe t (length (compiled s)) 0 s each end, main-safe t)
