-- The walk over the items of a block gives the answer of the definitions for the block.
use Rattle.std.proofs.Common.{◌≡◌, ℕ, zero, suc, ◌≤◌, Bool, true, false, not, ◌&&◌, eqb, leb, List, ◌∷◌, length, drop, Some, None, Ok, Option, Result, sym, refl, ap, ◌∙◌, arith, eqb-true}
use Rattle.std.proofs.lemmas.List.{length-map}
use Rattle.language.specs.Verdict.{Refused}
use Rattle.language.specs.Syntax.{Ident, Atom, var, num, Right, atom, oper, nil, cons, call, test, region, split, Block, last, bind, print, Fun, Script}
use Rattle.language.specs.Types.{Name, RegionType, int, list, same_type, mentions, depth, replaced}
use Rattle.language.specs.Scope.{Scope, find, find_function, names, with_variable, with_region}
use Rattle.language.specs.Typing.{at_call, needed}
use Rattle.language.specs.Checking.{◌>>=◌, ◌>>◌, ask, found, known_region, known_regions, known_type, new_region, new_variable, atom_place, last_place, type_atom, need, need_all, element, type_right, type_block}
use Rattle.draft.specs.Items.{Item, case_names, items_type, items_atom, items_each, items_handed, items_right, items_block}
use Rattle.scope.specs.Words.{row, declared, handed, type_at}
use Rattle.checking.specs.Walk.{Functions, walk_atom, walk_need, parameters, result_type, walk_handed, argument, walk_arguments, called, walk_right, walk_block}
use Rattle.checking.proofs.Sequences.{pair, triple, bound, put, knowing, going, either_type, two, tested, itself}
use Rattle.checking.proofs.Parts.{atom-told, need-told, type-at_told, type-told, known-type_is, no-handed, handed-told, behind-handed, walk-handed_stops, walk-handed_told, no-argument, arguments-length, header, header_declared, header_parameters, header_result, typed-items, typed-length, arguments-told}
use Rattle.checking.proofs.Lengths.{longer-atom, longer_right, longer_block}

-- a function that is found, and its header among the items
abbrev pub Both : Option Fun → Option (Ident × List Item) → Type 0
Both None None = Unit {0}
Both None (Some h) = ⊥
Both (Some f) None = ⊥
Both (Some f) (Some h) = (after : List Item) × (h.1 ≡ header f after) × (h.0 ≡ f.name)

-- the functions of a script, known by their headers
abbrev pub Knows : Script → Functions → Type 0
Knows F G = (n : Name) → Both (find_function F n) (find (λ h. h.0.name) n G)

abbrev called-by : Scope → Ident → List Name → List Name → List (List Item) → RegionType → ℕ → List Item → Result (RegionType × List Item) Refused
called-by Γ g hs ds qs T n is =
    ask (eqb (length hs) (length ds) && eqb n (length qs)) 16 g.place >> (walk_handed Γ is >>= (λ more. walk_arguments Γ ds hs qs more >>= (λ after. pair after (replaced ds hs T))))

split-test : (a b : Bool) → (a && b) ≡ true → b ≡ true
split-test true b e = e
split-test false b e = cc

called-told : (Γ : Scope) (g : Ident) (rs : List Ident) (args : List Atom) (b : Block) (after : List Item) (f : Fun) (rest : List Item)
    → called Γ g (items_each items_handed rs (items_each items_atom args (items_block b after))) (header f rest)
    ≡ ((ask (eqb (length rs) (length f.regions) && eqb (length args) (length f.params)) 16 g.place >> (known_regions Γ rs >> (need_all Γ args (needed f rs) >> Ok (at_call f rs f.result)))) >>= pair (items_block b after))
called-told Γ g rs args b after f rest =
    let X = items_block b after in
    let is = items_each items_handed rs (items_each items_atom args X) in
    let hs : row handed is ≡ names rs = handed-told rs (items_each items_atom args X) (no-handed args b after) in
    let n : length (row argument (drop (length (row handed is)) is)) ≡ length args =
    ap (λ l. length (row argument (drop (length l) is))) hs ∙ ap (λ k. length (row argument (drop k is))) (length-map rs (λ (r : Ident). r.name)) ∙ ap (λ l. length (row argument l)) (behind-handed rs (items_each items_atom args X)) ∙ arguments-length args X (no-argument b after) in
    let qs = typed-items f.params (Item.an_outcome ∷ items_type f.result (items_block f.body rest)) in
    ap (λ m. called-by Γ g (row handed is) (row declared (header f rest)) (parameters (header f rest)) (result_type (header f rest)) m is) n
    ∙ ap (λ l. called-by Γ g l (row declared (header f rest)) (parameters (header f rest)) (result_type (header f rest)) (length args) is) hs
    ∙ ap (λ l. called-by Γ g (names rs) l (parameters (header f rest)) (result_type (header f rest)) (length args) is) (header_declared f rest)
    ∙ ap (λ l. called-by Γ g (names rs) (names f.regions) l (result_type (header f rest)) (length args) is) (header_parameters f rest)
    ∙ ap (λ T. called-by Γ g (names rs) (names f.regions) qs T (length args) is) (header_result f rest)
    ∙ ap (λ v. ask v 16 g.place >> (walk_handed Γ is >>= (λ more. walk_arguments Γ (names f.regions) (names rs) qs more >>= (λ after. pair after (at_call f rs f.result)))))
    (ap (λ k. eqb k (length (names f.regions)) && eqb (length args) (length qs)) (length-map rs (λ (r : Ident). r.name)) ∙ ap (λ k. eqb (length rs) k && eqb (length args) (length qs)) (length-map f.regions (λ (r : Ident). r.name)) ∙ ap (λ k. eqb (length rs) (length f.regions) && eqb (length args) k) (typed-length f.params _))
    ∙ tested (eqb (length rs) (length f.regions) && eqb (length args) (length f.params)) 16 g.place _ (known_regions Γ rs >> (need_all Γ args (needed f rs) >> Ok (at_call f rs f.result))) (pair X) (λ v.
    let m : length args ≡ length f.params = eqb-true (length args) (length f.params) (split-test (eqb (length rs) (length f.regions)) _ v) in
    going (known_regions Γ rs) (walk_handed Γ is) (items_each items_atom args X) (λ more. walk_arguments Γ (names f.regions) (names rs) qs more >>= (λ after. pair after (at_call f rs f.result))) (need_all Γ args (needed f rs) >> Ok (at_call f rs f.result)) (pair X)
    (walk-handed_told Γ rs (items_each items_atom args X) (walk-handed_stops Γ args b after))
    (going (need_all Γ args (needed f rs)) (walk_arguments Γ (names f.regions) (names rs) qs (items_each items_atom args X)) X (λ after. pair after (at_call f rs f.result)) (Ok (at_call f rs f.result)) (pair X)
    (arguments-told Γ (names f.regions) (names rs) f.params args _ X m) refl))

found-call : (Γ : Scope) (g : Ident) (rs : List Ident) (args : List Atom) (b : Block) (after : List Item) (o : Option Fun) (w : Option (Ident × List Item)) → Both o w
    → (found w g.place >>= (λ h. called Γ g (items_each items_handed rs (items_each items_atom args (items_block b after))) h.1))
    ≡ ((found o g.place >>= (λ f. ask (eqb (length rs) (length f.regions) && eqb (length args) (length f.params)) 16 g.place >> (known_regions Γ rs >> (need_all Γ args (needed f rs) >> Ok (at_call f rs f.result))))) >>= pair (items_block b after))
found-call Γ g rs args b after None None h = refl
found-call Γ g rs args b after None (Some w) h = absurd h
found-call Γ g rs args b after (Some f) None h = absurd h
found-call Γ g rs args b after (Some f) (Some w) h = ap (called Γ g (items_each items_handed rs (items_each items_atom args (items_block b after)))) h.1 ∙ called-told Γ g rs args b after f h.0

mutual
  -- a right side, before the rest of its block
  pub right_told : (r : Right) (F : Script) (G : Functions) → Knows F G → (n : ℕ) (b : Block) (after : List Item) (Γ : Scope) → length (items_right r (items_block b after)) ≤ n
      → walk_right (walk_block n G) G Γ (items_right r (items_block b after)) ≡ (type_right F Γ r >>= pair (items_block b after))
  right_told (atom (var x)) F G K n b after Γ h = refl
  right_told (atom (num p z)) F G K n b after Γ h = refl
  right_told (oper p o a c) F G K n b after Γ h =
      let X = items_block b after in
      going (need Γ a int) _ (items_atom c X) (λ more. walk_need Γ int more >>= (λ rest. pair rest int)) (need Γ c int >> Ok int) (pair X) (need-told Γ int a (items_atom c X))
      (going (need Γ c int) _ X (λ rest. pair rest int) (Ok int) (pair X) (need-told Γ int c X) refl)
  right_told (nil p r t) F G K n b after Γ h =
      let X = items_block b after in
      let T = type_at (items_type t X) in
      knowing (known_region Γ r) _ (known_type Γ t >>= (λ T. ask (leb (depth (list r.name T)) 5) 15 p >> Ok (list r.name T))) (pair X)
      (bound (known_type Γ t) (λ T. X) _ (λ rest. ask (leb (depth (list r.name T)) 5) 15 p >> pair rest (list r.name T)) (λ T. ask (leb (depth (list r.name T)) 5) 15 p >> Ok (list r.name T)) (pair X) (type-told Γ t X)
      (λ U e. ap (λ V. ask (leb (depth (list r.name V)) 5) 15 p >> pair X (list r.name V)) (type-at_told t X ∙ sym (known-type_is Γ t U e))
      ∙ put (ask (leb (depth (list r.name U)) 5) 15 p) (pair X (list r.name U)) (Ok (list r.name U)) (pair X) refl))
  right_told (cons p r a c) F G K n b after Γ h =
      let X = items_block b after in
      knowing (known_region Γ r) _ (type_atom Γ a >>= (λ T. need Γ c (list r.name T) >> Ok (list r.name T))) (pair X)
      (bound (type_atom Γ a) (λ T. (T, atom_place a, items_atom c X)) _ (λ u. walk_atom Γ u.2 >>= (λ v. ask (same_type v.0 (list r.name u.0)) 13 v.1 >> pair v.2 v.0)) (λ T. need Γ c (list r.name T) >> Ok (list r.name T)) (pair X) (atom-told Γ a (items_atom c X))
      (λ T e. either_type (type_atom Γ c) _ (list r.name T) (atom_place c) X (atom-told Γ c X)))
  right_told (call p g rs args) F G K n b after Γ h = found-call Γ g rs args b after (find_function F g.name) (find (λ h. h.0.name) g.name G) (K g.name)
  right_told (test p a b1 c1) F G K n b after Γ h =
      let X = items_block b after in
      let i1 = longer-atom a (items_block b1 (items_block c1 X)) in
      let i2 = longer_block b1 (items_block c1 X) in
      going (need Γ a int) _ (items_block b1 (items_block c1 X)) _ (type_block F Γ b1 >>= (λ T. type_block F Γ c1 >>= (λ U. ask (same_type U T) 13 (last_place c1) >> Ok T))) (pair X) (need-told Γ int a (items_block b1 (items_block c1 X)))
      (bound (type_block F Γ b1) (λ T. (T, last_place b1, items_block c1 X)) _ _ (λ T. type_block F Γ c1 >>= (λ U. ask (same_type U T) 13 (last_place c1) >> Ok T)) (pair X) (block_told b1 F G K n (items_block c1 X) Γ (omega arith))
      (λ T e. bound (type_block F Γ c1) (λ U. (U, last_place c1, X)) _ _ (λ U. ask (same_type U T) 13 (last_place c1) >> Ok T) (pair X) (block_told c1 F G K n X Γ (omega arith))
      (λ U e. put (ask (same_type U T) 13 (last_place c1)) (pair X T) (Ok T) (pair X) refl)))
  right_told (region p r b1) F G K n b after Γ h =
      let X = items_block b after in
      put (new_region Γ r) _ (type_block F (with_region Γ r) b1 >>= (λ T. ask (not (mentions r.name T)) 14 (last_place b1) >> Ok T)) (pair X)
      (bound (type_block F (with_region Γ r) b1) (λ T. (T, last_place b1, X)) _ _ (λ T. ask (not (mentions r.name T)) 14 (last_place b1) >> Ok T) (pair X) (block_told b1 F G K n X (with_region Γ r) (omega arith))
      (λ T e. put (ask (not (mentions r.name T)) 14 (last_place b1)) (pair X T) (Ok T) (pair X) refl))
  right_told (split p a b1 x y c1) F G K n b after Γ h =
      let X = items_block b after in
      let Y = case_names x y ∷ items_block c1 X in
      let i1 = longer-atom a (items_block b1 Y) in
      let i2 = longer_block b1 Y in
      bound (type_atom Γ a) (λ T. (T, atom_place a, items_block b1 Y)) _ _
      (λ L. element L (atom_place a) >>= (λ e. type_block F Γ b1 >>= (λ T. new_variable 32 Γ x >> (new_variable 32 (with_variable Γ x e.1) y >> (type_block F (with_variable (with_variable Γ x e.1) y L) c1 >>= (λ U. ask (same_type U T) 13 (last_place c1) >> Ok T))))))
      (pair X) (atom-told Γ a (items_block b1 Y))
      (λ L q. bound (element L (atom_place a)) (λ e. e) _ _ (λ e. type_block F Γ b1 >>= (λ T. new_variable 32 Γ x >> (new_variable 32 (with_variable Γ x e.1) y >> (type_block F (with_variable (with_variable Γ x e.1) y L) c1 >>= (λ U. ask (same_type U T) 13 (last_place c1) >> Ok T)))))
      (pair X) (itself (element L (atom_place a)))
      (λ e q. bound (type_block F Γ b1) (λ T. (T, last_place b1, Y)) _ _ (λ T. new_variable 32 Γ x >> (new_variable 32 (with_variable Γ x e.1) y >> (type_block F (with_variable (with_variable Γ x e.1) y L) c1 >>= (λ U. ask (same_type U T) 13 (last_place c1) >> Ok T))))
      (pair X) (block_told b1 F G K n Y Γ (omega arith))
      (λ T q. two (new_variable 32 Γ x) (new_variable 32 (with_variable Γ x e.1) y) (walk_block n G (with_variable (with_variable Γ x e.1) y L) (items_block c1 X)) _ (type_block F (with_variable (with_variable Γ x e.1) y L) c1 >>= (λ U. ask (same_type U T) 13 (last_place c1) >> Ok T)) (pair X)
      (bound (type_block F (with_variable (with_variable Γ x e.1) y L) c1) (λ U. (U, last_place c1, X)) _ _ (λ U. ask (same_type U T) 13 (last_place c1) >> Ok T) (pair X) (block_told c1 F G K n X (with_variable (with_variable Γ x e.1) y L) (omega arith))
      (λ U q. put (ask (same_type U T) 13 (last_place c1)) (pair X T) (Ok T) (pair X) refl)))))

  -- a block, with as many steps as there are items
  pub block_told : (b : Block) (F : Script) (G : Functions) → Knows F G → (n : ℕ) (after : List Item) (Γ : Scope) → length (items_block b after) ≤ n
      → walk_block n G Γ (items_block b after) ≡ (type_block F Γ b >>= triple (last_place b) after)
  block_told (last a) F G K zero after Γ h = absurd (omega arith)
  block_told (bind x r b) F G K zero after Γ h = absurd (omega arith)
  block_told (print p a b) F G K zero after Γ h = absurd (omega arith)
  block_told (last a) F G K (suc n) after Γ h = atom-told Γ a after
  block_told (bind x r b) F G K (suc n) after Γ h =
      let i = longer_right r (items_block b after) in
      put (new_variable 32 Γ x) _ (type_right F Γ r >>= (λ S. type_block F (with_variable Γ x S) b)) (triple (last_place b) after)
      (bound (type_right F Γ r) (λ S. (S, items_block b after)) _ _ (λ S. type_block F (with_variable Γ x S) b) (triple (last_place b) after) (right_told r F G K n b after Γ (omega arith))
      (λ S e. block_told b F G K n after (with_variable Γ x S) (omega arith)))
  block_told (print p a b) F G K (suc n) after Γ h =
      let i = longer-atom a (items_block b after) in
      going (need Γ a int) _ (items_block b after) _ (type_block F Γ b) (triple (last_place b) after) (need-told Γ int a (items_block b after)) (block_told b F G K n after Γ (omega arith))
