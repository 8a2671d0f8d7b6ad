-- Whole scripts: the walk over the items of a script gives the answer of checking.
use Rattle.std.proofs.Common.{◌≡◌, ℕ, zero, suc, ◌<◌, ◌≤◌, Bool, true, false, not, ◌&&◌, eqb, ltb, List, [], ◌∷◌, ◌++◌, length, is_some, Some, None, Ok, Err, codes, Option, Result, sym, refl, ap, ◌∙◌, append_assoc, append-nil, arith}
use Rattle.std.proofs.lemmas.List.{length-map}
use Rattle.lexing.specs.Tokens.{same_bytes}
use Rattle.language.specs.Verdict.{Refused}
use Rattle.language.specs.Syntax.{Ident, Ty, Atom, var, num, Right, atom, oper, nil, cons, call, test, region, split, Block, last, bind, print, Param, Fun, Script}
use Rattle.language.specs.Types.{int, same_type, unplaced}
use Rattle.language.specs.Scope.{Scope, find, find_function, header_scope, empty_scope}
use Rattle.language.specs.Checking.{◌>>=◌, ◌>>◌, ask, last_place, type_block, check_headers, one_int, main_like, check_main, check_body, check_bodies, checking}
use Rattle.draft.specs.Items.{Item, an_outcome, case_names, items_type, items_atom, items_each, items_handed, items_header_region, items_param, items_right, items_block, items_of}
use Rattle.scope.specs.Words.{type_at}
use Rattle.checking.specs.Walk.{Functions, walk_header, behind_header, next_function, new_function, walk_headers, parameters, result_type, one_int_items, main_items, walk_main, walk_block, walk_body, walk_bodies, walk_script}
use Rattle.checking.proofs.Parts.{type-at_told, header, behind-regions, header_declared, header_parameters, header_result, typed-items, needing}
use Rattle.checking.proofs.Lengths.{longer-type, longer_block}
use Rattle.checking.proofs.Telling.{Both, Knows, block_told}
use Rattle.checking.proofs.Headings.{header_part, headed, header_told}

abbrev functions : Functions → Result Functions Refused
functions G = Ok G

abbrev heading : Scope × List Item × List Item → Result (Scope × List Item × List Item) Refused
heading h = Ok h

-- one header among the items, with the name of its function
abbrev One : Fun → Ident × List Item → Type 0
One f h = (rest : List Item) × (h.1 ≡ header f rest) × (h.0 ≡ f.name)

-- functions with their headers, one by one
abbrev Alike : Script → Functions → Type 0
Alike [] [] = Unit {0}
Alike [] (h ∷ hs) = ⊥
Alike (f ∷ fs) [] = ⊥
Alike (f ∷ fs) (h ∷ hs) = One f h × Alike fs hs

both_by : (f : Fun) (h : Ident × List Item) (v w : Bool) (o : Option Fun) (x : Option (Ident × List Item)) → One f h → v ≡ w → Both o x
    → Both (elim v [ true ↦ Some f | false ↦ o ]) (elim w [ true ↦ Some h | false ↦ x ])
both_by f h true true o x a e b = a
both_by f h false false o x a e b = b
both_by f h true false o x a e b = let z : ◌≡◌ {A = ℕ} 0 1 = cc in absurd (omega arith)
both_by f h false true o x a e b = let z : ◌≡◌ {A = ℕ} 0 1 = cc in absurd (omega arith)

alike_knows : (F : Script) (G : Functions) → Alike F G → Knows F G
alike_knows [] [] a n = tt
alike_knows [] (h ∷ hs) a n = absurd a
alike_knows (f ∷ fs) [] a n = absurd a
alike_knows (f ∷ fs) (h ∷ hs) a n =
    both_by f h (same_bytes f.name.name n) (same_bytes h.0.name n) (find_function fs n) (find (λ h. h.0.name) n hs) a.0 (ap (λ i. same_bytes i.name n) (sym a.0.2)) (alike_knows fs hs a.1 n)

alike_length : (F : Script) (G : Functions) → Alike F G → length G ≡ length F
alike_length [] [] a = refl
alike_length [] (h ∷ hs) a = absurd a
alike_length (f ∷ fs) [] a = absurd a
alike_length (f ∷ fs) (h ∷ hs) a = ap suc (alike_length fs hs a.1)

alike_more : (F : Script) (G : Functions) (f : Fun) (h : Ident × List Item) → Alike F G → One f h → Alike (F ++ (f ∷ [])) (G ++ (h ∷ []))
alike_more [] [] f h a o = (o, tt)
alike_more [] (k ∷ ks) f h a o = absurd a
alike_more (e ∷ es) [] f h a o = absurd a
alike_more (e ∷ es) (k ∷ ks) f h a o = (a.0, alike_more es ks f h a.1 o)

both_some : (o : Option Fun) (x : Option (Ident × List Item)) → Both o x → is_some x ≡ is_some o
both_some None None b = refl
both_some None (Some h) b = absurd b
both_some (Some f) None b = absurd b
both_some (Some f) (Some h) b = refl

-- the functions of a script, with their headers
abbrev headers-of : Script → Functions
headers-of [] = []
headers-of (f ∷ fs) = (f.name, header f (items_of fs)) ∷ headers-of fs

headers-alike : (F : Script) → Alike F (headers-of F)
headers-alike [] = tt
headers-alike (f ∷ fs) = ((items_of fs, refl, refl), headers-alike fs)

-- a block is passed on the way to the next function
past_atom : (a : Atom) (after : List Item) → next_function (items_atom a after) ≡ next_function after
past_atom (var x) after = refl
past_atom (num p z) after = refl

past_atoms : (args : List Atom) (after : List Item) → next_function (items_each items_atom args after) ≡ next_function after
past_atoms [] after = refl
past_atoms (a ∷ args) after = past_atom a (items_each items_atom args after) ∙ past_atoms args after

past_handed : (rs : List Ident) (after : List Item) → next_function (items_each items_handed rs after) ≡ next_function after
past_handed [] after = refl
past_handed (r ∷ rs) after = past_handed rs after

past_type : (t : Ty) (after : List Item) → next_function (items_type t after) ≡ next_function after
past_type Ty.int after = refl
past_type (Ty.list r t) after = past_type t after

mutual
  past_right : (r : Right) (after : List Item) → next_function (items_right r after) ≡ next_function after
  past_right (atom a) after = past_atom a after
  past_right (oper p o a b) after = past_atom a (items_atom b after) ∙ past_atom b after
  past_right (nil p r t) after = past_type t after
  past_right (cons p r a b) after = past_atom a (items_atom b after) ∙ past_atom b after
  past_right (call p g rs args) after = past_handed rs (items_each items_atom args after) ∙ past_atoms args after
  past_right (test p a b c) after = past_atom a (items_block b (items_block c after)) ∙ past_block b (items_block c after) ∙ past_block c after
  past_right (region p r b) after = past_block b after
  past_right (split p a b x y c) after = past_atom a (items_block b (case_names x y ∷ items_block c after)) ∙ past_block b (case_names x y ∷ items_block c after) ∙ past_block c after

  past_block : (b : Block) (after : List Item) → next_function (items_block b after) ≡ next_function after
  past_block (last a) after = past_atom a after
  past_block (bind x r b) after = past_right r (items_block b after) ∙ past_block b after
  past_block (print p a b) after = past_atom a (items_block b after) ∙ past_block b after

at-function : (fs : Script) → next_function (items_of fs) ≡ items_of fs
at-function [] = refl
at-function (f ∷ fs) = refl

-- lengths of a header's items
longer-regions : (rs : List Ident) (after : List Item) → length after ≤ length (items_each items_header_region rs after)
longer-regions [] after = omega arith
longer-regions (r ∷ rs) after = let h = longer-regions rs after in omega arith

longer-params : (qs : List Param) (after : List Item) → length after ≤ length (items_each items_param qs after)
longer-params [] after = omega arith
longer-params (q ∷ qs) after = let h = longer-params qs after in let k = longer-type q.type (items_each items_param qs after) in omega arith

longer-header : (f : Fun) (after : List Item) → length (items_block f.body after) ≤ length (header f after)
longer-header f after =
    let a = longer-type f.result (items_block f.body after) in
    let b = longer-params f.params (an_outcome ∷ items_type f.result (items_block f.body after)) in
    let c = longer-regions f.regions (behind-regions f after) in
    omega arith

one-header : {X : Type 0} (a b c Q : Result (Unit {0}) Refused) (W : Result (Scope × List Item × List Item) Refused) (h : Scope × List Item × List Item) (k : List Item → Result X Refused) (x : X)
    → W ≡ (c >> Ok h) → k h.2 ≡ (Q >> Ok x) → ((a >> b) >> (behind_header W >>= k)) ≡ (((a >> (b >> c)) >> Q) >> Ok x)
one-header (Ok a) (Ok b) (Ok c) Q W h k x e f = ap (λ w. behind_header w >>= k) e ∙ f
one-header (Ok a) (Ok b) (Err z) Q W h k x e f = ap (λ w. behind_header w >>= k) e
one-header (Ok a) (Err z) c Q W h k x e f = refl
one-header (Err z) b c Q W h k x e f = refl

new_told : (Gs : Script) (G : Functions) (f : Ident) → Alike Gs G → new_function G f ≡ (ask (not (is_some (find_function Gs f.name))) 8 f.place >> ask (ltb (length Gs) 64) 10 f.place)
new_told Gs G f a =
    ap (λ v. ask (not v) 8 f.place >> ask (ltb (length G) 64) 10 f.place) (both_some (find_function Gs f.name) (find (λ h. h.0.name) f.name G) (alike_knows Gs G a f.name))
    ∙ ap (λ l. ask (not (is_some (find_function Gs f.name))) 8 f.place >> ask (ltb l 64) 10 f.place) (alike_length Gs G a)

-- all headers from the left
headers-told : (fs : Script) (n : ℕ) (Gs : Script) (G : Functions) → Alike Gs G → length (items_of fs) < n → walk_headers n G (items_of fs) ≡ (check_headers Gs fs >> Ok (G ++ headers-of fs))
headers-told [] zero Gs G a h = absurd (omega arith)
headers-told (f ∷ fs) zero Gs G a h = absurd (omega arith)
headers-told [] (suc n) Gs G a h = ap functions (sym (append-nil G))
headers-told (f ∷ fs) (suc n) Gs G a h =
    let after = items_of fs in
    let k = longer-header f after in
    let l = longer_block f.body after in
    let m = longer-regions f.regions (behind-regions f after) in
    let next : List Item → Result Functions Refused = λ rest. walk_headers n (G ++ ((f.name, header f after) ∷ [])) (next_function rest) in
    ap (λ q. q >> (behind_header (walk_header n empty_scope (header f after)) >>= next)) (new_told Gs G f.name a)
    ∙ one-header (ask (not (is_some (find_function Gs f.name.name))) 8 f.name.place) (ask (ltb (length Gs) 64) 10 f.name.place) (header_part f) (check_headers (Gs ++ (f ∷ [])) fs) _ (headed f after) next (G ++ headers-of (f ∷ fs))
    (header_told n f after (omega arith) (omega arith))
    (ap (walk_headers n (G ++ ((f.name, header f after) ∷ []))) (past_block f.body after ∙ at-function fs)
    ∙ headers-told fs n (Gs ++ (f ∷ [])) (G ++ ((f.name, header f after) ∷ [])) (alike_more Gs G f (f.name, header f after) a (after, refl, refl)) (omega arith)
    ∙ ap (λ l. check_headers (Gs ++ (f ∷ [])) fs >> functions l) (append_assoc G ((f.name, header f after) ∷ []) (headers-of fs)))

one-int_told : (qs : List Param) (after : List Item) → one_int_items (typed-items qs after) ≡ one_int qs
one-int_told [] after = refl
one-int_told (q ∷ []) after = ap (λ T. same_type T int) (type-at_told q.type after)
one-int_told (q ∷ (r ∷ qs)) after = refl

main-told : (f : Fun) (rest : List Item) → main_items (header f rest) ≡ main_like f
main-told f rest =
    ap (λ l. eqb (length l) 0 && (one_int_items (parameters (header f rest)) && same_type (result_type (header f rest)) int)) (header_declared f rest)
    ∙ ap (λ k. eqb k 0 && (one_int_items (parameters (header f rest)) && same_type (result_type (header f rest)) int)) (length-map f.regions (λ (r : Ident). r.name))
    ∙ ap (λ l. eqb (length f.regions) 0 && (one_int_items l && same_type (result_type (header f rest)) int)) (header_parameters f rest)
    ∙ ap (λ v. eqb (length f.regions) 0 && (v && same_type (result_type (header f rest)) int)) (one-int_told f.params _)
    ∙ ap (λ T. eqb (length f.regions) 0 && (one_int f.params && same_type T int)) (header_result f rest)

walk-main_told : (end : ℕ) (o : Option Fun) (x : Option (Ident × List Item)) → Both o x → walk_main end x ≡ check_main end o
walk-main_told end None None b = refl
walk-main_told end None (Some h) b = absurd b
walk-main_told end (Some f) None b = absurd b
walk-main_told end (Some f) (Some h) b =
    ap (λ i. ask (main_items i) 9 h.0.place) b.1 ∙ ap (λ v. ask v 9 h.0.place) (main-told f b.0) ∙ ap (λ i. ask (main_like f) 9 i.place) b.2

-- one block, where the header has passed
body-told : (F : Script) (G : Functions) → Knows F G → (n : ℕ) (f : Fun) (after : List Item) → length (header f after) ≤ n → header_part f ≡ Ok tt → walk_body n G (header f after) ≡ (check_body F f >> Ok after)
body-told F G K n f after h p =
    let k = longer-header f after in
    let m = longer-regions f.regions (behind-regions f after) in
    let its = items_type f.result (items_block f.body after) in
    let on : Scope × List Item × List Item → Result (List Item) Refused = λ h. walk_block n G h.0 h.2 >>= (λ b. ask (same_type b.0 (type_at h.1)) 13 b.1 >> Ok b.2) in
    ap (λ w. w >>= on) (header_told n f after (omega arith) (omega arith) ∙ ap (λ q. q >> heading (headed f after)) p)
    ∙ ap (λ T. walk_block n G (header_scope f) (items_block f.body after) >>= (λ b. ask (same_type b.0 T) 13 b.1 >> Ok b.2)) (type-at_told f.result (items_block f.body after))
    ∙ needing (type_block F (header_scope f) f.body) _ (unplaced f.result) (last_place f.body) after (block_told f.body F G K n after (header_scope f) (omega arith))

passing : (a b c d : Result (Unit {0}) Refused) → ((a >> (b >> c)) >> d) ≡ Ok tt → (c ≡ Ok tt) × (d ≡ Ok tt)
passing (Ok a) (Ok b) (Ok c) d e = (refl, e)
passing (Ok a) (Ok b) (Err z) d e = let z : ◌≡◌ {A = ℕ} 0 1 = cc in absurd (omega arith)
passing (Ok a) (Err z) c d e = let z : ◌≡◌ {A = ℕ} 0 1 = cc in absurd (omega arith)
passing (Err z) b c d e = let z : ◌≡◌ {A = ℕ} 0 1 = cc in absurd (omega arith)

on-with : (q Q : Result (Unit {0}) Refused) (W : Result (List Item) Refused) (x : List Item) (k : List Item → Result (Unit {0}) Refused) → W ≡ (q >> Ok x) → k x ≡ Q → (W >>= k) ≡ (q >> Q)
on-with (Ok a) Q W x k h g = ap (λ w. w >>= k) h ∙ g
on-with (Err e) Q W x k h g = ap (λ w. w >>= k) h

-- all blocks from the left, where the headers have passed
bodies-told : (fs : Script) (F : Script) (G : Functions) → Knows F G → (n : ℕ) (Gs : Script) → length (items_of fs) < n → check_headers Gs fs ≡ Ok tt → walk_bodies n G (items_of fs) ≡ check_bodies F fs
bodies-told [] F G K zero Gs h p = absurd (omega arith)
bodies-told (f ∷ fs) F G K zero Gs h p = absurd (omega arith)
bodies-told [] F G K (suc n) Gs h p = refl
bodies-told (f ∷ fs) F G K (suc n) Gs h p =
    let k = longer-header f (items_of fs) in
    let l = longer_block f.body (items_of fs) in
    let both = passing (ask (not (is_some (find_function Gs f.name.name))) 8 f.name.place) (ask (ltb (length Gs) 64) 10 f.name.place) (header_part f) (check_headers (Gs ++ (f ∷ [])) fs) p in
    on-with (check_body F f) (check_bodies F fs) _ (items_of fs) (λ after. walk_bodies n G after) (body-told F G K n f (items_of fs) (omega arith) both.0) (bodies-told fs F G K n (Gs ++ (f ∷ [])) (omega arith) both.1)

whole : (q m b : Result (Unit {0}) Refused) (W : Result Functions Refused) (G : Functions) (k : Functions → Result (Unit {0}) Refused) (F : Script) → W ≡ (q >> Ok G) → (q ≡ Ok tt → k G ≡ (m >> b)) → (W >>= k) ≡ ((q >> (m >> (b >> Ok F))) >> Ok tt)
whole (Ok a) (Ok m) (Ok b) W G k F h g = ap (λ w. w >>= k) h ∙ g refl
whole (Ok a) (Ok m) (Err e) W G k F h g = ap (λ w. w >>= k) h ∙ g refl
whole (Ok a) (Err e) b W G k F h g = ap (λ w. w >>= k) h ∙ g refl
whole (Err e) m b W G k F h g = ap (λ w. w >>= k) h

-- the walk over a script's items is checking
pub script-told : (F : Script) (n end : ℕ) → length (items_of F) < n → walk_script n end (items_of F) ≡ (checking end F >> Ok tt)
script-told F n end h =
    let G = headers-of F in
    let K : Knows F G = alike_knows F G (headers-alike F) in
    whole (check_headers [] F) (check_main end (find_function F (codes "main"))) (check_bodies F F) _ G (λ G. walk_main end (find (λ h. h.0.name) (codes "main") G) >> walk_bodies n G (items_of F)) F
    (headers-told F n [] [] tt h)
    (λ p. ap (λ q. q >> walk_bodies n G (items_of F)) (walk-main_told end (find_function F (codes "main")) (find (λ h. h.0.name) (codes "main") G) (K (codes "main")))
    ∙ ap (λ b. check_main end (find_function F (codes "main")) >> b) (bodies-told F F G K n [] h p))
