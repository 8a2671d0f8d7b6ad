-- Atoms, types, regions and arguments: the walk over their items gives the answers of the definitions.
use Rattle.std.proofs.Common.{◌≡◌, ℕ, suc, List, [], ◌∷◌, map, length, drop, Some, None, Ok, Err, Option, Result, refl, ap, ◌∙◌, arith}
use Rattle.language.specs.Verdict.{Refused}
use Rattle.language.specs.Syntax.{Ident, Ty, Atom, var, num, Block, last, bind, print, Param, Fun}
use Rattle.language.specs.Types.{Name, RegionType, int, list, same_type, unplaced, replaced}
use Rattle.language.specs.Scope.{Scope, names}
use Rattle.language.specs.Checking.{◌>>=◌, ◌>>◌, ask, known_region, known_regions, known_type, atom_place, type_atom, need, need_all}
use Rattle.draft.specs.Items.{Item, an_outcome, items_type, items_atom, items_each, items_handed, items_header_region, items_block, items_param}
use Rattle.scope.specs.Words.{row, declared, handed, type_at}
use Rattle.checking.specs.Walk.{walk_atom, walk_need, walk_type, parameters, outcome, result_type, walk_handed, argument, walk_arguments}

-- an atom
pub atom-told : (Γ : Scope) (a : Atom) (after : List Item) → walk_atom Γ (items_atom a after) ≡ (type_atom Γ a >>= (λ T. Ok (T, atom_place a, after)))
atom-told Γ (var x) after = refl
atom-told Γ (num p z) after = refl

-- a typed part that has the type it needs
pub needing : (R : Result RegionType Refused) (W : Result (RegionType × ℕ × List Item) Refused) (T : RegionType) (p : ℕ) (after : List Item) → W ≡ (R >>= (λ U. Ok (U, p, after)))
    → (W >>= (λ a. ask (same_type a.0 T) 13 a.1 >> Ok a.2)) ≡ ((R >>= (λ U. ask (same_type U T) 13 p)) >> Ok after)
needing (Ok U) W T p after h = ap (λ w. w >>= (λ a. ask (same_type a.0 T) 13 a.1 >> Ok a.2)) h
needing (Err e) W T p after h = ap (λ w. w >>= (λ a. ask (same_type a.0 T) 13 a.1 >> Ok a.2)) h

-- an atom of a type that it needs
pub need-told : (Γ : Scope) (T : RegionType) (a : Atom) (after : List Item) → walk_need Γ T (items_atom a after) ≡ (need Γ a T >> Ok after)
need-told Γ T a after = needing (type_atom Γ a) _ T (atom_place a) after (atom-told Γ a after)

-- the words of a type
pub type-at_told : (t : Ty) (after : List Item) → type_at (items_type t after) ≡ unplaced t
type-at_told Ty.int after = refl
type-at_told (Ty.list r t) after = ap (list r.name) (type-at_told t after)

knowing_type : (q : Result Name Refused) (r : Name) (R : Result RegionType Refused) (W : Result (List Item) Refused) (after : List Item) → W ≡ (R >>= (λ T. Ok after))
    → ((q >> Ok (tt {0})) >> W) ≡ ((q >> (R >>= (λ T. Ok (list r T)))) >>= (λ T. Ok after))
knowing_type (Ok n) r (Ok T) W after h = h
knowing_type (Ok n) r (Err e) W after h = h
knowing_type (Err e) r R W after h = refl

-- a written type
pub type-told : (Γ : Scope) (t : Ty) (after : List Item) → walk_type Γ (items_type t after) ≡ (known_type Γ t >>= (λ T. Ok after))
type-told Γ Ty.int after = refl
type-told Γ (Ty.list r t) after = knowing_type (known_region Γ r) r.name (known_type Γ t) _ after (type-told Γ t after)

known_is : (q : Result Name Refused) (r : Name) (t : RegionType) (R : Result RegionType Refused) → ((T : RegionType) → R ≡ Ok T → T ≡ t) → (T : RegionType) → (q >> (R >>= (λ U. Ok (list r U)))) ≡ Ok T → T ≡ list r t
known_is (Ok n) r t (Ok U) h T e = let k : T ≡ list r U = cc in k ∙ ap (list r) (h U refl)
known_is (Ok n) r t (Err x) h T e = cc
known_is (Err x) r t R h T e = cc

-- the type that is known is the type that is written
pub known-type_is : (Γ : Scope) (t : Ty) (T : RegionType) → known_type Γ t ≡ Ok T → T ≡ unplaced t
known-type_is Γ Ty.int T e = cc
known-type_is Γ (Ty.list r t) T e = known_is (known_region Γ r) r.name (unplaced t) (known_type Γ t) (known-type_is Γ t) T e

-- the row of regions that a call hands over, before its atoms and the next item
pub no-handed : (args : List Atom) (b : Block) (after : List Item) → row handed (items_each items_atom args (items_block b after)) ≡ []
no-handed [] (last a) after = refl
no-handed [] (bind x r b) after = refl
no-handed [] (print p a b) after = refl
no-handed (var x ∷ args) b after = refl
no-handed (num p z ∷ args) b after = refl

pub handed-told : (rs : List Ident) (after : List Item) → row handed after ≡ [] → row handed (items_each items_handed rs after) ≡ names rs
handed-told [] after h = h
handed-told (r ∷ rs) after h = ap (λ l. r.name ∷ l) (handed-told rs after h)

pub behind-handed : (rs : List Ident) (after : List Item) → drop (length rs) (items_each items_handed rs after) ≡ after
behind-handed [] after = refl
behind-handed (r ∷ rs) after = behind-handed rs after

-- the regions that a call hands over are known
pub walk-handed_stops : (Γ : Scope) (args : List Atom) (b : Block) (after : List Item) → walk_handed Γ (items_each items_atom args (items_block b after)) ≡ Ok (items_each items_atom args (items_block b after))
walk-handed_stops Γ [] (last a) after = refl
walk-handed_stops Γ [] (bind x r b) after = refl
walk-handed_stops Γ [] (print p a b) after = refl
walk-handed_stops Γ (var x ∷ args) b after = refl
walk-handed_stops Γ (num p z ∷ args) b after = refl

next_known : (q : Result Name Refused) (Q : Result (Unit {0}) Refused) (W : Result (List Item) Refused) (after : List Item) → W ≡ (Q >> Ok after) → ((q >> Ok (tt {0})) >> W) ≡ ((q >> Q) >> Ok after)
next_known (Ok n) Q W after h = h
next_known (Err e) Q W after h = refl

pub walk-handed_told : (Γ : Scope) (rs : List Ident) (after : List Item) → walk_handed Γ after ≡ Ok after → walk_handed Γ (items_each items_handed rs after) ≡ (known_regions Γ rs >> Ok after)
walk-handed_told Γ [] after h = h
walk-handed_told Γ (r ∷ rs) after h = next_known (known_region Γ r) (known_regions Γ rs) _ after (walk-handed_told Γ rs after h)

-- the atoms that a call hands over
pub no-argument : (b : Block) (after : List Item) → row argument (items_block b after) ≡ []
no-argument (last a) after = refl
no-argument (bind x r b) after = refl
no-argument (print p a b) after = refl

pub arguments-length : (args : List Atom) (after : List Item) → row argument after ≡ [] → length (row argument (items_each items_atom args after)) ≡ length args
arguments-length [] after h = ap length h
arguments-length (var x ∷ args) after h = ap suc (arguments-length args after h)
arguments-length (num p z ∷ args) after h = ap suc (arguments-length args after h)

-- the regions of a header
pub declared-told : (rs : List Ident) (after : List Item) → row declared after ≡ [] → row declared (items_each items_header_region rs after) ≡ names rs
declared-told [] after h = h
declared-told (r ∷ rs) after h = ap (λ l. r.name ∷ l) (declared-told rs after h)

-- the items of a header behind its regions
abbrev pub behind-regions : Fun → List Item → List Item
behind-regions f after = items_each items_param f.params (an_outcome ∷ items_type f.result (items_block f.body after))

-- the items of a header and what follows
abbrev pub header : Fun → List Item → List Item
header f after = items_each items_header_region f.regions (behind-regions f after)

none-declared : (qs : List Param) (after : List Item) → row declared (items_each items_param qs (an_outcome ∷ after)) ≡ []
none-declared [] after = refl
none-declared (q ∷ qs) after = refl

pub header_declared : (f : Fun) (after : List Item) → row declared (header f after) ≡ names f.regions
header_declared f after = declared-told f.regions (behind-regions f after) (none-declared f.params _)

-- the items of each parameter's type
abbrev pub typed-items : List Param → List Item → List (List Item)
typed-items [] after = []
typed-items (q ∷ qs) after = items_type q.type (items_each items_param qs after) ∷ typed-items qs after

past_type : (t : Ty) (after : List Item) → parameters (items_type t after) ≡ parameters after
past_type Ty.int after = refl
past_type (Ty.list r t) after = past_type t after

params-told : (qs : List Param) (after : List Item) → parameters after ≡ [] → parameters (items_each items_param qs after) ≡ typed-items qs after
params-told [] after h = h
params-told (q ∷ qs) after h = ap (λ l. items_type q.type (items_each items_param qs after) ∷ l) (past_type q.type (items_each items_param qs after) ∙ params-told qs after h)

past_regions : (rs : List Ident) (after : List Item) → parameters (items_each items_header_region rs after) ≡ parameters after
past_regions [] after = refl
past_regions (r ∷ rs) after = past_regions rs after

pub header_parameters : (f : Fun) (after : List Item) → parameters (header f after) ≡ typed-items f.params (an_outcome ∷ items_type f.result (items_block f.body after))
header_parameters f after = past_regions f.regions _ ∙ params-told f.params _ refl

pub typed-length : (qs : List Param) (after : List Item) → length (typed-items qs after) ≡ length qs
typed-length [] after = refl
typed-length (q ∷ qs) after = ap suc (typed-length qs after)

-- the result of a header
out_type : (t : Ty) (after : List Item) → outcome (items_type t after) ≡ outcome after
out_type Ty.int after = refl
out_type (Ty.list r t) after = out_type t after

out_params : (qs : List Param) (after : List Item) → outcome (items_each items_param qs after) ≡ outcome after
out_params [] after = refl
out_params (q ∷ qs) after = out_type q.type _ ∙ out_params qs after

out_regions : (rs : List Ident) (after : List Item) → outcome (items_each items_header_region rs after) ≡ outcome after
out_regions [] after = refl
out_regions (r ∷ rs) after = out_regions rs after

pub header_result : (f : Fun) (after : List Item) → result_type (header f after) ≡ unplaced f.result
header_result f after =
    let F : Option (List Item) → RegionType = λ o. elim o [ Some more ↦ type_at more | None ↦ int ] in
    ap F (out_regions f.regions (behind-regions f after) ∙ out_params f.params _) ∙ type-at_told f.result _

next-needed : (q Q : Result (Unit {0}) Refused) (W : Result (List Item) Refused) (more : List Item) (k : List Item → Result (List Item) Refused) (after : List Item) → W ≡ (q >> Ok more) → k more ≡ (Q >> Ok after) → (W >>= k) ≡ ((q >> Q) >> Ok after)
next-needed (Ok n) Q W more k after h g = ap (λ w. w >>= k) h ∙ g
next-needed (Err e) Q W more k after h g = ap (λ w. w >>= k) h

-- each atom has the type of its parameter, seen from the call
pub arguments-told : (Γ : Scope) (olds news : List Name) (qs : List Param) (args : List Atom) (rest after : List Item) → length args ≡ length qs
    → walk_arguments Γ olds news (typed-items qs rest) (items_each items_atom args after) ≡ (need_all Γ args (map (λ q. replaced olds news (unplaced q.type)) qs) >> Ok after)
arguments-told Γ olds news [] [] rest after e = refl
arguments-told Γ olds news [] (a ∷ args) rest after e = absurd (omega arith)
arguments-told Γ olds news (q ∷ qs) [] rest after e = absurd (omega arith)
arguments-told Γ olds news (q ∷ qs) (a ∷ args) rest after e =
    let T = replaced olds news (type_at (items_type q.type (items_each items_param qs rest))) in
    let same : T ≡ replaced olds news (unplaced q.type) = ap (replaced olds news) (type-at_told q.type _) in
    next-needed (need Γ a (replaced olds news (unplaced q.type))) (need_all Γ args (map (λ q. replaced olds news (unplaced q.type)) qs)) _ (items_each items_atom args after)
    (λ more. walk_arguments Γ olds news (typed-items qs rest) more) after
    (ap (λ S. walk_need Γ S (items_atom a (items_each items_atom args after))) same ∙ need-told Γ (replaced olds news (unplaced q.type)) a (items_each items_atom args after))
    (arguments-told Γ olds news qs args rest after (omega arith))
