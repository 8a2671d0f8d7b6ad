-- Headers: the walk over their items gives the answers of the definitions, and the scope of the block.
use Rattle.std.proofs.Common.{◌≡◌, ℕ, zero, suc, ◌≤◌, List, [], ◌∷◌, ◌++◌, map, length, Ok, Err, Result, sym, refl, ap, ◌∙◌, append_assoc, append-nil, arith}
use Rattle.language.specs.Verdict.{Refused}
use Rattle.language.specs.Syntax.{Ident, Param, Fun}
use Rattle.language.specs.Types.{Name, RegionType, unplaced}
use Rattle.language.specs.Scope.{Scope, Variable, names, with_variable, with_region, as_variable, region_scope, header_scope, empty_scope}
use Rattle.language.specs.Checking.{◌>>=◌, ◌>>◌, known_type, new_region, new_variable, check_regions, check_params}
use Rattle.draft.specs.Items.{Item, an_outcome, items_type, items_each, items_header_region, items_param, items_block}
use Rattle.scope.specs.Words.{type_at}
use Rattle.checking.specs.Walk.{walk_type, walk_regions, walk_params, walk_outcome, walk_header}
use Rattle.checking.proofs.Parts.{type-at_told, type-told, known-type_is, behind-regions, header}
use Rattle.checking.proofs.Lengths.{longer-type}

-- the scope with a header's regions, and with its parameters
abbrev pub more_regions : Scope → List Ident → Scope
more_regions Γ [] = Γ
more_regions Γ (r ∷ rs) = more_regions (with_region Γ r) rs

abbrev pub more-params : Scope → List Param → Scope
more-params Γ [] = Γ
more-params Γ (q ∷ qs) = more-params (with_variable Γ q.name (unplaced q.type)) qs

regions-are : (Γ : Scope) (rs : List Ident) → more_regions Γ rs ≡ record { regions = Γ.regions ++ names rs; variables = Γ.variables }
regions-are Γ [] = ap (λ (l : List Name). let g : Scope = record { regions = l; variables = Γ.variables } in g) (sym (append-nil Γ.regions))
regions-are Γ (r ∷ rs) = regions-are (with_region Γ r) rs ∙ ap (λ (l : List Name). let g : Scope = record { regions = l; variables = Γ.variables } in g) (append_assoc Γ.regions (r.name ∷ []) (names rs))

params_are : (Γ : Scope) (qs : List Param) → more-params Γ qs ≡ record { regions = Γ.regions; variables = Γ.variables ++ map as_variable qs }
params_are Γ [] = ap (λ (l : List Variable). let g : Scope = record { regions = Γ.regions; variables = l } in g) (sym (append-nil Γ.variables))
params_are Γ (q ∷ qs) = params_are (with_variable Γ q.name (unplaced q.type)) qs ∙ ap (λ (l : List Variable). let g : Scope = record { regions = Γ.regions; variables = l } in g) (append_assoc Γ.variables (as_variable q ∷ []) (map as_variable qs))

abbrev scope-of_and : Scope → List Item → Result (Scope × List Item) Refused
scope-of_and Γ is = Ok (Γ, is)

regions-stop : (Γ : Scope) (qs : List Param) (after : List Item) → walk_regions Γ (items_each items_param qs (an_outcome ∷ after)) ≡ Ok (Γ, items_each items_param qs (an_outcome ∷ after))
regions-stop Γ [] after = refl
regions-stop Γ (q ∷ qs) after = refl

one_more : {X : Type 0} (q Q : Result (Unit {0}) Refused) (W : Result X Refused) (x : X) → W ≡ (Q >> Ok x) → (q >> W) ≡ ((q >> Q) >> Ok x)
one_more (Ok a) Q W x h = h
one_more (Err e) Q W x h = refl

regions-told : (Γ : Scope) (rs : List Ident) (qs : List Param) (after : List Item)
    → walk_regions Γ (items_each items_header_region rs (items_each items_param qs (an_outcome ∷ after))) ≡ (check_regions Γ rs >> Ok (more_regions Γ rs, items_each items_param qs (an_outcome ∷ after)))
regions-told Γ [] qs after = regions-stop Γ qs after
regions-told Γ (r ∷ rs) qs after = one_more (new_region Γ r) (check_regions (with_region Γ r) rs) _ (more_regions (with_region Γ r) rs, items_each items_param qs (an_outcome ∷ after)) (regions-told (with_region Γ r) rs qs after)

param_step : {X : Type 0} (q : Result (Unit {0}) Refused) (R : Result RegionType Refused) (W : Result (List Item) Refused) (more : List Item) (k : List Item → Result X Refused) (l : RegionType → Result (Unit {0}) Refused) (x : X)
    → W ≡ (R >>= (λ T. Ok more)) → ((T : RegionType) → R ≡ Ok T → k more ≡ (l T >> Ok x)) → (q >> (W >>= k)) ≡ ((q >> (R >>= l)) >> Ok x)
param_step (Ok a) (Ok T) W more k l x h g = ap (λ w. w >>= k) h ∙ g T refl
param_step (Ok a) (Err e) W more k l x h g = ap (λ w. w >>= k) h
param_step (Err e) R W more k l x h g = refl

params-told : (qs : List Param) (n : ℕ) (Γ : Scope) (after : List Item) → length (items_each items_param qs (an_outcome ∷ after)) ≤ n
    → walk_params n Γ (items_each items_param qs (an_outcome ∷ after)) ≡ (check_params Γ qs >> Ok (more-params Γ qs, an_outcome ∷ after))
params-told [] zero Γ after h = absurd (omega arith)
params-told (q ∷ qs) zero Γ after h = absurd (omega arith)
params-told [] (suc n) Γ after h = refl
params-told (q ∷ qs) (suc n) Γ after h =
    let more = items_each items_param qs (an_outcome ∷ after) in
    let its = items_type q.type more in
    let longer = longer-type q.type more in
    let x : Scope × List Item = (more-params (with_variable Γ q.name (unplaced q.type)) qs, an_outcome ∷ after) in
    param_step (new_variable 8 Γ q.name) (known_type Γ q.type) (walk_type Γ its) more (λ m. walk_params n (with_variable Γ q.name (type_at its)) m) (λ T. check_params (with_variable Γ q.name T) qs) x (type-told Γ q.type more)
    (λ T e. ap (λ U. walk_params n (with_variable Γ q.name U) more) (type-at_told q.type more)
    ∙ params-told qs n (with_variable Γ q.name (unplaced q.type)) after (omega arith)
    ∙ ap (λ U. check_params (with_variable Γ q.name U) qs >> Ok x) (sym (known-type_is Γ q.type T e)))

-- the questions of a header by itself
abbrev pub header_part : Fun → Result (Unit {0}) Refused
header_part f = check_regions empty_scope f.regions >> (check_params (region_scope f) f.params >> (known_type (header_scope f) f.result >> Ok tt))

abbrev pub headed : Fun → List Item → Scope × List Item × List Item
headed f after = (header_scope f, items_type f.result (items_block f.body after), items_block f.body after)

last_step : {X : Type 0} (R : Result RegionType Refused) (W : Result (List Item) Refused) (m : List Item) (x : X) (k : List Item → Result X Refused) → W ≡ (R >>= (λ T. Ok m)) → k m ≡ Ok x → (W >>= k) ≡ ((R >> Ok (tt {0})) >> Ok x)
last_step (Ok T) W m x k h g = ap (λ w. w >>= k) h ∙ g
last_step (Err e) W m x k h g = ap (λ w. w >>= k) h

then-step : {X Y : Type 0} (q Q : Result (Unit {0}) Refused) (W : Result Y Refused) (y : Y) (k : Y → Result X Refused) (x : X) → W ≡ (q >> Ok y) → k y ≡ (Q >> Ok x) → (W >>= k) ≡ ((q >> Q) >> Ok x)
then-step (Ok a) Q W y k x h g = ap (λ w. w >>= k) h ∙ g
then-step (Err e) Q W y k x h g = ap (λ w. w >>= k) h

-- a header: its questions, and the scope, the result type and the block that it gives
pub header_told : (n : ℕ) (f : Fun) (after : List Item) → length (header f after) ≤ n → length (behind-regions f after) ≤ n → walk_header n empty_scope (header f after) ≡ (header_part f >> Ok (headed f after))
header_told n f after h b =
    let R = items_type f.result (items_block f.body after) in
    let Γr = more_regions empty_scope f.regions in
    let Γ = more-params (region_scope f) f.params in
    let er : Γr ≡ region_scope f = regions-are empty_scope f.regions in
    let ep : Γ ≡ header_scope f = params_are (region_scope f) f.params in
    let finish : Scope → List Item → Result (Scope × List Item × List Item) Refused = λ g o. walk_type g o >>= (λ rest. Ok (g, o, rest)) in
    then-step (check_regions empty_scope f.regions) (check_params (region_scope f) f.params >> (known_type (header_scope f) f.result >> Ok tt)) _ (region_scope f, behind-regions f after) (λ a. walk_params n a.0 a.1 >>= (λ b. walk_outcome b.1 >>= (λ o. finish b.0 o))) (headed f after)
    (regions-told empty_scope f.regions f.params R ∙ ap (λ g. check_regions empty_scope f.regions >> scope-of_and g (behind-regions f after)) er)
    (then-step (check_params (region_scope f) f.params) (known_type (header_scope f) f.result >> Ok tt) _ (header_scope f, an_outcome ∷ R) (λ b. walk_outcome b.1 >>= (λ o. finish b.0 o)) (headed f after)
    (params-told f.params n (region_scope f) R b ∙ ap (λ g. check_params (region_scope f) f.params >> scope-of_and g (an_outcome ∷ R)) ep)
    (last_step (known_type (header_scope f) f.result) _ (items_block f.body after) (headed f after) (λ rest. let t : Scope × List Item × List Item = (header_scope f, R, rest) in Ok t) (type-told (header_scope f) f.result (items_block f.body after)) refl))
