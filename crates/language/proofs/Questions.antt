-- Every script is answered: by itself, or by a refusal that one of the questions 8 to 16 gives.
use Rattle.std.proofs.Common.{◌≡◌, ℕ, ◌≤◌, Bool, true, false, not, ltb, ◌⊎◌, List, [], ◌∷◌, ◌++◌, length, is_some, Some, None, Ok, Err, codes, Option, Result, refl, inl, inr, arith}
use Rattle.language.specs.Verdict.{Refused}
use Rattle.language.specs.Syntax.{Ident, Ty, Atom, var, num, Right, atom, oper, nil, cons, call, test, region, split, Block, last, bind, print, Param, Fun, Script}
use Rattle.language.specs.Types.{RegionType, int, list}
use Rattle.language.specs.Scope.{most_functions, most_params, most_regions, most_variables, Scope, find_variable, find_region, find_function, with_variable, with_region, region_scope, header_scope, empty_scope}
use Rattle.language.specs.Typing.{needed}
use Rattle.language.specs.TypingLaws.{AnswersEveryScript}
use Rattle.language.specs.Checking.{◌>>=◌, ◌>>◌, ask, found, known_regions, known_type, new_region, new_variable, type_atom, need, need_all, element, type_right, type_block, check_regions, check_params, check_header, check_headers, main_like, check_main, check_bodies}

-- an answer that is no refusal, or a refusal by one of those questions
data Asked {A : Type 0} : Result A Refused → Type 0 where
  passed : {x : A} → Asked (Ok x)
  refused : {e : Refused} → 8 ≤ e.number → e.number ≤ 16 → Asked (Err e)

and_then : {A B : Type 0} {m : Result A Refused} (k : A → Result B Refused) → Asked m → ((x : A) → Asked (k x)) → Asked (m >>= k)
and_then k (passed {x = x}) h = h x
and_then k (refused low high) h = refused low high

and_also : {A B : Type 0} {m : Result A Refused} {r : Result B Refused} → Asked m → Asked r → Asked (m >> r)
and_also passed h = h
and_also (refused low high) h = refused low high

asks : (b : Bool) (n p : ℕ) → 8 ≤ n → n ≤ 16 → Asked (ask b n p)
asks true n p low high = passed
asks false n p low high = refused low high

finds : {A : Type 0} (o : Option A) (p : ℕ) → Asked (found o p)
finds (Some x) p = passed
finds None p = refused (omega arith) (omega arith)

known-asks : (Γ : Scope) (rs : List Ident) → Asked (known_regions Γ rs)
known-asks Γ [] = passed
known-asks Γ (r ∷ rs) = and_also (finds (find_region Γ r.name) r.place) (known-asks Γ rs)

type-asks : (Γ : Scope) (t : Ty) → Asked (known_type Γ t)
type-asks Γ Ty.int = passed
type-asks Γ (Ty.list r t) = and_also (finds (find_region Γ r.name) r.place) (and_then _ (type-asks Γ t) (λ T. passed))

region-asks : (Γ : Scope) (r : Ident) → Asked (new_region Γ r)
region-asks Γ r = and_also (asks (ltb (length Γ.regions) most_regions) 10 r.place (omega arith) (omega arith)) (asks (not (is_some (find_region Γ r.name))) 12 r.place (omega arith) (omega arith))

variable-asks : (most : ℕ) (Γ : Scope) (x : Ident) → Asked (new_variable most Γ x)
variable-asks most Γ x = and_also (asks (ltb (length Γ.variables) most) 10 x.place (omega arith) (omega arith)) (asks (not (is_some (find_variable Γ x.name))) 12 x.place (omega arith) (omega arith))

atom-asks : (Γ : Scope) (a : Atom) → Asked (type_atom Γ a)
atom-asks Γ (var x) = and_then _ (finds (find_variable Γ x.name) x.place) (λ v. passed)
atom-asks Γ (num p z) = passed

need-asks : (Γ : Scope) (a : Atom) (T : RegionType) → Asked (need Γ a T)
need-asks Γ a T = and_then _ (atom-asks Γ a) (λ U. asks _ 13 _ (omega arith) (omega arith))

needs_ask : (Γ : Scope) (args : List Atom) (Ts : List RegionType) → Asked (need_all Γ args Ts)
needs_ask Γ [] Ts = passed
needs_ask Γ (a ∷ args) [] = passed
needs_ask Γ (a ∷ args) (T ∷ Ts) = and_also (need-asks Γ a T) (needs_ask Γ args Ts)

element-asks : (L : RegionType) (p : ℕ) → Asked (element L p)
element-asks int p = refused (omega arith) (omega arith)
element-asks (list r S) p = passed

mutual
  right_asks : (F : Script) (Γ : Scope) (r : Right) → Asked (type_right F Γ r)
  right_asks F Γ (atom a) = atom-asks Γ a
  right_asks F Γ (oper p o a b) = and_also (need-asks Γ a int) (and_also (need-asks Γ b int) passed)
  right_asks F Γ (nil p r t) =
      and_also (finds (find_region Γ r.name) r.place) (and_then _ (type-asks Γ t) (λ T. and_also (asks _ 15 p (omega arith) (omega arith)) passed))
  right_asks F Γ (cons p r a b) =
      and_also (finds (find_region Γ r.name) r.place) (and_then _ (atom-asks Γ a) (λ T. and_also (need-asks Γ b (list r.name T)) passed))
  right_asks F Γ (call p g rs args) =
      and_then _ (finds (find_function F g.name) g.place)
      (λ f. and_also (asks _ 16 g.place (omega arith) (omega arith)) (and_also (known-asks Γ rs) (and_also (needs_ask Γ args (needed f rs)) passed)))
  right_asks F Γ (test p a b c) =
      and_also (need-asks Γ a int) (and_then _ (block_asks F Γ b) (λ T. and_then _ (block_asks F Γ c) (λ U. and_also (asks _ 13 _ (omega arith) (omega arith)) passed)))
  right_asks F Γ (region p r b) =
      and_also (region-asks Γ r) (and_then _ (block_asks F (with_region Γ r) b) (λ T. and_also (asks _ 14 _ (omega arith) (omega arith)) passed))
  right_asks F Γ (split p a b x y c) =
      and_then _ (atom-asks Γ a) (λ L. and_then _ (element-asks L _) (λ e. and_then _ (block_asks F Γ b) (λ T.
      and_also (variable-asks most_variables Γ x) (and_also (variable-asks most_variables (with_variable Γ x e.1) y)
      (and_then _ (block_asks F (with_variable (with_variable Γ x e.1) y L) c) (λ U. and_also (asks _ 13 _ (omega arith) (omega arith)) passed))))))

  block_asks : (F : Script) (Γ : Scope) (b : Block) → Asked (type_block F Γ b)
  block_asks F Γ (last a) = atom-asks Γ a
  block_asks F Γ (bind x r b) = and_also (variable-asks most_variables Γ x) (and_then _ (right_asks F Γ r) (λ S. block_asks F (with_variable Γ x S) b))
  block_asks F Γ (print p a b) = and_also (need-asks Γ a int) (block_asks F Γ b)

regions-ask : (Γ : Scope) (rs : List Ident) → Asked (check_regions Γ rs)
regions-ask Γ [] = passed
regions-ask Γ (r ∷ rs) = and_also (region-asks Γ r) (regions-ask (with_region Γ r) rs)

params-ask : (Γ : Scope) (qs : List Param) → Asked (check_params Γ qs)
params-ask Γ [] = passed
params-ask Γ (q ∷ qs) = and_also (variable-asks most_params Γ q.name) (and_then _ (type-asks Γ q.type) (λ T. params-ask (with_variable Γ q.name T) qs))

header_asks : (G : Script) (f : Fun) → Asked (check_header G f)
header_asks G f =
    and_also (asks (not (is_some (find_function G f.name.name))) 8 f.name.place (omega arith) (omega arith)) (and_also (asks (ltb (length G) most_functions) 10 f.name.place (omega arith) (omega arith))
    (and_also (regions-ask empty_scope f.regions) (and_also (params-ask (region_scope f) f.params) (and_also (type-asks (header_scope f) f.result) passed))))

headers-ask : (G fs : Script) → Asked (check_headers G fs)
headers-ask G [] = passed
headers-ask G (f ∷ fs) = and_also (header_asks G f) (headers-ask (G ++ (f ∷ [])) fs)

main-asks : (end : ℕ) (o : Option Fun) → Asked (check_main end o)
main-asks end (Some f) = asks (main_like f) 9 f.name.place (omega arith) (omega arith)
main-asks end None = refused (omega arith) (omega arith)

bodies-ask : (F fs : Script) → Asked (check_bodies F fs)
bodies-ask F [] = passed
bodies-ask F (f ∷ fs) = and_also (and_then _ (block_asks F (header_scope f) f.body) (λ T. asks _ 13 _ (omega arith) (omega arith))) (bodies-ask F fs)

-- what is passed on behind answers is the script
settled : {A B C : Type 0} (F : Script) (m : Result A Refused) (n : Result B Refused) (o : Result C Refused) → Asked m → Asked n → Asked o →
    ((m >> n >> o >> Ok F) ≡ Ok F) ⊎ ((e : Refused) × ((m >> n >> o >> Ok F) ≡ Err e) × (8 ≤ e.number) × (e.number ≤ 16))
settled F m n o passed passed passed = inl refl
settled F m n o (refused {e = e} low high) h k = inr (e, refl, low, high)
settled F m n o passed (refused {e = e} low high) k = inr (e, refl, low, high)
settled F m n o passed passed (refused {e = e} low high) = inr (e, refl, low, high)

pub answers_every_script : AnswersEveryScript
answers_every_script end F =
    let main = find_function F (codes "main") in
    settled F (check_headers [] F) (check_main end main) (check_bodies F F) (headers-ask [] F) (main-asks end main) (bodies-ask F F)
