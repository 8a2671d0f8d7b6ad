-- Looked for among the items of a script, a function is found where the script has it.
use Rattle.std.proofs.Common.{◌≡◌, ℕ, suc, Bool, true, false, List, [], ◌∷◌, Some, Option, sym, refl, ap, ◌∙◌}
use Rattle.lexing.specs.Tokens.{same_bytes}
use Rattle.language.specs.Syntax.{Ty, int, list, Atom, var, num, Right, atom, oper, nil, cons, call, test, region, split, Block, last, bind, print, Fun, Script}
use Rattle.language.specs.Types.{Name}
use Rattle.language.specs.Scope.{find_function}
use Rattle.draft.specs.Items.{Item, an_outcome, case_names, items_type, items_atom, items_each, items_handed, items_header_region, items_right, items_block, items_param, items_fun, items_of}
use Rattle.program.specs.Compiled.{function_index}
use Rattle.resolving.specs.Walks.{functions_before, function_from}

-- what is looked for behind items that begin no function is looked for in the rest
record Same (n : Name) (xs ys : List Item) : Type 0 where
  before : functions_before n xs ≡ functions_before n ys
  from : function_from n xs ≡ function_from n ys

same : {n : Name} {xs : List Item} → Same n xs xs
same = record { before = refl; from = refl }

infixr 20 ◌then◌
◌then◌ : {n : Name} {xs ys zs : List Item} → Same n xs ys → Same n ys zs → Same n xs zs
a then b = record { before = a.before ∙ b.before; from = a.from ∙ b.from }

over_type : (n : Name) (T : Ty) (rest : List Item) → Same n (items_type T rest) rest
over_type n int rest = record { before = refl; from = refl }
over_type n (list r T) rest = let s = over_type n T rest in record { before = s.before; from = s.from }

over_atom : (n : Name) (a : Atom) (rest : List Item) → Same n (items_atom a rest) rest
over_atom n (var x) rest = record { before = refl; from = refl }
over_atom n (num p z) rest = record { before = refl; from = refl }

over_each : {A : Type 0} (n : Name) (one : A → List Item → List Item) → ((x : A) (rest : List Item) → Same n (one x rest) rest) → (xs : List A) (rest : List Item) → Same n (items_each one xs rest) rest
over_each n one h [] rest = same
over_each n one h (x ∷ xs) rest = h x (items_each one xs rest) then over_each n one h xs rest

skip : {n : Name} {xs ys zs : List Item} → functions_before n xs ≡ functions_before n ys → function_from n xs ≡ function_from n ys → Same n ys zs → Same n xs zs
skip e f s = record { before = e ∙ s.before; from = f ∙ s.from }

mutual
  over_right : (n : Name) (r : Right) (rest : List Item) → Same n (items_right r rest) rest
  over_right n (atom a) rest = over_atom n a rest
  over_right n (oper p o a b) rest = skip refl refl (over_atom n a (items_atom b rest) then over_atom n b rest)
  over_right n (nil p r T) rest = skip refl refl (over_type n T rest)
  over_right n (cons p r a b) rest = skip refl refl (over_atom n a (items_atom b rest) then over_atom n b rest)
  over_right n (call p f rs args) rest =
      skip refl refl (over_each n items_handed (λ r after. skip refl refl same) rs (items_each items_atom args rest) then over_each n items_atom (over_atom n) args rest)
  over_right n (test p a b c) rest = skip refl refl (over_atom n a _ then (over_block n b (items_block c rest) then over_block n c rest))
  over_right n (region p r b) rest = skip refl refl (over_block n b rest)
  over_right n (split p a b x y c) rest = skip refl refl (over_atom n a _ then (over_block n b (case_names x y ∷ items_block c rest) then skip refl refl (over_block n c rest)))

  over_block : (n : Name) (b : Block) (rest : List Item) → Same n (items_block b rest) rest
  over_block n (last a) rest = skip refl refl (over_atom n a rest)
  over_block n (bind x r b) rest = skip refl refl (over_right n r (items_block b rest) then over_block n b rest)
  over_block n (print p a b) rest = skip refl refl (over_atom n a _ then over_block n b rest)

-- the items of a function behind its first
abbrev behind-name : Fun → List Item → List Item
behind-name f rest = items_each items_header_region f.regions (items_each items_param f.params (an_outcome ∷ items_type f.result (items_block f.body rest)))

over_fun : (n : Name) (f : Fun) (rest : List Item) → Same n (behind-name f rest) rest
over_fun n f rest =
    over_each n items_header_region (λ r after. skip refl refl same) f.regions _ then
    (over_each n items_param (λ q after. skip refl refl (over_type n q.type after)) f.params _ then
    skip refl refl (over_type n f.result (items_block f.body rest) then over_block n f.body rest))

pub record Scanned (F : Script) (n : Name) (f : Fun) : Type 0 where
  pub index : functions_before n (items_of F) ≡ function_index F n
  pub rest : List Item
  pub header : function_from n (items_of F) ≡ items_fun f rest

pub scanned : (F : Script) (n : Name) (f : Fun) → find_function F n ≡ Some f → Scanned F n f
scanned [] n f e = absurd (cc)
scanned (g ∷ F) n f e = go (same_bytes g.name.name n) refl e (scanned F n f)
  where
    go : (b : Bool) → same_bytes g.name.name n ≡ b → ◌≡◌ {A = Option Fun} (elim b [ true ↦ Some g | false ↦ find_function F n ]) (Some f) → (find_function F n ≡ Some f → Scanned F n f) → Scanned (g ∷ F) n f
    go true t s later =
        let found : g ≡ f = cc in
        record {
          index = ap (λ (v : Bool). elim v as (λ _. ℕ) [ true ↦ 0 | false ↦ suc (functions_before n (behind-name g (items_of F))) ]) t ∙
              sym (ap (λ (v : Bool). elim v as (λ _. ℕ) [ true ↦ 0 | false ↦ suc (function_index F n) ]) t);
          rest = items_of F;
          header = ap (λ (v : Bool). elim v as (λ _. List Item) [ true ↦ items_fun g (items_of F) | false ↦ function_from n (behind-name g (items_of F)) ]) t ∙ ap (λ (h : Fun). items_fun h (items_of F)) found;
        }
    go false t s later =
        let k = later s in
        let o = over_fun n g (items_of F) in
        record {
          index = ap (λ (v : Bool). elim v as (λ _. ℕ) [ true ↦ 0 | false ↦ suc (functions_before n (behind-name g (items_of F))) ]) t ∙ ap suc (o.before ∙ k.index) ∙
              sym (ap (λ (v : Bool). elim v as (λ _. ℕ) [ true ↦ 0 | false ↦ suc (function_index F n) ]) t);
          rest = k.rest;
          header = ap (λ (v : Bool). elim v as (λ _. List Item) [ true ↦ items_fun g (items_of F) | false ↦ function_from n (behind-name g (items_of F)) ]) t ∙ o.from ∙ k.header;
        }
