-- A script without region words is spelled by the tokens that striking out leaves.
use Rattle.std.proofs.Common.{◌≡◌, ℕ, suc, List, [], ◌∷◌, map, codes, refl, ap, ◌∙◌}
use Rattle.language.specs.Syntax.{Ident, Ty, int, list, Atom, var, num, add, sub, mul, div, rem, eq, lt, Right, atom, oper, nil, cons, call, test, region, split, Block, last, bind, print, Param, Fun}
use Rattle.language.specs.Spelling.{Spelled, word_at, block_at, list_at, name, key, mark, spell_commas, spell_name, spell_regions, spell_list, spell_type, spell_atom, spell_right, spell_inside, spell_param, spell_fun, spell}
use Rattle.language.specs.Struck.{struck_type, struck_right, struck_block, struck_param, struck_fun}
use Rattle.language.specs.Striking.{to_bracket, struck_from, struck_tokens, bare_spell_type, bare_spell_right, bare_spell_inside, bare_spell_param, bare_spell_fun}
use Rattle.language.specs.RunLaws.{StruckSpelling}

-- one entry more on both sides
before : (i : Spelled) {is js : List Spelled} → is ≡ js → i ∷ is ≡ i ∷ js
before i e = ap (λ x. i ∷ x) e

strikes_atom : (a : Atom) (after : List Spelled) → struck_tokens (spell_atom a after) ≡ spell_atom a (struck_tokens after)
strikes_atom (var x) after = refl
strikes_atom (num p z) after = refl

strikes_type : (d : ℕ) (T : Ty) (after : List Spelled) → struck_tokens (spell_type d T after) ≡ bare_spell_type d (struck_type T) (struck_tokens after)
strikes_type d int after = refl
strikes_type d (list r T) after = ap (λ x. list_at d ∷ mark (codes "(") ∷ x) (strikes_type (suc d) T (mark (codes ")") ∷ after))

-- the names in brackets are struck
strikes_names : (r : Ident) (rs : List Ident) (after : List Spelled) → struck_from to_bracket (spell_commas spell_name r rs (mark (codes "]") ∷ after)) ≡ struck_tokens after
strikes_names r [] after = refl
strikes_names r (s ∷ rs) after = strikes_names s rs after

strikes_regions : (rs : List Ident) (after : List Spelled) → struck_tokens (spell_regions rs after) ≡ struck_tokens after
strikes_regions [] after = refl
strikes_regions (r ∷ rs) after = strikes_names r rs after

strikes_atoms : (a : Atom) (xs : List Atom) (after : List Spelled) → struck_tokens (spell_commas spell_atom a xs after) ≡ spell_commas spell_atom a xs (struck_tokens after)
strikes_atoms a [] after = strikes_atom a after
strikes_atoms a (b ∷ xs) after = strikes_atom a _ ∙ ap (λ x. spell_atom a (mark (codes ",") ∷ x)) (strikes_atoms b xs after)

strikes_args : (xs : List Atom) (after : List Spelled) → struck_tokens (spell_list spell_atom xs after) ≡ spell_list spell_atom xs (struck_tokens after)
strikes_args [] after = refl
strikes_args (a ∷ xs) after = before (mark (codes "(")) (strikes_atoms a xs (mark (codes ")") ∷ after))

strikes_operands : (a b : Atom) (after : List Spelled) → struck_tokens (spell_atom a (spell_atom b after)) ≡ spell_atom a (spell_atom b (struck_tokens after))
strikes_operands a b after = strikes_atom a _ ∙ ap (spell_atom a) (strikes_atom b after)

mutual
  strikes_right : (d : ℕ) (r : Right) (after : List Spelled) → struck_tokens (spell_right d r after) ≡ bare_spell_right d (struck_right r) (struck_tokens after)
  strikes_right d (atom a) after = strikes_atom a after
  strikes_right d (oper p add a b) after = before (word_at p (codes "add")) (strikes_operands a b after)
  strikes_right d (oper p sub a b) after = before (word_at p (codes "sub")) (strikes_operands a b after)
  strikes_right d (oper p mul a b) after = before (word_at p (codes "mul")) (strikes_operands a b after)
  strikes_right d (oper p div a b) after = before (word_at p (codes "div")) (strikes_operands a b after)
  strikes_right d (oper p rem a b) after = before (word_at p (codes "rem")) (strikes_operands a b after)
  strikes_right d (oper p eq a b) after = before (word_at p (codes "eq")) (strikes_operands a b after)
  strikes_right d (oper p lt a b) after = before (word_at p (codes "lt")) (strikes_operands a b after)
  strikes_right d (nil p r T) after = ap (λ x. word_at p (codes "nil") ∷ mark (codes "(") ∷ x) (strikes_type 1 T (mark (codes ")") ∷ after))
  strikes_right d (cons p r a b) after =
      ap (λ x. word_at p (codes "cons") ∷ mark (codes "(") ∷ x) (strikes_atom a _ ∙ ap (λ x. spell_atom a (mark (codes ",") ∷ x)) (strikes_atom b (mark (codes ")") ∷ after)))
  strikes_right d (call p f rs xs) after = ap (λ x. word_at p (codes "call") ∷ name f ∷ x) (strikes_regions rs (spell_list spell_atom xs after) ∙ strikes_args xs after)
  strikes_right d (test p a b c) after =
      before (word_at p (codes "if"))
      (strikes_atom a _ ∙ ap (λ x. spell_atom a (block_at (suc d) ∷ x))
      (strikes_inside (suc d) b _ ∙ ap (λ x. bare_spell_inside (suc d) (struck_block b) (key (codes "else") ∷ block_at (suc d) ∷ x)) (strikes_inside (suc d) c after)))
  strikes_right d (region p r b) after = before (block_at (suc d)) (strikes_inside (suc d) b after)
  strikes_right d (split p a b h t c) after =
      before (word_at p (codes "case"))
      (strikes_atom a _ ∙ ap (λ x. spell_atom a (block_at (suc d) ∷ x))
      (strikes_inside (suc d) b _ ∙
      ap (λ x. bare_spell_inside (suc d) (struck_block b) (key (codes "else") ∷ name h ∷ name t ∷ block_at (suc d) ∷ x)) (strikes_inside (suc d) c after)))

  strikes_inside : (d : ℕ) (b : Block) (after : List Spelled) → struck_tokens (spell_inside d b after) ≡ bare_spell_inside d (struck_block b) (struck_tokens after)
  strikes_inside d (last a) after = strikes_atom a (mark (codes "}") ∷ after)
  strikes_inside d (bind x r b) after =
      ap (λ y. key (codes "let") ∷ name x ∷ mark (codes "=") ∷ y)
      (strikes_right d r _ ∙ ap (λ y. bare_spell_right d (struck_right r) (mark (codes ";") ∷ y)) (strikes_inside d b after))
  strikes_inside d (print p a b) after =
      before (word_at p (codes "print")) (strikes_atom a _ ∙ ap (λ x. spell_atom a (mark (codes ";") ∷ x)) (strikes_inside d b after))

strikes_param : (q : Param) (after : List Spelled) → struck_tokens (spell_param q after) ≡ bare_spell_param (struck_param q) (struck_tokens after)
strikes_param q after = ap (λ x. name q.name ∷ mark (codes ":") ∷ x) (strikes_type 1 q.type after)

strikes_params : (q : Param) (qs : List Param) (after : List Spelled) →
    struck_tokens (spell_commas spell_param q qs after) ≡ spell_commas bare_spell_param (struck_param q) (map struck_param qs) (struck_tokens after)
strikes_params q [] after = strikes_param q after
strikes_params q (p ∷ qs) after = strikes_param q _ ∙ ap (λ x. bare_spell_param (struck_param q) (mark (codes ",") ∷ x)) (strikes_params p qs after)

strikes_header : (qs : List Param) (after : List Spelled) → struck_tokens (spell_list spell_param qs after) ≡ spell_list bare_spell_param (map struck_param qs) (struck_tokens after)
strikes_header [] after = refl
strikes_header (q ∷ qs) after = before (mark (codes "(")) (strikes_params q qs (mark (codes ")") ∷ after))

strikes_fun : (g : Fun) (after : List Spelled) → struck_tokens (spell_fun g after) ≡ bare_spell_fun (struck_fun g) (struck_tokens after)
strikes_fun g after =
    ap (λ x. key (codes "fun") ∷ name g.name ∷ x)
    (strikes_regions g.regions _ ∙ strikes_header g.params _ ∙
    ap (λ x. spell_list bare_spell_param (map struck_param g.params) (mark (codes ":") ∷ x))
    (strikes_type 1 g.result _ ∙ ap (λ x. bare_spell_type 1 (struck_type g.result) (block_at 1 ∷ x)) (strikes_inside 1 g.body after)))

pub proof : StruckSpelling
proof [] = refl
proof (g ∷ F) = strikes_fun g (spell F) ∙ ap (bare_spell_fun (struck_fun g)) (proof F)
