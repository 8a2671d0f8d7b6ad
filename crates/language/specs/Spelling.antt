-- The spelling of a script: the tokens that its text has, one after the other.
use Rattle.std.specs.Prelude.{◌≡◌, ℕ, suc, List, [], ◌∷◌, ℤ, Some, codes}
use Rattle.lexing.specs.declared.token.Kind.{Kind}
use Rattle.lexing.specs.declared.token.Kind.TheVariants.{Name, Keyword, Numeral, Mark}
use Rattle.lexing.specs.Tokens.{Lexeme}
use Rattle.lexing.specs.Numerals.{number_of}
use Rattle.language.specs.Syntax.{Ident, Ty, int, list, Atom, var, num, Op, add, sub, mul, div, rem, eq, lt, Right, atom, oper, nil, cons, call, test, region, split, Block, last, bind, print, Param, Fun, Script}

-- what a token of a spelling is: a keyword or a mark, a keyword at its place, the `{` of a block or the `list` of a type nested so deep, a name, or a number at its place
pub data Spelled : Type 0 where
  word : Kind → List ℕ → Spelled
  word_at : ℕ → List ℕ → Spelled
  block_at : ℕ → Spelled
  list_at : ℕ → Spelled
  name : Ident → Spelled
  number : ℕ → ℤ → Spelled

-- a token of a kind, with these bytes
abbrev pub Is : Kind → List ℕ → Lexeme → Type 0
Is k w t = (t.kind ≡ k) × (t.bytes ≡ w)

-- which tokens an entry of a spelling stands for; a numeral may be written with leading zeros
abbrev pub Fits : Spelled → Lexeme → Type 0
Fits (word k w) t = Is k w t
Fits (word_at p w) t = (t.place ≡ p) × Is Keyword w t
Fits (block_at depth) t = Is Mark (codes "{") t
Fits (list_at depth) t = Is Keyword (codes "list") t
Fits (name x) t = (t.place ≡ x.place) × Is Name x.name t
Fits (number p n) t = (t.place ≡ p) × (t.kind ≡ Numeral) × (number_of t.bytes ≡ Some n)

-- tokens that fit the entries, one by one
pub data Matches : List Lexeme → List Spelled → Type 0 where
  none : Matches [] []
  more : {t : Lexeme} {ts : List Lexeme} {i : Spelled} {is : List Spelled} → Fits i t → Matches ts is → Matches (t ∷ ts) (i ∷ is)

abbrev pub key : List ℕ → Spelled
key w = word Keyword w

abbrev pub mark : List ℕ → Spelled
mark w = word Mark w

-- each spelling below is told with the entries that follow it

-- the elements with commas between them, one at least
abbrev pub spell_commas : {A : Type 0} → (A → List Spelled → List Spelled) → A → List A → List Spelled → List Spelled
spell_commas spell x [] after = spell x after
spell_commas spell x (y ∷ ys) after = spell x (mark (codes ",") ∷ spell_commas spell y ys after)

abbrev pub spell_name : Ident → List Spelled → List Spelled
spell_name x after = name x ∷ after

-- no bracket around no region
abbrev pub spell_regions : List Ident → List Spelled → List Spelled
spell_regions [] after = after
spell_regions (r ∷ rs) after = mark (codes "[") ∷ spell_commas spell_name r rs (mark (codes "]") ∷ after)

-- a list in parentheses, which may be empty, and what stands behind the opening one
abbrev pub spell_elements : {A : Type 0} → (A → List Spelled → List Spelled) → List A → List Spelled → List Spelled
spell_elements spell [] after = mark (codes ")") ∷ after
spell_elements spell (x ∷ xs) after = spell_commas spell x xs (mark (codes ")") ∷ after)

abbrev pub spell_list : {A : Type 0} → (A → List Spelled → List Spelled) → List A → List Spelled → List Spelled
spell_list spell xs after = mark (codes "(") ∷ spell_elements spell xs after

-- a type whose outermost `list`, if it has one, is the `depth`-th one around
abbrev pub spell_type : ℕ → Ty → List Spelled → List Spelled
spell_type depth int after = key (codes "int") ∷ after
spell_type depth (list r T) after = list_at depth ∷ mark (codes "@") ∷ name r ∷ mark (codes "(") ∷ spell_type (suc depth) T (mark (codes ")") ∷ after)

abbrev pub spell_atom : Atom → List Spelled → List Spelled
spell_atom (var x) after = name x ∷ after
spell_atom (num p n) after = number p n ∷ after

abbrev pub op_word : Op → List ℕ
op_word add = codes "add"
op_word sub = codes "sub"
op_word mul = codes "mul"
op_word div = codes "div"
op_word rem = codes "rem"
op_word eq = codes "eq"
op_word lt = codes "lt"

-- a right side in a block that is nested `depth` deep, and the inside of such a block with its closing brace
abbrev mutual
  pub spell_right : ℕ → Right → List Spelled → List Spelled
  spell_right depth (atom a) after = spell_atom a after
  spell_right depth (oper p o a b) after = word_at p (op_word o) ∷ spell_atom a (spell_atom b after)
  spell_right depth (nil p r T) after = word_at p (codes "nil") ∷ mark (codes "@") ∷ name r ∷ mark (codes "(") ∷ spell_type 1 T (mark (codes ")") ∷ after)
  spell_right depth (cons p r a b) after = word_at p (codes "cons") ∷ mark (codes "@") ∷ name r ∷ mark (codes "(") ∷ spell_atom a (mark (codes ",") ∷ spell_atom b (mark (codes ")") ∷ after))
  spell_right depth (call p f rs args) after = word_at p (codes "call") ∷ name f ∷ spell_regions rs (spell_list spell_atom args after)
  spell_right depth (test p a b c) after = word_at p (codes "if") ∷ spell_atom a (block_at (suc depth) ∷ spell_inside (suc depth) b (key (codes "else") ∷ block_at (suc depth) ∷ spell_inside (suc depth) c after))
  spell_right depth (region p r b) after = word_at p (codes "region") ∷ name r ∷ block_at (suc depth) ∷ spell_inside (suc depth) b after
  spell_right depth (split p a b h t c) after = word_at p (codes "case") ∷ spell_atom a (block_at (suc depth) ∷ spell_inside (suc depth) b (key (codes "else") ∷ name h ∷ name t ∷ block_at (suc depth) ∷ spell_inside (suc depth) c after))

  pub spell_inside : ℕ → Block → List Spelled → List Spelled
  spell_inside depth (last a) after = spell_atom a (mark (codes "}") ∷ after)
  spell_inside depth (bind x r b) after = key (codes "let") ∷ name x ∷ mark (codes "=") ∷ spell_right depth r (mark (codes ";") ∷ spell_inside depth b after)
  spell_inside depth (print p a b) after = word_at p (codes "print") ∷ spell_atom a (mark (codes ";") ∷ spell_inside depth b after)

-- a block that is nested `depth` deep
abbrev pub spell_block : ℕ → Block → List Spelled → List Spelled
spell_block depth b after = block_at depth ∷ spell_inside depth b after

abbrev pub spell_param : Param → List Spelled → List Spelled
spell_param p after = name p.name ∷ mark (codes ":") ∷ spell_type 1 p.type after

abbrev pub spell_fun : Fun → List Spelled → List Spelled
spell_fun f after = key (codes "fun") ∷ name f.name ∷ spell_regions f.regions (spell_list spell_param f.params (mark (codes ":") ∷ spell_type 1 f.result (spell_block 1 f.body after)))

abbrev pub spell : Script → List Spelled
spell [] = []
spell (f ∷ fs) = spell_fun f (spell fs)

-- tokens are the spelling of a script, which has one function at least
abbrev pub Spells : List Lexeme → Script → Type 0
Spells ts [] = ⊥
Spells ts (f ∷ fs) = Matches ts (spell (f ∷ fs))
