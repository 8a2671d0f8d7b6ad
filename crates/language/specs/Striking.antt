-- Striking out in the tokens of a script, and the spelling of a script without region words.
use Rattle.std.specs.Prelude.{ℕ, suc, Bool, true, false, List, [], ◌∷◌, codes}
use Rattle.lexing.specs.Tokens.{same_bytes}
use Rattle.language.specs.Spelling.{Spelled, word, word_at, block_at, list_at, name, number, key, mark, spell_list, spell_atom, op_word}
use Rattle.language.specs.Struck.{BareType, BareRight, BareBlock, BareParam, BareFun, BareScript, int, list, atom, oper, nil, cons, call, test, block, split, last, bind, print}

-- where the striking stands: it keeps what comes, strikes one name, or strikes up to the closing bracket
pub data Striking : Type 0 where
  keeping : Striking
  one_name : Striking
  to_bracket : Striking

-- a token that begins region words: `@` and `region` with the name behind them, and `[` with what is in the brackets
abbrev pub begins : Spelled → Striking
begins (word k w) = elim (same_bytes w (codes "@")) [ true ↦ one_name | false ↦ elim (same_bytes w (codes "[")) [ true ↦ to_bracket | false ↦ keeping ] ]
begins (word_at p w) = elim (same_bytes w (codes "region")) [ true ↦ one_name | false ↦ keeping ]
begins (block_at d) = keeping
begins (list_at d) = keeping
begins (name x) = keeping
begins (number p z) = keeping

-- whether a token is the closing bracket
abbrev pub closes : Spelled → Bool
closes (word k w) = same_bytes w (codes "]")
closes (word_at p w) = false
closes (block_at d) = false
closes (list_at d) = false
closes (name x) = false
closes (number p z) = false

-- the tokens without region words
abbrev pub struck_from : Striking → List Spelled → List Spelled
struck_from m [] = []
struck_from keeping (i ∷ is) = elim (begins i) [
  | keeping ↦ i ∷ struck_from keeping is
  | one_name ↦ struck_from one_name is
  | to_bracket ↦ struck_from to_bracket is
]
struck_from one_name (i ∷ is) = struck_from keeping is
struck_from to_bracket (i ∷ is) = elim (closes i) [ true ↦ struck_from keeping is | false ↦ struck_from to_bracket is ]

abbrev pub struck_tokens : List Spelled → List Spelled
struck_tokens is = struck_from keeping is

-- each spelling below is told with the entries that follow it

abbrev pub bare_spell_type : ℕ → BareType → List Spelled → List Spelled
bare_spell_type depth int after = key (codes "int") ∷ after
bare_spell_type depth (list T) after = list_at depth ∷ mark (codes "(") ∷ bare_spell_type (suc depth) T (mark (codes ")") ∷ after)

abbrev mutual
  pub bare_spell_right : ℕ → BareRight → List Spelled → List Spelled
  bare_spell_right depth (atom a) after = spell_atom a after
  bare_spell_right depth (oper p o a b) after = word_at p (op_word o) ∷ spell_atom a (spell_atom b after)
  bare_spell_right depth (nil p T) after = word_at p (codes "nil") ∷ mark (codes "(") ∷ bare_spell_type 1 T (mark (codes ")") ∷ after)
  bare_spell_right depth (cons p a b) after = word_at p (codes "cons") ∷ mark (codes "(") ∷ spell_atom a (mark (codes ",") ∷ spell_atom b (mark (codes ")") ∷ after))
  bare_spell_right depth (call p f args) after = word_at p (codes "call") ∷ name f ∷ spell_list spell_atom args after
  bare_spell_right depth (test p a b c) after = word_at p (codes "if") ∷ spell_atom a (block_at (suc depth) ∷ bare_spell_inside (suc depth) b (key (codes "else") ∷ block_at (suc depth) ∷ bare_spell_inside (suc depth) c after))
  bare_spell_right depth (block b) after = block_at (suc depth) ∷ bare_spell_inside (suc depth) b after
  bare_spell_right depth (split p a b h t c) after = word_at p (codes "case") ∷ spell_atom a (block_at (suc depth) ∷ bare_spell_inside (suc depth) b (key (codes "else") ∷ name h ∷ name t ∷ block_at (suc depth) ∷ bare_spell_inside (suc depth) c after))

  pub bare_spell_inside : ℕ → BareBlock → List Spelled → List Spelled
  bare_spell_inside depth (last a) after = spell_atom a (mark (codes "}") ∷ after)
  bare_spell_inside depth (bind x r b) after = key (codes "let") ∷ name x ∷ mark (codes "=") ∷ bare_spell_right depth r (mark (codes ";") ∷ bare_spell_inside depth b after)
  bare_spell_inside depth (print p a b) after = word_at p (codes "print") ∷ spell_atom a (mark (codes ";") ∷ bare_spell_inside depth b after)

abbrev pub bare_spell_param : BareParam → List Spelled → List Spelled
bare_spell_param q after = name q.name ∷ mark (codes ":") ∷ bare_spell_type 1 q.type after

abbrev pub bare_spell_fun : BareFun → List Spelled → List Spelled
bare_spell_fun g after =
    key (codes "fun") ∷ name g.name ∷ spell_list bare_spell_param g.params (mark (codes ":") ∷ bare_spell_type 1 g.result (block_at 1 ∷ bare_spell_inside 1 g.body after))

abbrev pub bare_spell : BareScript → List Spelled
bare_spell [] = []
bare_spell (g ∷ F) = bare_spell_fun g (bare_spell F)
