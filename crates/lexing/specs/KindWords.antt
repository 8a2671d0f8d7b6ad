-- The words for kinds of tokens.
use Rattle.std.specs.Prelude.{ℕ, List, codes}
use Rattle.lexing.specs.declared.token.Kind.{Kind}
use Rattle.lexing.specs.declared.token.Kind.TheVariants.{End, Name, Keyword, Numeral, Mark}

-- the word for a kind of token
abbrev pub kind_word : Kind → List ℕ
kind_word End = codes "end"
kind_word Name = codes "name"
kind_word Keyword = codes "keyword"
kind_word Numeral = codes "numeral"
kind_word Mark = codes "mark"
