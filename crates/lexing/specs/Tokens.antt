-- The token at the front of a text.
use Rattle.std.specs.Prelude.{ℕ, suc, ◌+◌, Bool, true, false, List, [], ◌∷◌, length, take, drop, is_some, Ok, Err, codes, Result, ◌==◌, nat_le}
use Rattle.lexing.specs.declared.token.Kind.{Kind}
use Rattle.lexing.specs.declared.token.Kind.TheVariants.{End, Name, Keyword, Numeral, Mark}
use Rattle.lexing.specs.declared.fault.Question.{Question}
use Rattle.lexing.specs.declared.fault.Question.TheVariants.{FirstByte, NumeralFits, NameLength}
use Rattle.lexing.specs.Classes.{blank, letter, digit, mark, minus, word_byte, letter_like}
use Rattle.lexing.specs.Runs.{run, begins}
use Rattle.lexing.specs.Numerals.{number_of}

-- a token: its kind, its place in the text, and its bytes
pub record Lexeme : Type 0 where
  pub kind : Kind
  pub place : ℕ
  pub bytes : List ℕ

-- a refusal: the question that fails, and its place in the text
pub record Refusal : Type 0 where
  pub question : Question
  pub place : ℕ

-- whether two lists of bytes are the same
abbrev pub same_bytes : List ℕ → List ℕ → Bool
same_bytes [] [] = true
same_bytes [] (b ∷ bs) = false
same_bytes (a ∷ bs) [] = false
same_bytes (a ∷ bs) (b ∷ cs) = elim (a == b) [ true ↦ same_bytes bs cs | false ↦ false ]

-- whether a list of bytes is one of several
abbrev pub one_of : List (List ℕ) → List ℕ → Bool
one_of [] w = false
one_of (k ∷ ks) w = elim (same_bytes k w) [ true ↦ true | false ↦ one_of ks w ]

abbrev pub keywords : List (List ℕ)
keywords =
    codes "fun" ∷ codes "let" ∷ codes "print" ∷ codes "if" ∷ codes "else" ∷ codes "region" ∷ codes "case" ∷ codes "call" ∷ codes "list" ∷
    codes "nil" ∷ codes "cons" ∷ codes "int" ∷ codes "add" ∷ codes "sub" ∷ codes "mul" ∷ codes "div" ∷ codes "rem" ∷ codes "eq" ∷ codes "lt" ∷ []

abbrev pub keyword : List ℕ → Bool
keyword w = one_of keywords w

-- the kind of a word: keywords are no names, and a name has at most 24 bytes
abbrev pub word_kind : List ℕ → Result Kind Question
word_kind w = elim (keyword w) [ true ↦ Ok Keyword | false ↦ elim (nat_le (length w) 24) [ true ↦ Ok Name | false ↦ Err NameLength ] ]

-- the kind of a numeral: it means a number of 32 signed bits, and no letter or underscore follows it
abbrev pub numeral_kind : List ℕ → List ℕ → Result Kind Question
numeral_kind n rest = elim (begins letter_like rest) [ true ↦ Err NumeralFits | false ↦ elim (is_some (number_of n)) [ true ↦ Ok Numeral | false ↦ Err NumeralFits ] ]

-- how many bytes the numeral at the front has: an optional minus and as many digits as there are
abbrev pub numeral_width : List ℕ → ℕ
numeral_width [] = 0
numeral_width (b ∷ bs) = elim (minus b) [ true ↦ suc (run digit bs) | false ↦ run digit (b ∷ bs) ]

-- whether a numeral begins here: a digit, or a minus with a digit behind it
abbrev pub numeral_begins : List ℕ → Bool
numeral_begins [] = false
numeral_begins (b ∷ bs) = elim (minus b) [ true ↦ begins digit bs | false ↦ digit b ]

-- how many bytes the token at the front has, where no blank stands before it: none at the end and where no token begins
abbrev pub width : List ℕ → ℕ
width [] = 0
width (b ∷ bs) = elim (letter b) [
  | true ↦ run word_byte (b ∷ bs)
  | false ↦ elim (numeral_begins (b ∷ bs)) [ true ↦ numeral_width (b ∷ bs) | false ↦ elim (mark b) [ true ↦ 1 | false ↦ 0 ] ]
]

-- the kind of the token at the front, where no blank stands before it, or the question that fails
abbrev pub kind_of : List ℕ → Result Kind Question
kind_of [] = Ok End
kind_of (b ∷ bs) = elim (letter b) [
  | true ↦ word_kind (take (width (b ∷ bs)) (b ∷ bs))
  | false ↦ elim (numeral_begins (b ∷ bs)) [
    | true ↦ numeral_kind (take (width (b ∷ bs)) (b ∷ bs)) (drop (width (b ∷ bs)) (b ∷ bs))
    | false ↦ elim (mark b) [ true ↦ Ok Mark | false ↦ Err FirstByte ]
  ]
]

-- the text behind its first blanks
abbrev pub unblanked : List ℕ → List ℕ
unblanked s = drop (run blank s) s

-- the token of a kind at the front of a text, with the text behind it; the text stands `offset` bytes into the whole
abbrev pub cut : ℕ → List ℕ → Kind → Lexeme × List ℕ
cut offset s k = (record { kind = k; place = offset + run blank s; bytes = take (width (unblanked s)) (unblanked s) }, drop (width (unblanked s)) (unblanked s))

-- the token at the front of a text that stands `offset` bytes into the whole, with the text behind it, or the refusal
abbrev pub token_at : ℕ → List ℕ → Result (Lexeme × List ℕ) Refusal
token_at offset s = elim (kind_of (unblanked s)) [ Ok k ↦ Ok (cut offset s k) | Err q ↦ Err (record { question = q; place = offset + run blank s }) ]
