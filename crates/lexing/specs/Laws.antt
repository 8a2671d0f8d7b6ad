-- What tokens are, said without the order in which they are looked for: the laws of one token and of a whole text.
use Rattle.std.specs.Prelude.{◌≡◌, ℕ, ◌+◌, ◌<◌, ◌≤◌, Bool, true, false, ◌&&◌, ◌⊎◌, List, [], ◌∷◌, ◌++◌, length, map, is_some, Ok, Err, Result}
use Rattle.lexing.specs.declared.token.Kind.{Kind}
use Rattle.lexing.specs.declared.token.Kind.TheVariants.{End, Name, Keyword, Numeral, Mark}
use Rattle.lexing.specs.declared.fault.Question.{Question}
use Rattle.lexing.specs.declared.fault.Question.TheVariants.{TextLength, FirstByte, NumeralFits, NameLength, TokenCount}
use Rattle.lexing.specs.Classes.{blank, letter, digit, mark, minus, word_byte, letter_like}
use Rattle.lexing.specs.Runs.{begins, every}
use Rattle.lexing.specs.Numerals.{decimal, bound, digits, number_of}
use Rattle.lexing.specs.Tokens.{Lexeme, Refusal, keyword}
use Rattle.lexing.specs.Texts.{at_end, behind}
use Rattle.lexing.specs.Answers.{counted}

-- a word with the text behind it: it begins with a letter and is as long as possible
pub record Word (bytes rest : List ℕ) : Type 0 where
  pub first : begins letter bytes ≡ true
  pub all : every word_byte bytes ≡ true
  pub longest : begins word_byte rest ≡ false

-- a token of a kind, by its bytes, with the text behind it
abbrev pub Fits : Kind → List ℕ → List ℕ → Type 0
Fits End bytes rest = (bytes ≡ []) × (rest ≡ [])
Fits Name bytes rest = Word bytes rest × (keyword bytes ≡ false) × (length bytes ≤ 24)
Fits Keyword bytes rest = Word bytes rest × (keyword bytes ≡ true)
Fits Numeral bytes rest = (is_some (number_of bytes) ≡ true) × (begins digit rest ≡ false) × (begins letter_like rest ≡ false)
Fits Mark bytes rest = (length bytes ≡ 1) × (every mark bytes ≡ true)

-- a text that stands `offset` bytes into the whole begins with a token: blanks, the token and the rest are the text
pub record Begins (offset : ℕ) (s : List ℕ) (t : Lexeme) (rest : List ℕ) : Type 0 where
  pub blanks : List ℕ
  pub blank_all : every blank blanks ≡ true
  pub whole : blanks ++ (t.bytes ++ rest) ≡ s
  pub place : t.place ≡ offset + length blanks
  pub fits : Fits t.kind t.bytes rest

-- digits, with a minus (byte 45) before them or none
abbrev pub written : Bool → List ℕ → List ℕ
written true ds = 45 ∷ ds
written false ds = ds

-- a first byte that begins nothing: no blank, letter, digit or mark, and no minus with a digit behind it
abbrev pub Stray : List ℕ → Type 0
Stray [] = ⊥
Stray (b ∷ bs) = (blank b ≡ false) × (letter b ≡ false) × (digit b ≡ false) × (mark b ≡ false) × ((minus b && begins digit bs) ≡ false)

-- digits, as many as there are, with a minus or none, that are too big a number or have a letter or an underscore directly behind them
pub record Unfit (body : List ℕ) : Type 0 where
  pub negative : Bool
  pub ds : List ℕ
  pub rest : List ℕ
  pub whole : written negative ds ++ rest ≡ body
  pub some : digits ds ≡ true
  pub longest : begins digit rest ≡ false
  pub wrong : (begins letter_like rest ≡ true) ⊎ (bound negative < decimal 0 ds)

-- a word that is no keyword and too long for a name
pub record Overlong (body : List ℕ) : Type 0 where
  pub bytes : List ℕ
  pub rest : List ℕ
  pub whole : bytes ++ rest ≡ body
  pub word : Word bytes rest
  pub no_keyword : keyword bytes ≡ false
  pub long : 24 < length bytes

-- what stands where a question about one token fails; the other questions are not about one token
pub data Fails : Question → List ℕ → Type 0 where
  first_byte : {body : List ℕ} → Stray body → Fails FirstByte body
  numeral_fits : {body : List ℕ} → Unfit body → Fails NumeralFits body
  name_length : {body : List ℕ} → Overlong body → Fails NameLength body

-- a text that stands `offset` bytes into the whole begins with no token: behind its blanks a question fails
pub record Refused (offset : ℕ) (s : List ℕ) (e : Refusal) : Type 0 where
  pub blanks : List ℕ
  pub body : List ℕ
  pub blank_all : every blank blanks ≡ true
  pub whole : blanks ++ body ≡ s
  pub place : e.place ≡ offset + length blanks
  pub fails : Fails e.question body

-- a right answer for the token at the front
abbrev pub Right : ℕ → List ℕ → Result (Lexeme × List ℕ) Refusal → Type 0
Right offset s (Ok (t, rest)) = Begins offset s t rest
Right offset s (Err e) = Refused offset s e

-- whether an answer is the end
abbrev pub ended : Result (Lexeme × List ℕ) Refusal → Bool
ended (Ok (t, rest)) = at_end t.kind
ended (Err e) = false

-- the law of one token: the answer is right, no other answer is, and it is the end exactly where only blanks are left
pub record First (offset : ℕ) (s : List ℕ) (a : Result (Lexeme × List ℕ) Refusal) : Type 0 where
  pub right : Right offset s a
  pub only : (b : Result (Lexeme × List ℕ) Refusal) → Right offset s b → b ≡ a
  pub end : ended a ≡ every blank s

-- a text at one offset is read token by token, none of them the end, and what is left stands at another offset
abbrev pub Walk : ℕ → List ℕ → List Lexeme → ℕ → List ℕ → Type 0
Walk offset s [] last left = (offset ≡ last) × (s ≡ left)
Walk offset s (t ∷ ts) last left = (rest : List ℕ) × Begins offset s t rest × (at_end t.kind ≡ false) × Walk (behind t) rest ts last left

-- a whole text that is these tokens: at most 16,384 bytes, at most 4,096 tokens, and only blanks behind them
pub record Reads (s : List ℕ) (ts : List Lexeme) : Type 0 where
  pub short : length s ≤ 16384
  pub few : length ts ≤ 4096
  pub last : ℕ
  pub left : List ℕ
  pub walk : Walk 0 s ts last left
  pub blank_all : every blank left ≡ true

-- one token more than may be: as many as may be are read, and another one stands next
pub record Surplus (room : ℕ) (ts : List Lexeme) (last : ℕ) (left : List ℕ) (e : Refusal) : Type 0 where
  pub full : length ts ≡ room
  pub another : Lexeme
  pub rest : List ℕ
  pub next : Begins last left another rest
  pub no_end : at_end another.kind ≡ false
  pub refused : e ≡ record { question = TokenCount; place = another.place }

-- a text of which the tokens so far are read, at most `room` of them: the next is refused, or there is one more than may be
pub record Stopped (room offset : ℕ) (s : List ℕ) (e : Refusal) : Type 0 where
  pub ts : List Lexeme
  pub last : ℕ
  pub left : List ℕ
  pub walk : Walk offset s ts last left
  pub few : length ts ≤ room
  pub why : Refused last left e ⊎ Surplus room ts last left e

-- a whole text that is refused: it is too long, or it is read up to a place where a question fails
abbrev pub Stops : List ℕ → Refusal → Type 0
Stops s e = ((16384 < length s) × (e ≡ record { question = TextLength; place = 0 })) ⊎ ((length s ≤ 16384) × Stopped 4096 0 s e)

-- a right answer for a whole text
abbrev pub Whole : List ℕ → Result (List Lexeme) Refusal → Type 0
Whole s (Ok ts) = Reads s ts
Whole s (Err e) = Stops s e

-- the law of a whole text, for an answer that counts its tokens: it counts the one right answer
pub record Scanned (s : List ℕ) (n : Result ℕ Refusal) : Type 0 where
  pub tokens : Result (List Lexeme) Refusal
  pub right : Whole s tokens
  pub only : (b : Result (List Lexeme) Refusal) → Whole s b → b ≡ tokens
  pub count : n ≡ counted tokens

-- the law of the tokens that come of a text one after another: where the text is some tokens, those come
abbrev pub Streamed : List ℕ → List (Result Lexeme Refusal) → Type 0
Streamed s xs = (ts : List Lexeme) → Reads s ts → xs ≡ map Ok ts
