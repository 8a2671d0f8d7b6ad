-- The tokens of a whole text.
use Rattle.std.specs.Prelude.{ℕ, zero, suc, ◌+◌, Bool, true, false, List, [], ◌∷◌, length, Ok, Err, Result, nat_le}
use Rattle.lexing.specs.declared.token.Kind.{Kind}
use Rattle.lexing.specs.declared.token.Kind.TheVariants.{End, Name, Keyword, Numeral, Mark}
use Rattle.lexing.specs.declared.fault.Question.TheVariants.{TextLength, TokenCount}
use Rattle.lexing.specs.Tokens.{Lexeme, Refusal, token_at}

-- one token before the others, if they are tokens
abbrev pub before : Lexeme → Result (List Lexeme) Refusal → Result (List Lexeme) Refusal
before t (Ok ts) = Ok (t ∷ ts)
before t (Err e) = Err e

abbrev pub at_end : Kind → Bool
at_end End = true
at_end Name = false
at_end Keyword = false
at_end Numeral = false
at_end Mark = false

-- where the text behind a token stands in the whole
abbrev pub behind : Lexeme → ℕ
behind t = t.place + length t.bytes

-- the tokens from one on: none at the end, a refusal where there is room for none, else that one and those behind it
abbrev pub from_one : (ℕ → ℕ → List ℕ → Result (List Lexeme) Refusal) → ℕ → Result (Lexeme × List ℕ) Refusal → Result (List Lexeme) Refusal
from_one others room (Err e) = Err e
from_one others room (Ok (t, rest)) = elim (at_end t.kind) [
  | true ↦ Ok []
  | false ↦ elim room [ zero ↦ Err (record { question = TokenCount; place = t.place }) | suc more ↦ before t (others more (behind t) rest) ]
]

-- the tokens from `offset` on, of which there may be `room`; each takes a byte at least, so that `steps` is no limit where it is above the length
abbrev pub tokens_from : ℕ → ℕ → ℕ → List ℕ → Result (List Lexeme) Refusal
tokens_from zero room offset s = Ok []
tokens_from (suc steps) room offset s = from_one (tokens_from steps) room (token_at offset s)

-- the tokens of a text, the end not counted: at most 16,384 bytes and 4,096 tokens
abbrev pub tokens_of : List ℕ → Result (List Lexeme) Refusal
tokens_of s = elim (nat_le (length s) 16384) [
  | true ↦ tokens_from (suc (length s)) 4096 0 s
  | false ↦ Err (record { question = TextLength; place = 0 })
]
