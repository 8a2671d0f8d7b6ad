-- What stands in a text from a token on, where all its tokens pass the questions 1 to 5.
use Rattle.std.specs.Prelude.{◌≡◌, ℕ, suc, ◌+◌, ◌≤◌, true, false, List, [], ◌∷◌, length, take, drop, is_ok, Ok, Err, Result}
use Rattle.lexing.specs.Tokens.{Lexeme, Refusal}
use Rattle.lexing.specs.Texts.{at_end, behind, tokens_from}

-- the tokens of what is left from `offset` on, or the first refusal
abbrev pub walk : ℕ → List ℕ → Result (List Lexeme) Refusal
walk offset s = tokens_from (suc (length s)) 4096 offset s

-- tokens, where there is no refusal
abbrev pub granted : Result (List Lexeme) Refusal → List Lexeme
granted (Ok ts) = ts
granted (Err e) = []

unfoldable pub tokens_left : ℕ → List ℕ → List Lexeme
tokens_left offset s = granted (walk offset s)

-- the tokens from one on, with what is left behind it
unfoldable pub tokens_at : Lexeme → List ℕ → List Lexeme
tokens_at t rest = elim (at_end t.kind) [ true ↦ [] | false ↦ t ∷ tokens_left (behind t) rest ]

-- what is left of a text from `offset` on has only tokens that pass
pub record Left (text rest : List ℕ) (offset : ℕ) : Type 0 where
  pub short : length text ≤ 16384
  pub stands : rest ≡ drop offset text
  pub reaches : offset + length rest ≡ length text
  pub passes : is_ok (walk offset rest) ≡ true

-- a token stands where its text has it, and all behind it passes
pub record Sound (text : List ℕ) (t : Lexeme) (rest : List ℕ) : Type 0 where
  pub bytes : t.bytes ≡ take (length t.bytes) (drop t.place text)
  pub ends : at_end t.kind ≡ true → t.place ≡ length text
  pub left : Left text rest (behind t)
