-- The tokens of a text one after another, up to its end or the first refusal.
use Rattle.std.specs.Prelude.{ℕ, zero, suc, true, false, List, [], ◌∷◌, length, Ok, Err, Result}
use Rattle.lexing.specs.Tokens.{Lexeme, Refusal, token_at}
use Rattle.lexing.specs.Texts.{at_end, behind}

-- what comes from one answer on: nothing at the end, a refusal as the last, else the token and what comes behind it
abbrev pub from_answer : (ℕ → List ℕ → List (Result Lexeme Refusal)) → Result (Lexeme × List ℕ) Refusal → List (Result Lexeme Refusal)
from_answer others (Err e) = Err e ∷ []
from_answer others (Ok (t, rest)) = elim (at_end t.kind) [ true ↦ [] | false ↦ Ok t ∷ others (behind t) rest ]

-- what comes from `offset` on; each token takes a byte at least, so that `steps` is no limit where it is above the length
abbrev pub stream_from : ℕ → ℕ → List ℕ → List (Result Lexeme Refusal)
stream_from zero offset s = []
stream_from (suc steps) offset s = from_answer (stream_from steps) (token_at offset s)

abbrev pub stream_at : ℕ → List ℕ → List (Result Lexeme Refusal)
stream_at offset s = stream_from (suc (length s)) offset s

-- what comes of a whole text
abbrev pub stream : List ℕ → List (Result Lexeme Refusal)
stream s = stream_at 0 s
