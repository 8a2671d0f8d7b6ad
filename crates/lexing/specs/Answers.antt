-- The answers of the calls, read as values.
use Rattle.std.specs.Borrow.{Bor}
use Rattle.std.specs.Prelude.{ℕ, ◌+◌, min, List, length, Ok, Err, Result}
use Rattle.lexing.specs.declared.token.Token.{Token}
use Rattle.lexing.specs.declared.fault.Fault.{Fault}
use Rattle.lexing.specs.Tokens.{Lexeme, Refusal}

-- a token that lends its bytes, with those bytes
abbrev pub lexeme : Token → Lexeme
lexeme t = record { kind = t.kind; place = t.place; bytes = t.bytes.now }

-- a fault as a refusal
abbrev pub refusal : Fault → Refusal
refusal e = record { question = e.question; place = e.place }

-- the answer of a call for one token
abbrev pub told : Result (Token × Bor (List ℕ)) Fault → Result (Lexeme × List ℕ) Refusal
told (Ok (t, rest)) = Ok (lexeme t, rest.now)
told (Err e) = Err (refusal e)

-- a place behind `offset` bytes; one that 64 bits cannot hold counts as the last that they can
abbrev pub moved : ℕ → ℕ → ℕ
moved offset place = min (offset + place) 18446744073709551615

-- an answer about a text that stands `offset` bytes into the whole
abbrev pub shifted : ℕ → Result (Lexeme × List ℕ) Refusal → Result (Lexeme × List ℕ) Refusal
shifted offset (Ok (t, rest)) = Ok (record { kind = t.kind; place = moved offset t.place; bytes = t.bytes }, rest)
shifted offset (Err e) = Err (record { question = e.question; place = moved offset e.place })

-- how many tokens there are, or the refusal
abbrev pub counted : Result (List Lexeme) Refusal → Result ℕ Refusal
counted (Ok ts) = Ok (length ts)
counted (Err e) = Err e

-- the answer of a call that counts
abbrev pub count_told : Result ℕ Fault → Result ℕ Refusal
count_told (Ok n) = Ok n
count_told (Err e) = Err (refusal e)

-- a token that lends its bytes or a fault, as one of a text's tokens comes
abbrev pub item : Result Token Fault → Result Lexeme Refusal
item (Ok t) = Ok (lexeme t)
item (Err e) = Err (refusal e)
