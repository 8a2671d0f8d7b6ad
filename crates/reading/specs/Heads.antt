-- The word that a right side begins with.
use Rattle.std.specs.Prelude.{ℕ, true, false, List, [], ◌∷◌, None, codes, Option}
use Rattle.std.specs.Map.{lookup}
use Rattle.lexing.specs.declared.token.Kind.TheVariants.{Keyword}
use Rattle.lexing.specs.Tokens.{Lexeme, same_bytes}
use Rattle.language.specs.Reading.{is_kind}
use Rattle.draft.specs.declared.command.Operator.TheVariants.{Add, Sub, Mul, Div, Rem, Eq, Lt}
use Rattle.reading.specs.declared.head.Head.{Head}
use Rattle.reading.specs.declared.head.Head.TheVariants.{Operation, Nil, Cons, Call, If, Region, Case}

-- the words that a right side begins with, and what each begins
abbrev pub words : List (List ℕ × Head)
words =
    (codes "add", Operation Add) ∷ (codes "sub", Operation Sub) ∷ (codes "mul", Operation Mul) ∷ (codes "div", Operation Div) ∷ (codes "rem", Operation Rem) ∷
    (codes "eq", Operation Eq) ∷ (codes "lt", Operation Lt) ∷ (codes "nil", Nil) ∷ (codes "cons", Cons) ∷ (codes "call", Call) ∷
    (codes "if", If) ∷ (codes "region", Region) ∷ (codes "case", Case) ∷ []

abbrev pub head_word : List ℕ → Option Head
head_word w = lookup (λ k. same_bytes k w) words

-- the form of a right side that a token begins, if it begins one
abbrev pub head_of : Lexeme → Option Head
head_of t = elim (is_kind Keyword t) [ true ↦ head_word t.bytes | false ↦ None ]
