-- The numbers that the language gives to kinds of tokens and to questions.
use Rattle.std.specs.Prelude.{ℕ}
use Rattle.lexing.specs.declared.token.Kind.{Kind}
use Rattle.lexing.specs.declared.token.Kind.TheVariants.{End, Name, Keyword, Numeral, Mark}
use Rattle.lexing.specs.declared.fault.Question.{Question}
use Rattle.lexing.specs.declared.fault.Question.TheVariants.{TextLength, FirstByte, NumeralFits, NameLength, TokenCount, Grammar, Nesting, NewFunction, MainFunction, Room, KnownName, NewName, NeededType, ClosedRegion, TypeDepth, CallShape}

-- the number of a kind of token
abbrev pub kind_number : Kind → ℕ
kind_number End = 0
kind_number Name = 1
kind_number Keyword = 2
kind_number Numeral = 3
kind_number Mark = 4

-- the number of a question
abbrev pub question_number : Question → ℕ
question_number TextLength = 1
question_number FirstByte = 2
question_number NumeralFits = 3
question_number NameLength = 4
question_number TokenCount = 5
question_number Grammar = 6
question_number Nesting = 7
question_number NewFunction = 8
question_number MainFunction = 9
question_number Room = 10
question_number KnownName = 11
question_number NewName = 12
question_number NeededType = 13
question_number ClosedRegion = 14
question_number TypeDepth = 15
question_number CallShape = 16
