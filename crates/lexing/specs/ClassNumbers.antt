-- The numbers that the language gives to classes of bytes.
use Rattle.std.specs.Prelude.{ℕ}
use Rattle.lexing.specs.declared.class.Class.{Class}
use Rattle.lexing.specs.declared.class.Class.TheVariants.{Other, Blank, Letter, Digit, Underscore, Mark, Minus}

-- the number of a class
abbrev pub class_number : Class → ℕ
class_number Other = 0
class_number Blank = 1
class_number Letter = 2
class_number Digit = 3
class_number Underscore = 4
class_number Mark = 5
class_number Minus = 6
