-- The seven operators on numbers of 32 signed bits.
use Rattle.std.specs.Prelude.{Bool, true, false, ℤ, pos, negsuc, ◌+ℤ◌, ◌-ℤ◌, ◌*ℤ◌, ◌==◌, int_div, int_lt, int_rem, unsigned_abs}
use Rattle.std.proofs.Common.{to_z}
use Rattle.std.specs.Int.{int_rem_euclid, w32}
use Rattle.language.specs.Syntax.{Op, add, sub, mul, div, rem, eq, lt}

-- the number of 32 signed bits that differs from z by a multiple of 4,294,967,296
abbrev pub wrap : ℤ → ℤ
wrap z = to_z w32 (unsigned_abs (int_rem_euclid z (pos 4294967296)))

-- 1 for yes, 0 for no
abbrev pub truth : Bool → ℤ
truth true = pos 1
truth false = pos 0

-- whether two numbers are equal
abbrev pub same_number : ℤ → ℤ → Bool
same_number (pos a) (pos b) = a == b
same_number (pos a) (negsuc b) = false
same_number (negsuc a) (pos b) = false
same_number (negsuc a) (negsuc b) = a == b

-- what an operator makes of two numbers: quotients are cut towards zero, and the remainder is what that leaves
abbrev pub calculated : Op → ℤ → ℤ → ℤ
calculated add a b = wrap (a +ℤ b)
calculated sub a b = wrap (a -ℤ b)
calculated mul a b = wrap (a *ℤ b)
calculated div a b = wrap (int_div a b)
calculated rem a b = int_rem a b
calculated eq a b = truth (same_number a b)
calculated lt a b = truth (int_lt a b)

-- whether an operator asks for a second number other than 0
abbrev pub has_divisor : Op → Bool
has_divisor add = false
has_divisor sub = false
has_divisor mul = false
has_divisor div = true
has_divisor rem = true
has_divisor eq = false
has_divisor lt = false
