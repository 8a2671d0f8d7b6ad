-- Numerals, and the numbers that they mean.
use Rattle.std.specs.Prelude.{ℕ, ◌+◌, ◌-◌, ◌*◌, Bool, true, false, List, [], ◌∷◌, ℤ, pos, neg_ℤ, Some, None, Option, nat_le}
use Rattle.lexing.specs.Classes.{digit, minus}
use Rattle.lexing.specs.Runs.{every}

-- the number that decimal digits go on to, from the one that stands before them
abbrev pub decimal : ℕ → List ℕ → ℕ
decimal n [] = n
decimal n (b ∷ bs) = decimal (10 * n + (b - 48)) bs

-- the greatest size of a number of 32 signed bits, below zero and else
abbrev pub bound : Bool → ℕ
bound true = 2147483648
bound false = 2147483647

-- the number of a size, below zero or else
abbrev pub with_sign : Bool → ℕ → ℤ
with_sign true n = neg_ℤ (pos n)
with_sign false n = pos n

-- a number where a test is passed
abbrev pub only : Bool → Option ℤ → Option ℤ
only true z = z
only false z = None

-- a number of 32 signed bits, by its sign and its size
abbrev pub signed_32 : Bool → ℕ → Option ℤ
signed_32 s n = only (nat_le n (bound s)) (Some (with_sign s n))

-- one or more digits
abbrev pub digits : List ℕ → Bool
digits [] = false
digits (b ∷ bs) = every digit (b ∷ bs)

-- what a sign and digits mean: none where they are no digits, or the number passes 32 signed bits
abbrev pub meaning : Bool → List ℕ → Option ℤ
meaning s bs = only (digits bs) (signed_32 s (decimal 0 bs))

-- the number that a numeral means: none where the bytes are no numeral, or it passes 32 signed bits
abbrev pub number_of : List ℕ → Option ℤ
number_of [] = None
number_of (b ∷ bs) = elim (minus b) [ true ↦ meaning true bs | false ↦ meaning false (b ∷ bs) ]
