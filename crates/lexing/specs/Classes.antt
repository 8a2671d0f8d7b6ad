-- The class of a byte: 1 blank, 2 letter, 3 digit, 4 underscore, 5 mark, 6 minus, 0 any other.
use Rattle.std.specs.Prelude.{ℕ, Bool, false, cond, ◌&&◌, ◌||◌, List, [], ◌∷◌, codes, ◌==◌, nat_le}

-- whether a number is in a list
abbrev pub among : ℕ → List ℕ → Bool
among b [] = false
among b (x ∷ xs) = b == x || among b xs

-- tab, line feed, carriage return and space; a to z; 0 to 9; and single bytes
abbrev pub class_of : ℕ → ℕ
class_of b =
    cond (among b (9 ∷ 10 ∷ 13 ∷ 32 ∷ [])) 1
    (cond (nat_le 97 b && nat_le b 122) 2
    (cond (nat_le 48 b && nat_le b 57) 3
    (cond (b == 95) 4
    (cond (among b (codes "{}()[],;:=@")) 5
    (cond (b == 45) 6 0)))))

abbrev pub blank : ℕ → Bool
blank b = class_of b == 1

abbrev pub letter : ℕ → Bool
letter b = class_of b == 2

abbrev pub digit : ℕ → Bool
digit b = class_of b == 3

-- a mark stands for itself
abbrev pub mark : ℕ → Bool
mark b = class_of b == 5

abbrev pub minus : ℕ → Bool
minus b = class_of b == 6

-- a letter, a digit or an underscore: what a name goes on with
abbrev pub word_byte : ℕ → Bool
word_byte b = among (class_of b) (2 ∷ 3 ∷ 4 ∷ [])

-- a letter or an underscore: what may not stand directly behind a numeral
abbrev pub letter_like : ℕ → Bool
letter_like b = among (class_of b) (2 ∷ 4 ∷ [])
