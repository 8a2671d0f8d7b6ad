-- The bytes that a line of escapes stands for.
use Rattle.std.specs.Prelude.{◌≡◌, ℕ, zero, suc, ◌+◌, ◌-◌, ◌*◌, cond, ◌&&◌, List, [], ◌∷◌, length, codes, Some, None, Option, ◌==◌, nat_le}
use Rattle.std.specs.Borrow.{Bor}
use Rattle.escapes.specs.declared.Failure.{Failure}
use Rattle.escapes.specs.declared.Failure.TheVariants.{BadEscape, Memory}

-- the value of a hexadecimal digit
abbrev pub hex : ℕ → Option ℕ
hex b =
    cond (nat_le 48 b && nat_le b 57) (Some (b - 48))
    (cond (nat_le 97 b && nat_le b 102) (Some (b - 97 + 10))
    (cond (nat_le 65 b && nat_le b 70) (Some (b - 65 + 10)) None))

-- what two digits stand for
abbrev pub pair : Option ℕ → Option ℕ → List ℕ → Option (ℕ × List ℕ)
pair (Some a) (Some b) rest = Some (16 * a + b, rest)
pair (Some a) None rest = None
pair None b rest = None

-- the byte of two hexadecimal digits at the front, and the rest
abbrev pub hexed : List ℕ → Option (ℕ × List ℕ)
hexed [] = None
hexed (h ∷ []) = None
hexed (h ∷ (l ∷ rest)) = pair (hex h) (hex l) rest

-- the byte that stands behind a backslash, and the rest: n, t, another backslash, or x and two digits
abbrev pub escaped : List ℕ → Option (ℕ × List ℕ)
escaped [] = None
escaped (c ∷ rest) =
    cond (c == 110) (Some (10, rest)) (cond (c == 116) (Some (9, rest)) (cond (c == 92) (Some (92, rest)) (cond (c == 120) (hexed rest) None)))

-- the first byte that a text stands for, and the rest
abbrev pub decoded : List ℕ → Option (ℕ × List ℕ)
decoded [] = None
decoded (b ∷ rest) = cond (b == 92) (escaped rest) (Some (b, rest))

-- an answer with a part of the text, read as values
abbrev pub lent : Option (ℕ × Bor (List ℕ)) → Option (ℕ × List ℕ)
lent (Some (b, rest)) = Some (b, rest.now)
lent None = None

-- a byte before the others
abbrev pub before : ℕ → Option (List ℕ) → Option (List ℕ)
before b (Some bs) = Some (b ∷ bs)
before b None = None

-- the bytes that a line stands for, byte by byte; none where a backslash begins no escape. Each takes a byte of the line at least, so that `steps` is no limit where it is above the length
abbrev pub bytes_from : ℕ → List ℕ → Option (List ℕ)
bytes_from zero s = Some []
bytes_from (suc steps) [] = Some []
bytes_from (suc steps) (b ∷ bs) = elim (decoded (b ∷ bs)) [ Some (c, rest) ↦ before c (bytes_from steps rest) | None ↦ None ]

abbrev pub unescaped : List ℕ → Option (List ℕ)
unescaped s = bytes_from (suc (length s)) s

-- why a line has no bytes: it stands for none, or memory is wanting
abbrev pub Why : List ℕ → Failure → Type 0
Why s BadEscape = unescaped s ≡ None
Why s Memory = Unit {0}

-- why, in words
abbrev pub said : Failure → List ℕ
said BadEscape = codes "a backslash stands before n, t, x and two hexadecimal digits, or another backslash"
said Memory = codes "there is no memory for this"
