-- Lines and columns, as a cursor goes over the bytes of a text.
use Rattle.std.specs.Prelude.{true, false, List, [], ◌∷◌, ◌++◌, ℕ, ◌+◌, ◌==◌, codes}
use Rattle.std.specs.Fmt.{decimal}
use Rattle.report.specs.declared.position.Position.{Position}

abbrev pub at : ℕ → ℕ → Position
at line column = record { line = line; column = column }

-- where a cursor goes over some bytes: behind a line feed a new line begins
abbrev pub onward : ℕ → ℕ → List ℕ → Position
onward line column [] = at line column
onward line column (b ∷ bs) = elim (b == 10) [ true ↦ onward (line + 1) 1 bs | false ↦ onward line (column + 1) bs ]

-- the position behind some bytes at the start of a text
abbrev pub position_of : List ℕ → Position
position_of bs = onward 1 1 bs

-- a position as a person reads it: the line, a colon and the column
abbrev pub shown : Position → List ℕ
shown p = decimal p.line ++ (codes ":" ++ decimal p.column)
