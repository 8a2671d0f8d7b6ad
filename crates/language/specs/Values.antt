-- Values: numbers and lists, of which nothing is freed; and the variables that hold them.
use Rattle.std.specs.Prelude.{List, [], ◌∷◌, ◌++◌, ℤ, pos, Some, None}
use Rattle.language.specs.Syntax.{Ident, Atom, var, num}
use Rattle.language.specs.Types.{Name}
use Rattle.language.specs.Scope.{find}

-- a number of 32 signed bits, the list without elements, or a list by its head and its tail
pub data Value : Type 0 where
  number : ℤ → Value
  empty : Value
  link : Value → Value → Value

-- a variable in scope: its name and its value
pub record Held : Type 0 where
  pub name : Name
  pub value : Value

-- the variables with one more
abbrev pub holding : List Held → Ident → Value → List Held
holding E x v = E ++ (record { name = x.name; value = v } ∷ [])

-- the number that a value is; a list is none and counts as 0, which no checked script asks for
abbrev pub number_of : Value → ℤ
number_of (number z) = z
number_of empty = pos 0
number_of (link v w) = pos 0

-- the value of an atom; a variable out of scope counts as 0, and no checked script has one
abbrev pub value_of : List Held → Atom → Value
value_of E (var x) = elim (find (λ h. h.name) x.name E) [ Some h ↦ h.value | None ↦ number (pos 0) ]
value_of E (num p z) = number z

abbrev pub values_of : List Held → List Atom → List Value
values_of E [] = []
values_of E (a ∷ xs) = value_of E a ∷ values_of E xs

-- parameters by their names, with the values handed over
abbrev pub handed : List Ident → List Value → List Held
handed [] vs = []
handed (x ∷ xs) [] = []
handed (x ∷ xs) (v ∷ vs) = record { name = x.name; value = v } ∷ handed xs vs
