-- Types by their region names, without places: int, and list@r(T).
use Rattle.std.specs.Prelude.{ℕ, suc, Bool, true, false, List, [], ◌∷◌}
use Rattle.lexing.specs.Tokens.{same_bytes}
use Rattle.language.specs.Syntax.{Ty}

-- a name is its bytes
abbrev pub Name : Type 0
Name = List ℕ

-- int, or list@r(T)
pub data RegionType : Type 0 where
  int : RegionType
  list : Name → RegionType → RegionType

-- the type that a text writes
abbrev pub unplaced : Ty → RegionType
unplaced Ty.int = int
unplaced (Ty.list r t) = list r.name (unplaced t)

-- types are equal when words and regions agree throughout
abbrev pub same_type : RegionType → RegionType → Bool
same_type int int = true
same_type int (list s U) = false
same_type (list r T) int = false
same_type (list r T) (list s U) = elim (same_bytes r s) [ true ↦ same_type T U | false ↦ false ]

-- whether a type mentions a region, in any of its words
abbrev pub mentions : Name → RegionType → Bool
mentions r int = false
mentions r (list s T) = elim (same_bytes s r) [ true ↦ true | false ↦ mentions r T ]

-- how deep a type is nested: int is 0
abbrev pub depth : RegionType → ℕ
depth int = 0
depth (list r T) = suc (depth T)

-- how deep the type of a list may be nested
abbrev pub deepest : ℕ
deepest = 5

-- the name that stands for r, where each of `olds` gives way to the one of `news` at its place
abbrev pub renamed : List Name → List Name → Name → Name
renamed [] news r = r
renamed (o ∷ olds) [] r = r
renamed (o ∷ olds) (n ∷ news) r = elim (same_bytes o r) [ true ↦ n | false ↦ renamed olds news r ]

-- the type with its region names replaced, all together
abbrev pub replaced : List Name → List Name → RegionType → RegionType
replaced olds news int = int
replaced olds news (list r T) = list (renamed olds news r) (replaced olds news T)
