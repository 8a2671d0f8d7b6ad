-- What a search among entries that bear a name answers.
use Rattle.std.specs.Prelude.{◌≡◌, ℕ, ◌<◌, List, length, not, is_some, nat_lt, Some, Result, slice_index_or}
use Rattle.language.specs.Verdict.{Refused}
use Rattle.language.specs.Syntax.{Ident}
use Rattle.language.specs.Types.{Name}
use Rattle.language.specs.Scope.{find}
use Rattle.language.specs.Checking.{◌>>◌, ask, found}

-- the entry at an index is the first of that name
abbrev pub First : {A : Type 0} → (A → Name) → Name → List A → ℕ → Type 0
First {A} key n es i = (i < length es) × ((d : A) → find key n es ≡ Some (slice_index_or es i d))

-- the entry that a name stands for
abbrev pub known_among : {A : Type 0} → (A → Name) → Ident → List A → Result A Refused
known_among key x es = found (find key x.name es) x.place

-- a name may be taken: there is room, and no entry bears it
abbrev pub new_among : {A : Type 0} → ℕ → (A → Name) → Ident → List A → Result (Unit {0}) Refused
new_among most key x es = ask (nat_lt (length es) most) 10 x.place >> ask (not (is_some (find key x.name es))) 12 x.place
