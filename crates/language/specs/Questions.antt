-- The questions that a run is put while it is resumed, in their order, and its endings.
use Rattle.std.specs.Prelude.{◌≡◌, ℕ, zero, suc, Bool, true, false, List, [], ◌∷◌, ◌++◌, ℤ, pos, Some, None, Option, nat_lt}
use Rattle.regions.specs.Model.{Rule}
use Rattle.language.specs.Arithmetic.{same_number}

-- how a resume ends
pub data Ending : Type 0 where
  finished : Ending
  spent : Ending
  full : Ending
  exhausted : Ending
  too_deep : Ending
  zero_divisor : Ending

-- the number of each ending
abbrev pub ending_number : Ending → ℕ
ending_number finished = 0
ending_number spent = 1
ending_number full = 2
ending_number exhausted = 3
ending_number too_deep = 4
ending_number zero_divisor = 5

-- whether the run is still under way after an ending
abbrev pub goes_on : Ending → Bool
goes_on finished = false
goes_on spent = true
goes_on full = true
goes_on exhausted = false
goes_on too_deep = false
goes_on zero_divisor = false

-- the next word of a run, with its place, what its question is about, and the run behind that word
pub data Next (S : Type 0) : Type 0 where
  -- a word that puts no question
  moves : S → Next S
  -- `call`: how many calls are unfinished
  calls : ℕ → ℕ → S → Next S
  -- `print`: the number
  prints : ℕ → ℤ → S → Next S
  -- `region` or `cons`: the account after it
  grows : ℕ → List ℕ → S → Next S
  -- `div` or `rem`: the second number
  divides : ℕ → ℤ → S → Next S
  -- `main` has ended, with its result
  ends : ℤ → Next S

-- a run being resumed: where it stands, the units and the entries of the list that are left, the units used and the numbers printed so far
pub record Stint (S : Type 0) : Type 0 where
  pub run : S
  pub units : ℕ
  pub entries : ℕ
  pub used : ℕ
  pub printed : List ℤ

-- an ending, with the result, the place, and what the stint had come to
pub record Stop (S : Type 0) : Type 0 where
  pub ending : Ending
  pub result : ℤ
  pub place : ℕ
  pub stint : Stint S

pub data Turn (S : Type 0) : Type 0 where
  on : Stint S → Turn S
  stop : Stop S → Turn S

module _ {S : Type 0} where
  -- a question answered no, at its place: the run stays at that word
  abbrev pub halt : Ending → ℕ → Stint S → Turn S
  halt e p t = stop (record { ending = e; result = pos 0; place = p; stint = t })

  -- the run is behind the word
  abbrev pub moved : S → Stint S → Turn S
  moved s t = on (record { run = s; units = t.units; entries = t.entries; used = t.used; printed = t.printed })

  -- is a unit left? then the call uses one
  abbrev pub charged : ℕ → ℕ → S → Stint S → Turn S
  charged zero p s t = halt spent p t
  charged (suc u) p s t = on (record { run = s; units = u; entries = t.entries; used = suc t.used; printed = t.printed })

  -- has the list an unused entry? then the number fills it
  abbrev pub filled : ℕ → ℕ → ℤ → S → Stint S → Turn S
  filled zero p z s t = halt full p t
  filled (suc n) p z s t = on (record { run = s; units = t.units; entries = n; used = t.used; printed = t.printed ++ (z ∷ []) })

  -- the questions at a word, and what they come to
  abbrev pub asked : Rule → Next S → Stint S → Turn S
  asked grants (moves s) t = moved s t
  asked grants (calls p n s) t = elim (nat_lt n 64) [ true ↦ charged t.units p s t | false ↦ halt too_deep p t ]
  asked grants (prints p z s) t = filled t.entries p z s t
  asked grants (grows p α s) t = elim (grants α) [ true ↦ moved s t | false ↦ halt exhausted p t ]
  asked grants (divides p z s) t = elim (same_number z (pos 0)) [ true ↦ halt zero_divisor p t | false ↦ moved s t ]
  asked grants (ends z) t = stop (record { ending = finished; result = z; place = 0; stint = t })

module _ {S : Type 0} (next : S → Next S) (grants : Rule) where
  -- one word further
  abbrev pub turn : Stint S → Turn S
  turn t = asked grants (next t.run) t

  -- word by word a stint comes to another
  pub data Reaches : Stint S → Stint S → Type 0 where
    already : {t : Stint S} → Reaches t t
    onward : {t u v : Stint S} → turn t ≡ on u → Reaches u v → Reaches t v

  -- word by word a stint comes to a stop
  pub data ComesTo : Stint S → Stop S → Type 0 where
    here : {t : Stint S} {e : Stop S} → turn t ≡ stop e → ComesTo t e
    later : {t u : Stint S} {e : Stop S} → turn t ≡ on u → ComesTo u e → ComesTo t e

  -- the same by computing: none where it takes more than so many words
  abbrev pub within : ℕ → Stint S → Option (Stop S)
  within zero t = None
  within (suc words) t = elim (turn t) [ on u ↦ within words u | stop e ↦ Some e ]

-- a stint begins with units and entries
abbrev pub begun : {S : Type 0} → S → ℕ → ℕ → Stint S
begun s units entries = record { run = s; units = units; entries = entries; used = 0; printed = [] }
