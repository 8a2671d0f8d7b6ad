-- Where the script of a draft comes from.
use Rattle.std.specs.Prelude.{◌≡◌, ℕ, ◌⊎◌, List, [], Ok}
use Rattle.language.specs.Syntax.{Script}
use Rattle.language.specs.Reading.{reading}

-- the empty script, or one that some text is read as: it has passed the questions of reading
abbrev pub WasRead : Script → Type 0
WasRead s = (s ≡ []) ⊎ ((text : List ℕ) × (reading text ≡ Ok s))
