-- How an arena keeps its regions one after another in one stretch of words. Assumes nothing.
use Rattle.std.specs.Prelude.{ℕ, List, [], ◌∷◌, take, drop}
use Rattle.regions.specs.Model.{Regions}

-- the words cut into regions of these lengths, from the front
abbrev pub split : List ℕ → List ℕ → Regions
split [] ws = []
split (l ∷ ls) ws = take l ws ∷ split ls (drop l ws)

-- what an arena holds: its first words, cut by its lengths
abbrev pub held : List ℕ → List ℕ → Regions
held lens ws = split lens ws
