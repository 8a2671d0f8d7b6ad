-- What a resume of the plain run comes to, computed: how many words it can take at most, and its stop within these.
use Rattle.std.specs.Prelude.{ℕ, suc, ◌+◌, ◌*◌, List, [], ◌∷◌, pos, Some, None}
use Rattle.regions.specs.Model.{Rule}
use Rattle.language.specs.Syntax.{Right, Block, atom, oper, nil, cons, call, test, region, split, last, bind, print, Script}
use Rattle.language.specs.Questions.{spent, Stint, Stop, within}
use Rattle.language.specs.Plain.{Frame, inner, closing, returning, State, next}

-- how many words a block has, each right side and each last atom counted
abbrev mutual
  pub block_size : Block → ℕ
  block_size (last a) = 1
  block_size (bind x r b) = suc (right_size r + block_size b)
  block_size (print p a b) = suc (block_size b)

  pub right_size : Right → ℕ
  right_size (atom a) = 0
  right_size (oper p o a b) = 0
  right_size (nil p r T) = 0
  right_size (cons p r a b) = 0
  right_size (call p f rs xs) = 0
  right_size (test p a b c) = block_size b + block_size c
  right_size (region p r b) = block_size b
  right_size (split p a b h t c) = block_size b + block_size c

-- how many words wait in the frames
abbrev pub frames_size : List Frame → ℕ
frames_size [] = 0
frames_size (inner x b E ρ ∷ K) = block_size b + frames_size K
frames_size (closing x b E ρ ∷ K) = block_size b + frames_size K
frames_size (returning x b E ρ ∷ K) = block_size b + frames_size K

-- as many words as all functions have together, one more for a function that is not there
abbrev pub script_size : Script → ℕ
script_size [] = 1
script_size (g ∷ F) = block_size g.body + script_size F

-- as many words as a stint can take: what is left, and what each call that a unit pays for can add
abbrev pub enough : Stint State → ℕ
enough t = suc (block_size t.run.block + frames_size t.run.frames + t.units * script_size t.run.script)

-- what a stint comes to; that many words always suffice, so that the second case never comes
abbrev pub carried : Rule → Stint State → Stop State
carried grants t = elim (within next grants (enough t) t) [ Some e ↦ e | None ↦ record { ending = spent; result = pos 0; place = 0; stint = t } ]
