-- What is left to do falls with each word but `call`, and a call adds no more than its script has words.
use Rattle.std.proofs.Common.{◌≡◌, ℕ, ◌+◌, ◌<◌, ◌≤◌, Bool, true, false, List, [], ◌∷◌, ℤ, pos, sym, refl, arith}
use Rattle.lexing.specs.Tokens.{same_bytes}
use Rattle.language.specs.Syntax.{Ident, add, sub, mul, div, rem, eq, lt, Right, Block, atom, oper, nil, cons, call, test, region, split, last, bind, print, Script}
use Rattle.language.specs.Arithmetic.{same_number}
use Rattle.language.specs.Values.{Value, number, empty, link, Held, value_of, number_of}
use Rattle.language.specs.Questions.{Next, moves, calls, prints, grows, divides, ends}
use Rattle.language.specs.Plain.{Placed, Frame, inner, closing, returning, State, state, chosen, function_of, split_value, after_block, at_right, at_block, next}
use Rattle.language.specs.Carried.{block_size, frames_size, script_size}

-- the words that are left to a run, calls apart
abbrev pub rest : State → ℕ
rest s = block_size s.block + frames_size s.frames

-- less is left, of the same script
abbrev pub Less : ℕ → State → State → Type 0
Less n s s' = (rest s' < n) × (s'.script ≡ s.script)

-- what the next word leaves
abbrev pub Fall : State → Next State → Type 0
Fall s (moves s') = Less (rest s) s s'
Fall s (calls p n s') = Less (rest s + script_size s.script) s s'
Fall s (prints p z s') = Less (rest s) s s'
Fall s (grows p α s') = Less (rest s) s s'
Fall s (divides p z s') = Less (rest s) s s'
Fall s (ends z) = Unit {0}

-- a function's block is part of the script
body-within : (F : Script) (f : Ident) → block_size (function_of F f).body ≤ script_size F
body-within [] f = omega arith
body-within (g ∷ F) f = here (same_bytes g.name.name f.name) refl (body-within F f)
  where
    here : (t : Bool) → same_bytes g.name.name f.name ≡ t → block_size (function_of F f).body ≤ script_size F → block_size (function_of (g ∷ F) f).body ≤ script_size (g ∷ F)
    here true e h = rw (e, function_of) (omega arith)
    here false e h = rw (e, function_of) (omega arith)

chosen-size : (z : ℤ) (b c : Block) → block_size (chosen z b c) ≤ block_size b + block_size c
chosen-size z b c = by (same_number z (pos 0)) refl
  where
    by : (t : Bool) → same_number z (pos 0) ≡ t → block_size (chosen z b c) ≤ block_size b + block_size c
    by true e = rw (e, chosen) (omega arith)
    by false e = rw (e, chosen) (omega arith)

falls_after : (F : Script) (b : Block) (v : Value) (E : List Held) (ρ : List Placed) (K : List Frame) (α : List ℕ) → 0 < block_size b → Fall (state F b E ρ K α) (after_block F v K α)
falls_after F b v E ρ [] α h = tt
falls_after F b v E ρ (inner x c D π ∷ K) α h = (omega arith, refl)
falls_after F b v E ρ (closing x c D π ∷ K) α h = (omega arith, refl)
falls_after F b v E ρ (returning x c D π ∷ K) α h = (omega arith, refl)

falls_split : (F : Script) (v : Value) (b c : Block) (h t : Ident) (E : List Held) (ρ : List Placed) (K : List Frame) (α : List ℕ) (s : State) →
    block_size b + block_size c + frames_size K < rest s → s.script ≡ F → Less (rest s) s (split_value F v b h t c E ρ K α)
falls_split F (number z) b c h t E ρ K α s l e = (omega arith, sym e)
falls_split F empty b c h t E ρ K α s l e = (omega arith, sym e)
falls_split F (link v w) b c h t E ρ K α s l e = (omega arith, sym e)

falls_right : (F : Script) (x : Ident) (r : Right) (b : Block) (E : List Held) (ρ : List Placed) (K : List Frame) (α : List ℕ) → Fall (state F (bind x r b) E ρ K α) (at_right F x r b E ρ K α)
falls_right F x (atom a) b E ρ K α = (omega arith, refl)
falls_right F x (oper p add a c) b E ρ K α = (omega arith, refl)
falls_right F x (oper p sub a c) b E ρ K α = (omega arith, refl)
falls_right F x (oper p mul a c) b E ρ K α = (omega arith, refl)
falls_right F x (oper p div a c) b E ρ K α = (omega arith, refl)
falls_right F x (oper p rem a c) b E ρ K α = (omega arith, refl)
falls_right F x (oper p eq a c) b E ρ K α = (omega arith, refl)
falls_right F x (oper p lt a c) b E ρ K α = (omega arith, refl)
falls_right F x (nil p r T) b E ρ K α = (omega arith, refl)
falls_right F x (cons p r a c) b E ρ K α = (omega arith, refl)
falls_right F x (call p f rs xs) b E ρ K α = (omega (arith, body-within F f), refl)
falls_right F x (test p a c d) b E ρ K α = (omega (arith, chosen-size (number_of (value_of E a)) c d), refl)
falls_right F x (region p r c) b E ρ K α = (omega arith, refl)
falls_right F x (split p a c h t d) b E ρ K α = falls_split F (value_of E a) c d h t E ρ (inner x b E ρ ∷ K) α (state F (bind x (split p a c h t d) b) E ρ K α) (omega arith) refl

falls_block : (F : Script) (b : Block) (E : List Held) (ρ : List Placed) (K : List Frame) (α : List ℕ) → Fall (state F b E ρ K α) (at_block F b E ρ K α)
falls_block F (last a) E ρ K α = falls_after F (last a) (value_of E a) E ρ K α (omega arith)
falls_block F (bind x r b) E ρ K α = falls_right F x r b E ρ K α
falls_block F (print p a b) E ρ K α = (omega arith, refl)

pub falls : (s : State) → Fall s (next s)
falls s = falls_block s.script s.block s.variables s.regions s.frames s.account
