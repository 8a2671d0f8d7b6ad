-- The run of a script without region words, on values alone. A function that is not there has a fixed meaning, as in the plain run.
use Rattle.std.specs.Prelude.{ℕ, suc, true, false, List, [], ◌∷◌, map, ℤ, pos, Some, None}
use Rattle.language.specs.Syntax.{Ident, num, Op}
use Rattle.language.specs.Scope.{find}
use Rattle.language.specs.Arithmetic.{calculated, has_divisor}
use Rattle.language.specs.Values.{Value, number, empty, link, Held, holding, number_of, value_of, values_of, handed}
use Rattle.language.specs.Questions.{Next, moves, calls, prints, divides, ends, Stint, Stop}
use Rattle.language.specs.Plain.{Frame, inner, closing, returning, State, chosen, main}
use Rattle.language.specs.Struck.{BareRight, BareBlock, BareParam, BareFun, BareScript, int, atom, oper, nil, cons, call, test, block, split, last, bind, print, struck_block, struck_script}

-- what waits for a block's value
pub data BareFrame : Type 0 where
  inside : Ident → BareBlock → List Held → BareFrame
  caller : Ident → BareBlock → List Held → BareFrame

-- a run: its script, the block that is left of the newest, the variables in scope, and what waits behind
pub record BareState : Type 0 where
  pub script : BareScript
  pub left : BareBlock
  pub variables : List Held
  pub frames : List BareFrame

abbrev pub bare : BareScript → BareBlock → List Held → List BareFrame → BareState
bare F b E K = record { script = F; left = b; variables = E; frames = K }

abbrev pub no_bare_function : BareFun
no_bare_function = record { name = record { place = 0; name = [] }; params = []; result = int; body = last (num 0 (pos 0)) }

abbrev pub bare_function_of : BareScript → Ident → BareFun
bare_function_of F f = elim (find (λ g. g.name.name) f.name F) [ Some g ↦ g | None ↦ no_bare_function ]

abbrev pub bare_param_names : List BareParam → List Ident
bare_param_names qs = map (λ q. q.name) qs

-- a function entered with values for its parameters
abbrev pub bare_entered : BareScript → BareFun → List Value → List BareFrame → BareState
bare_entered F g vs K = bare F g.body (handed (bare_param_names g.params) vs) K

-- the calls that are unfinished, `main` counted
abbrev pub bare_unfinished : List BareFrame → ℕ
bare_unfinished [] = 1
bare_unfinished (inside x b E ∷ K) = bare_unfinished K
bare_unfinished (caller x b E ∷ K) = suc (bare_unfinished K)

abbrev pub bare_after : BareScript → Value → List BareFrame → Next BareState
bare_after F v [] = ends (number_of v)
bare_after F v (inside x b E ∷ K) = moves (bare F b (holding E x v) K)
bare_after F v (caller x b E ∷ K) = moves (bare F b (holding E x v) K)

abbrev pub bare_split : BareScript → Value → BareBlock → Ident → Ident → BareBlock → List Held → List BareFrame → BareState
bare_split F (number z) b h t c E K = bare F b E K
bare_split F empty b h t c E K = bare F b E K
bare_split F (link v w) b h t c E K = bare F c (holding (holding E h v) t w) K

abbrev pub bare_operated : Op → ℕ → ℤ → BareState → Next BareState
bare_operated o p z s = elim (has_divisor o) [ true ↦ divides p z s | false ↦ moves s ]

-- a right side, whose value is for the variable x of the block b
abbrev pub bare_right : BareScript → Ident → BareRight → BareBlock → List Held → List BareFrame → Next BareState
bare_right F x (atom a) b E K = moves (bare F b (holding E x (value_of E a)) K)
bare_right F x (oper p o a c) b E K =
    bare_operated o p (number_of (value_of E c)) (bare F b (holding E x (number (calculated o (number_of (value_of E a)) (number_of (value_of E c))))) K)
bare_right F x (nil p T) b E K = moves (bare F b (holding E x empty) K)
bare_right F x (cons p a c) b E K = moves (bare F b (holding E x (link (value_of E a) (value_of E c))) K)
bare_right F x (call p f xs) b E K =
    calls p (bare_unfinished K) (bare_entered F (bare_function_of F f) (values_of E xs) (caller x b E ∷ K))
bare_right F x (test p a c d) b E K = moves (bare F (chosen (number_of (value_of E a)) c d) E (inside x b E ∷ K))
bare_right F x (block c) b E K = moves (bare F c E (inside x b E ∷ K))
bare_right F x (split p a c h t d) b E K = moves (bare_split F (value_of E a) c h t d E (inside x b E ∷ K))

abbrev pub bare_block : BareScript → BareBlock → List Held → List BareFrame → Next BareState
bare_block F (last a) E K = bare_after F (value_of E a) K
bare_block F (bind x r b) E K = bare_right F x r b E K
bare_block F (print p a b) E K = prints p (number_of (value_of E a)) (bare F b E K)

-- the next word of a run
abbrev pub bare_next : BareState → Next BareState
bare_next s = bare_block s.script s.left s.variables s.frames

-- `main` on a number
abbrev pub bare_started : BareScript → ℤ → BareState
bare_started F n = bare_entered F (bare_function_of F main) (number n ∷ []) []

-- what is left of a plain run without its regions and its account: a frame behind a region's block waits as any block does
abbrev pub struck_frame : Frame → BareFrame
struck_frame (inner x b E ρ) = inside x (struck_block b) E
struck_frame (closing x b E ρ) = inside x (struck_block b) E
struck_frame (returning x b E ρ) = caller x (struck_block b) E

abbrev pub struck_state : State → BareState
struck_state s = bare (struck_script s.script) (struck_block s.block) s.variables (map struck_frame s.frames)

abbrev pub struck_stint : Stint State → Stint BareState
struck_stint t = record { run = struck_state t.run; units = t.units; entries = t.entries; used = t.used; printed = t.printed }

abbrev pub struck_stop : Stop State → Stop BareState
struck_stop e = record { ending = e.ending; result = e.result; place = e.place; stint = struck_stint e.stint }
