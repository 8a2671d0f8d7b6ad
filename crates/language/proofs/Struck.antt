-- Word by word the script without region words does what the plain run does, as long as nothing is denied.
use Rattle.std.proofs.Common.{◌≡◌, ℕ, zero, suc, Bool, true, false, ltb, List, [], ◌∷◌, map, ℤ, pos, refl, ap, ◌∙◌, subst}
use Rattle.lexing.specs.Tokens.{same_bytes}
use Rattle.regions.specs.Model.{Rule}
use Rattle.language.specs.Syntax.{Ident, add, sub, mul, div, rem, eq, lt, Right, Block, atom, oper, nil, cons, call, test, region, split, last, bind, print, Param, Script}
use Rattle.language.specs.Arithmetic.{same_number}
use Rattle.language.specs.Values.{Value, number, empty, link, Held, value_of, number_of}
use Rattle.language.specs.Questions.{exhausted, too_deep, zero_divisor, Next, moves, calls, prints, grows, divides, ends, Stint, Stop, Turn, on, stop, halt, asked, charged, filled, moved, turn, Reaches, already, onward, ComesTo, here, later}
use Rattle.language.specs.Plain.{Placed, Frame, inner, closing, returning, State, state, chosen, function_of, param_names, unfinished, split_value, after_block, at_right, at_block, next, main, started}
use Rattle.language.specs.Struck.{struck_block, struck_param, struck_fun, struck_script}
use Rattle.language.specs.StruckRun.{BareState, bare_function_of, bare_param_names, bare_unfinished, bare_after, bare_split, bare_next, bare_started, struck_frame, struck_state, struck_stint, struck_stop}
use Rattle.language.specs.RunLaws.{StruckAlike}
use Rattle.language.proofs.Turns.{reached}

-- the next word without its region words: a word that only the account asks about asks nothing
abbrev struck_next : Next State → Next BareState
struck_next (moves s) = moves (struck_state s)
struck_next (calls p n s) = calls p n (struck_state s)
struck_next (prints p z s) = prints p z (struck_state s)
struck_next (grows p α s) = moves (struck_state s)
struck_next (divides p z s) = divides p z (struck_state s)
struck_next (ends z) = ends z

struck_function : (F : Script) (f : Ident) → bare_function_of (struck_script F) f ≡ struck_fun (function_of F f)
struck_function [] f = refl
struck_function (g ∷ F) f = by (same_bytes g.name.name f.name) refl (struck_function F f)
  where
    by : (t : Bool) → same_bytes g.name.name f.name ≡ t → bare_function_of (struck_script F) f ≡ struck_fun (function_of F f) →
        bare_function_of (struck_script (g ∷ F)) f ≡ struck_fun (function_of (g ∷ F) f)
    by true e h = rw (e, function_of, bare_function_of)
    by false e h = rw (e, function_of, bare_function_of) h

struck_names : (qs : List Param) → bare_param_names (map struck_param qs) ≡ param_names qs
struck_names [] = refl
struck_names (q ∷ qs) = ap (λ xs. q.name ∷ xs) (struck_names qs)

struck_unfinished : (K : List Frame) → bare_unfinished (map struck_frame K) ≡ unfinished K
struck_unfinished [] = refl
struck_unfinished (inner x b E ρ ∷ K) = struck_unfinished K
struck_unfinished (closing x b E ρ ∷ K) = struck_unfinished K
struck_unfinished (returning x b E ρ ∷ K) = ap suc (struck_unfinished K)

struck_chosen : (z : ℤ) (b c : Block) → chosen z (struck_block b) (struck_block c) ≡ struck_block (chosen z b c)
struck_chosen z b c = by (same_number z (pos 0)) refl
  where
    by : (t : Bool) → same_number z (pos 0) ≡ t → chosen z (struck_block b) (struck_block c) ≡ struck_block (chosen z b c)
    by true e = rw (e, chosen)
    by false e = rw (e, chosen)

struck_split : (F : Script) (v : Value) (b c : Block) (h t : Ident) (E : List Held) (ρ : List Placed) (K : List Frame) (α : List ℕ) →
    bare_split (struck_script F) v (struck_block b) h t (struck_block c) E (map struck_frame K) ≡ struck_state (split_value F v b h t c E ρ K α)
struck_split F (number z) b c h t E ρ K α = refl
struck_split F empty b c h t E ρ K α = refl
struck_split F (link v w) b c h t E ρ K α = refl

struck_after : (F : Script) (v : Value) (K : List Frame) (α : List ℕ) → bare_after (struck_script F) v (map struck_frame K) ≡ struck_next (after_block F v K α)
struck_after F v [] α = refl
struck_after F v (inner x b E ρ ∷ K) α = refl
struck_after F v (closing x b E ρ ∷ K) α = refl
struck_after F v (returning x b E ρ ∷ K) α = refl

struck_at_right : (F : Script) (x : Ident) (r : Right) (b : Block) (E : List Held) (ρ : List Placed) (K : List Frame) (α : List ℕ) →
    bare_next (struck_state (state F (bind x r b) E ρ K α)) ≡ struck_next (at_right F x r b E ρ K α)
struck_at_right F x (atom a) b E ρ K α = refl
struck_at_right F x (oper p add a c) b E ρ K α = refl
struck_at_right F x (oper p sub a c) b E ρ K α = refl
struck_at_right F x (oper p mul a c) b E ρ K α = refl
struck_at_right F x (oper p div a c) b E ρ K α = refl
struck_at_right F x (oper p rem a c) b E ρ K α = refl
struck_at_right F x (oper p eq a c) b E ρ K α = refl
struck_at_right F x (oper p lt a c) b E ρ K α = refl
struck_at_right F x (nil p r T) b E ρ K α = refl
struck_at_right F x (cons p r a c) b E ρ K α = refl
struck_at_right F x (call p f rs xs) b E ρ K α = rw (struck_function F f, struck_names (function_of F f).params, struck_unfinished K)
struck_at_right F x (test p a c d) b E ρ K α = rw (struck_chosen (number_of (value_of E a)) c d)
struck_at_right F x (region p r c) b E ρ K α = refl
struck_at_right F x (split p a c h t d) b E ρ K α = ap moves (struck_split F (value_of E a) c d h t E ρ (inner x b E ρ ∷ K) α)

struck_at_block : (F : Script) (b : Block) (E : List Held) (ρ : List Placed) (K : List Frame) (α : List ℕ) →
    bare_next (struck_state (state F b E ρ K α)) ≡ struck_next (at_block F b E ρ K α)
struck_at_block F (last a) E ρ K α = struck_after F (value_of E a) K α
struck_at_block F (bind x r b) E ρ K α = struck_at_right F x r b E ρ K α
struck_at_block F (print p a b) E ρ K α = refl

struck_word : (s : State) → bare_next (struck_state s) ≡ struck_next (next s)
struck_word s = struck_at_block s.script s.block s.variables s.regions s.frames s.account

struck_started : (F : Script) (n : ℤ) → struck_state (started F n) ≡ bare_started (struck_script F) n
struck_started F n = rw (struck_function F main, struck_names (function_of F main).params)

-- a turn without its region words
abbrev struck_turn : Turn State → Turn BareState
struck_turn (on u) = on (struck_stint u)
struck_turn (stop e) = stop (struck_stop e)

-- a turn that the rule denies
abbrev Denied : Turn State → Type 0
Denied (on u) = ⊥
Denied (stop e) = e.ending ≡ exhausted

struck_charged : (u p : ℕ) (s : State) (t : Stint State) → charged u p (struck_state s) (struck_stint t) ≡ struck_turn (charged u p s t)
struck_charged zero p s t = refl
struck_charged (suc u) p s t = refl

struck_filled : (n p : ℕ) (z : ℤ) (s : State) (t : Stint State) → filled n p z (struck_state s) (struck_stint t) ≡ struck_turn (filled n p z s t)
struck_filled zero p z s t = refl
struck_filled (suc n) p z s t = refl

module _ (grants any : Rule) where
  -- the questions come out alike, unless the rule denies
  struck_asked : (n : Next State) (t : Stint State) → (Denied (asked grants n t) → ⊥) → asked any (struck_next n) (struck_stint t) ≡ struck_turn (asked grants n t)
  struck_asked (moves s) t h = refl
  struck_asked (calls p n s) t h = by (ltb n 64)
    where
      by : (b : Bool) → ◌≡◌ {A = Turn BareState} (elim b [ true ↦ charged t.units p (struck_state s) (struck_stint t) | false ↦ halt too_deep p (struck_stint t) ])
          (struck_turn (elim b [ true ↦ charged t.units p s t | false ↦ halt too_deep p t ]))
      by true = struck_charged t.units p s t
      by false = refl
  struck_asked (prints p z s) t h = struck_filled t.entries p z s t
  struck_asked (grows p α s) t h = by (grants α) h
    where
      by : (b : Bool) → (Denied (elim b [ true ↦ moved s t | false ↦ halt exhausted p t ]) → ⊥) →
          moved (struck_state s) (struck_stint t) ≡ struck_turn (elim b [ true ↦ moved s t | false ↦ halt exhausted p t ])
      by true k = refl
      by false k = absurd (k refl)
  struck_asked (divides p z s) t h = by (same_number z (pos 0))
    where
      by : (b : Bool) → ◌≡◌ {A = Turn BareState} (elim b [ true ↦ halt zero_divisor p (struck_stint t) | false ↦ moved (struck_state s) (struck_stint t) ])
          (struck_turn (elim b [ true ↦ halt zero_divisor p t | false ↦ moved s t ]))
      by true = refl
      by false = refl
  struck_asked (ends z) t h = refl

  -- one word further in both runs
  struck_goes : (t : Stint State) → (Denied (turn next grants t) → ⊥) → turn bare_next any (struck_stint t) ≡ struck_turn (turn next grants t)
  struck_goes t h = ap (λ n. asked any n (struck_stint t)) (struck_word t.run) ∙ struck_asked (next t.run) t h

  goes_on_alike : (t u : Stint State) → turn next grants t ≡ on u → turn bare_next any (struck_stint t) ≡ on (struck_stint u)
  goes_on_alike t u e = struck_goes t (λ d. subst Denied e d) ∙ ap struck_turn e

  stops_alike : (t : Stint State) (d : Stop State) → turn next grants t ≡ stop d → (d.ending ≡ exhausted → ⊥) → turn bare_next any (struck_stint t) ≡ stop (struck_stop d)
  stops_alike t d e h = struck_goes t (λ x. h (subst Denied e x)) ∙ ap struck_turn e

  reaches_alike : {t u : Stint State} → Reaches next grants t u → Reaches bare_next any (struck_stint t) (struck_stint u)
  reaches_alike already = already
  reaches_alike (onward {t = t} {u = u} e r) = onward (goes_on_alike t u e) (reaches_alike r)

  comes_alike : {t : Stint State} {d : Stop State} → ComesTo next grants t d → (d.ending ≡ exhausted → ⊥) → ComesTo bare_next any (struck_stint t) (struck_stop d)
  comes_alike (here {t = t} {e = d} e) h = here (stops_alike t d e h)
  comes_alike (later {t = t} {u = u} e c) h = later (goes_on_alike t u e) (comes_alike c h)

pub proof : StruckAlike
proof = record {
  starts = struck_started;
  reaches = λ grants any t u r. reaches_alike grants any r;
  stops = λ grants any t e c h. comes_alike grants any c h;
  denied = λ grants any t e c h. reaches_alike grants any (reached c);
}
