-- A resume answers exhausted exactly when its run comes to a word that the rule denies.
use Rattle.std.proofs.Common.{◌≡◌, ℕ, false, List, [], ◌∷◌, sym, refl, ap, ◌∙◌, subst, arith}
use Rattle.regions.specs.Model.{Rule}
use Rattle.language.specs.Syntax.{Ident, add, sub, mul, div, rem, eq, lt, Right, Block, atom, oper, nil, cons, call, test, region, split, last, bind, print, Script}
use Rattle.language.specs.Values.{Value, Held, value_of}
use Rattle.language.specs.Questions.{Ending, exhausted, Next, moves, calls, prints, grows, divides, ends, Stint, Stop, Turn, stop, halt, asked, turn, here}
use Rattle.language.specs.Plain.{Placed, Frame, inner, closing, returning, State, after_block, at_right, at_block, next}
use Rattle.language.specs.Carried.{carried}
use Rattle.language.specs.RunLaws.{Denial, ExhaustedExactly}
use Rattle.language.proofs.Turns.{stop_is, not_both, one_stop, reached, last_turn, reaches_comes, Halts, deep, no_unit, no_entry, denied, by_zero, Outcome, free, paid, put, granted, divided, halts, finishes, outcome}
use Rattle.language.proofs.OneStop.{comes}

-- the word asks about the account of the run behind it
abbrev Own : Next State → Type 0
Own (moves s) = Unit {0}
Own (calls p n s) = Unit {0}
Own (prints p z s) = Unit {0}
Own (grows p α s) = α ≡ s.account
Own (divides p z s) = Unit {0}
Own (ends z) = Unit {0}

own_after : (F : Script) (v : Value) (K : List Frame) (α : List ℕ) → Own (after_block F v K α)
own_after F v [] α = tt
own_after F v (inner x b E ρ ∷ K) α = tt
own_after F v (closing x b E ρ ∷ K) α = tt
own_after F v (returning x b E ρ ∷ K) α = tt

own_right : (F : Script) (x : Ident) (r : Right) (b : Block) (E : List Held) (ρ : List Placed) (K : List Frame) (α : List ℕ) → Own (at_right F x r b E ρ K α)
own_right F x (atom a) b E ρ K α = tt
own_right F x (oper p add a c) b E ρ K α = tt
own_right F x (oper p sub a c) b E ρ K α = tt
own_right F x (oper p mul a c) b E ρ K α = tt
own_right F x (oper p div a c) b E ρ K α = tt
own_right F x (oper p rem a c) b E ρ K α = tt
own_right F x (oper p eq a c) b E ρ K α = tt
own_right F x (oper p lt a c) b E ρ K α = tt
own_right F x (nil p r T) b E ρ K α = tt
own_right F x (cons p r a c) b E ρ K α = refl
own_right F x (call p f rs xs) b E ρ K α = tt
own_right F x (test p a c d) b E ρ K α = tt
own_right F x (region p r c) b E ρ K α = refl
own_right F x (split p a c h t d) b E ρ K α = tt

own_block : (F : Script) (b : Block) (E : List Held) (ρ : List Placed) (K : List Frame) (α : List ℕ) → Own (at_block F b E ρ K α)
own_block F (last a) E ρ K α = own_after F (value_of E a) K α
own_block F (bind x r b) E ρ K α = own_right F x r b E ρ K α
own_block F (print p a b) E ρ K α = tt

own : (s : State) → Own (next s)
own s = own_block s.script s.block s.variables s.regions s.frames s.account

-- a word that the rule denies
record DeniedWord (grants : Rule) (n : Next State) : Type 0 where
  pub place : ℕ
  pub account : List ℕ
  pub after : State
  pub word : n ≡ grows place account after
  pub denied : grants account ≡ false

never : {A : Type 0} → ◌≡◌ {A = ℕ} 0 1 → A
never e = absurd (omega arith)

halts_denied : {grants : Rule} {t : Stint State} {n : Next State} {e : Ending} {p : ℕ} → Halts grants t n e p → e ≡ exhausted → DeniedWord grants n
halts_denied (deep h) e = never (cc)
halts_denied (no_unit h) e = never (cc)
halts_denied (no_entry h) e = never (cc)
halts_denied (denied {p = p} {α = α} {s = s} h) e = record { place = p; account = α; after = s; word = refl; denied = h }
halts_denied (by_zero h) e = never (cc)

denied-word : {grants : Rule} {t : Stint State} {n : Next State} {x : Turn State} (d : Stop State) → Outcome grants t n x → x ≡ stop d → d.ending ≡ exhausted → DeniedWord grants n
denied-word d free e h = not_both e
denied-word d (paid u l k) e h = not_both e
denied-word d (put n k) e h = not_both e
denied-word d (granted g) e h = not_both e
denied-word d (divided g) e h = not_both e
denied-word d (halts g) e h = halts_denied g (ap (λ c. c.ending) (stop_is e) ∙ h)
denied-word d finishes e h = never (cc)

denial : (grants : Rule) (t : Stint State) → (carried grants t).ending ≡ exhausted → Denial grants t
denial grants t h =
    let c = comes grants t in
    let d = (carried grants t).stint in
    let w = denied-word (carried grants t) (outcome grants d (next d.run)) (last_turn c) h in
    let a : w.account ≡ w.after.account = subst Own w.word (own d.run) in
    record {
      stint = d;
      reached = reached c;
      place = w.place;
      after = w.after;
      word = w.word ∙ ap (λ α. grows w.place α w.after) a;
      denied = ap grants (sym a) ∙ w.denied;
    }

denies : (grants : Rule) (t : Stint State) → Denial grants t → (carried grants t).ending ≡ exhausted
denies grants t d =
    let at : turn next grants d.stint ≡ halt exhausted d.place d.stint = ap (λ n. asked grants n d.stint) d.word ∙ rw (d.denied, asked) in
    ap (λ e. e.ending) (one_stop (comes grants t) (reaches_comes d.reached (here at)))

pub proof : ExhaustedExactly
proof grants t = (denial grants t, denies grants t)
