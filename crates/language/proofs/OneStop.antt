-- Every stint comes to exactly one stop, and `carried` computes it: the words that it can take never run out.
use Rattle.std.proofs.Common.{◌≡◌, ℕ, zero, suc, ◌+◌, ◌*◌, ◌<◌, Some, sym, refl, subst, suc-mul, arith}
use Rattle.regions.specs.Model.{Rule}
use Rattle.language.specs.Questions.{Next, Stint, Stop, Turn, on, stop, turn, ComesTo, here, later, within}
use Rattle.language.specs.Plain.{State, next}
use Rattle.language.specs.Carried.{script_size, enough, carried}
use Rattle.language.specs.RunLaws.{OneStop}
use Rattle.language.proofs.Turns.{on_is, not_both, one_stop, Outcome, free, paid, put, granted, divided, halts, finishes, outcome}
use Rattle.language.proofs.Falls.{rest, Fall, falls}

-- the words that a stint can take
abbrev left : Stint State → ℕ
left t = rest t.run + t.units * script_size t.run.script

-- each word leaves fewer
module _ (t u : Stint State) where
  to : (v : Stint State) → left v < left t → on v ≡ on u → left u < left t
  to v h e = subst (λ x. left x < left t) (on_is e) h

  leaves_fewer : {grants : Rule} {n : Next State} {x : Turn State} → Outcome grants t n x → Fall t.run n → x ≡ on u → left u < left t
  leaves_fewer free h e = to _ (rw h.1 (omega arith)) e
  leaves_fewer (paid m d k) h e = to _ (rw (k, h.1, suc-mul) (omega arith)) e
  leaves_fewer (put m k) h e = to _ (rw h.1 (omega arith)) e
  leaves_fewer (granted g) h e = to _ (rw h.1 (omega arith)) e
  leaves_fewer (divided g) h e = to _ (rw h.1 (omega arith)) e
  leaves_fewer (halts g) h e = not_both (sym e)
  leaves_fewer finishes h e = not_both (sym e)

-- a stop that so many words come to
record Within (grants : Rule) (k : ℕ) (t : Stint State) : Type 0 where
  pub end : Stop State
  pub computed : within next grants k t ≡ Some end
  pub reached : ComesTo next grants t end

one_more : {grants : Rule} {k : ℕ} (t u : Stint State) → turn next grants t ≡ on u → Within grants k u → Within grants (suc k) t
one_more t u e r = record { end = r.end; computed = rw (e, within) r.computed; reached = later e r.reached }

suffices : (grants : Rule) (k : ℕ) (t : Stint State) → left t < k → Within grants k t
suffices grants zero t h = absurd (omega arith)
suffices grants (suc k) t h = by (λ u l. suffices grants k u l) (turn next grants t) refl
  where
    by : ((u : Stint State) → left u < k → Within grants k u) → (x : Turn State) → turn next grants t ≡ x → Within grants (suc k) t
    by again (stop d) e = record { end = d; computed = rw (e, within); reached = here e }
    by again (on u) e =
        let less : left u < left t = leaves_fewer t u (outcome grants t (next t.run)) (falls t.run) e in
        one_more t u e (again u (omega arith))

-- a stint comes to what is computed
pub comes : (grants : Rule) (t : Stint State) → ComesTo next grants t (carried grants t)
comes grants t =
    let r = suffices grants (enough t) t (omega arith) in
    rw (r.computed, carried) r.reached

pub proof : OneStop
proof grants t = (comes grants t, λ e c. one_stop c (comes grants t))
