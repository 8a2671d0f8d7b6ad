-- What the questions at a word come to: one case for each answer, and what follows for stints and stops.
use Rattle.std.proofs.Common.{◌≡◌, ℕ, zero, suc, Bool, true, false, ltb, List, ℤ, pos, sym, refl, ◌∙◌, subst, arith}
use Rattle.regions.specs.Model.{Rule}
use Rattle.language.specs.Arithmetic.{same_number}
use Rattle.language.specs.Questions.{Ending, finished, spent, full, exhausted, too_deep, zero_divisor, Next, moves, calls, prints, grows, divides, ends, Stint, Stop, Turn, on, stop, halt, asked, charged, filled, moved, turn, Reaches, already, onward, ComesTo, here, later}

module _ {S : Type 0} where
  pub on_is : {t u : Stint S} → on t ≡ on u → t ≡ u
  on_is e = cc

  pub stop_is : {d e : Stop S} → stop d ≡ stop e → d ≡ e
  stop_is e = cc

  pub not_both : {A : Type 0} {t : Stint S} {e : Stop S} → on t ≡ stop e → A
  not_both e = let z : ◌≡◌ {A = ℕ} 0 1 = cc in absurd (omega arith)

  -- why a run halts at a word
  pub data Halts (grants : Rule) (t : Stint S) : Next S → Ending → ℕ → Type 0 where
    deep : {p n : ℕ} {s : S} → ltb n 64 ≡ false → Halts grants t (calls p n s) too_deep p
    no_unit : {p n : ℕ} {s : S} → t.units ≡ 0 → Halts grants t (calls p n s) spent p
    no_entry : {p : ℕ} {z : ℤ} {s : S} → t.entries ≡ 0 → Halts grants t (prints p z s) full p
    denied : {p : ℕ} {α : List ℕ} {s : S} → grants α ≡ false → Halts grants t (grows p α s) exhausted p
    by_zero : {p : ℕ} {z : ℤ} {s : S} → same_number z (pos 0) ≡ true → Halts grants t (divides p z s) zero_divisor p

  -- what a word comes to
  pub data Outcome (grants : Rule) (t : Stint S) : Next S → Turn S → Type 0 where
    free : {s : S} → Outcome grants t (moves s) (moved s t)
    paid : {p n : ℕ} {s : S} (u : ℕ) → ltb n 64 ≡ true → t.units ≡ suc u → Outcome grants t (calls p n s) (charged (suc u) p s t)
    put : {p : ℕ} {z : ℤ} {s : S} (n : ℕ) → t.entries ≡ suc n → Outcome grants t (prints p z s) (filled (suc n) p z s t)
    granted : {p : ℕ} {α : List ℕ} {s : S} → grants α ≡ true → Outcome grants t (grows p α s) (moved s t)
    divided : {p : ℕ} {z : ℤ} {s : S} → same_number z (pos 0) ≡ false → Outcome grants t (divides p z s) (moved s t)
    halts : {n : Next S} {e : Ending} {p : ℕ} → Halts grants t n e p → Outcome grants t n (halt e p t)
    finishes : {z : ℤ} → Outcome grants t (ends z) (stop (record { ending = finished; result = z; place = 0; stint = t }))

  module _ (grants : Rule) (t : Stint S) where
    at_charge : (p n : ℕ) (s : S) (u : ℕ) → ltb n 64 ≡ true → t.units ≡ u → Outcome grants t (calls p n s) (charged u p s t)
    at_charge p n s zero h k = halts (no_unit k)
    at_charge p n s (suc u) h k = paid u h k

    at_call : (p n : ℕ) (s : S) (b : Bool) → ltb n 64 ≡ b → Outcome grants t (calls p n s) (elim b [ true ↦ charged t.units p s t | false ↦ halt too_deep p t ])
    at_call p n s true h = at_charge p n s t.units h refl
    at_call p n s false h = halts (deep h)

    at_print : (p : ℕ) (z : ℤ) (s : S) (n : ℕ) → t.entries ≡ n → Outcome grants t (prints p z s) (filled n p z s t)
    at_print p z s zero k = halts (no_entry k)
    at_print p z s (suc n) k = put n k

    at_growth : (p : ℕ) (α : List ℕ) (s : S) (b : Bool) → grants α ≡ b → Outcome grants t (grows p α s) (elim b [ true ↦ moved s t | false ↦ halt exhausted p t ])
    at_growth p α s true h = granted h
    at_growth p α s false h = halts (denied h)

    at_division : (p : ℕ) (z : ℤ) (s : S) (b : Bool) → same_number z (pos 0) ≡ b → Outcome grants t (divides p z s) (elim b [ true ↦ halt zero_divisor p t | false ↦ moved s t ])
    at_division p z s true h = halts (by_zero h)
    at_division p z s false h = divided h

    pub outcome : (n : Next S) → Outcome grants t n (asked grants n t)
    outcome (moves s) = free
    outcome (calls p n s) = at_call p n s (ltb n 64) refl
    outcome (prints p z s) = at_print p z s t.entries refl
    outcome (grows p α s) = at_growth p α s (grants α) refl
    outcome (divides p z s) = at_division p z s (same_number z (pos 0)) refl
    outcome (ends z) = finishes

  -- where a run stops, its stint stands as it was
  stays : {grants : Rule} {t : Stint S} {n : Next S} {x : Turn S} (d : Stop S) → Outcome grants t n x → x ≡ stop d → d.stint ≡ t
  stays d free e = not_both e
  stays d (paid u h k) e = not_both e
  stays d (put n k) e = not_both e
  stays d (granted h) e = not_both e
  stays d (divided h) e = not_both e
  stays d (halts h) e = cc
  stays d finishes e = cc

module _ {S : Type 0} {next_of : S → Next S} {grants : Rule} where
  -- two stops of one stint are one
  pub one_stop : {t : Stint S} {d e : Stop S} → ComesTo next_of grants t d → ComesTo next_of grants t e → d ≡ e
  one_stop (here p) (here q) = stop_is (sym p ∙ q)
  one_stop (here p) (later q c) = not_both (sym q ∙ p)
  one_stop (later p b) (here q) = not_both (sym p ∙ q)
  one_stop {e = e} (later p b) (later q c) = one_stop b (subst (λ u. ComesTo next_of grants u e) (on_is (sym q ∙ p)) c)

  -- the stint of a stop is reached
  pub reached : {t : Stint S} {d : Stop S} → ComesTo next_of grants t d → Reaches next_of grants t d.stint
  reached (here {t = t} {e = d} e) = subst (λ u. Reaches next_of grants t u) (sym (stays d (outcome grants t (next_of t.run)) e)) already
  reached (later e c) = onward e (reached c)

  -- and stops there
  pub last_turn : {t : Stint S} {d : Stop S} → ComesTo next_of grants t d → turn next_of grants d.stint ≡ stop d
  last_turn (here {t = t} {e = d} e) = subst (λ u. turn next_of grants u ≡ stop d) (sym (stays d (outcome grants t (next_of t.run)) e)) e
  last_turn (later e c) = last_turn c

  -- what is reached comes to what comes after
  pub reaches_comes : {t u : Stint S} {d : Stop S} → Reaches next_of grants t u → ComesTo next_of grants u d → ComesTo next_of grants t d
  reaches_comes already c = c
  reaches_comes (onward e r) c = later e (reaches_comes r c)
