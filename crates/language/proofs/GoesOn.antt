-- More units and entries change no word before the stop, and what was used and printed before changes none after it.
use Rattle.std.proofs.Common.{◌≡◌, ℕ, zero, suc, ◌+◌, Bool, true, false, ltb, List, ◌++◌, ℤ, pos, sym, refl, ap, ◌∙◌, subst, add-zero, add-suc, suc-add}
use Rattle.std.proofs.lemmas.List.{append_assoc, append-nil}
use Rattle.regions.specs.Model.{Rule}
use Rattle.language.specs.Arithmetic.{same_number}
use Rattle.language.specs.Questions.{too_deep, exhausted, zero_divisor, Next, moves, calls, prints, grows, divides, ends, Stint, Stop, Turn, on, stop, halt, asked, charged, filled, moved, Reaches, already, onward, ComesTo, here, later, begun}
use Rattle.language.specs.Plain.{State, next}
use Rattle.language.specs.RunLaws.{GoesOn, joined}
use Rattle.language.proofs.Turns.{on_is, not_both, reached, reaches_comes, Outcome, free, paid, put, granted, divided, halts, finishes, outcome}

module _ {S : Type 0} (a b : ℕ) where
  -- with a more units and b more entries
  abbrev more : Stint S → Stint S
  more t = record { run = t.run; units = t.units + a; entries = t.entries + b; used = t.used; printed = t.printed }

  same : (t v u : Stint S) → on v ≡ on u → on (more v) ≡ on (more u)
  same t v u e = ap (λ w. on (more w)) (on_is e)

  -- a word goes on as before
  goes : (grants : Rule) (t u : Stint S) {n : Next S} {x : Turn S} → Outcome grants t n x → x ≡ on u → asked grants n (more t) ≡ on (more u)
  goes grants t u free e = same t _ u e
  goes grants t u (paid m h k) e = rw (h, k, asked, suc-add) (same t _ u e)
  goes grants t u (put m k) e = rw (k, suc-add) (same t _ u e)
  goes grants t u (granted h) e = rw (h, asked) (same t _ u e)
  goes grants t u (divided h) e = rw (h, asked) (same t _ u e)
  goes grants t u (halts h) e = not_both (sym e)
  goes grants t u finishes e = not_both (sym e)

  reaches_more : {next_of : S → Next S} {grants : Rule} {t u : Stint S} → Reaches next_of grants t u → Reaches next_of grants (more t) (more u)
  reaches_more already = already
  reaches_more {next_of = next_of} {grants = grants} (onward {t = t} {u = u} e r) = onward (goes grants t u (outcome grants t (next_of t.run)) e) (reaches_more r)

module _ {S : Type 0} (k : ℕ) (zs : List ℤ) where
  -- with k units used and zs printed before
  abbrev since : Stint S → Stint S
  since t = record { run = t.run; units = t.units; entries = t.entries; used = k + t.used; printed = zs ++ t.printed }

  abbrev since_stop : Stop S → Stop S
  since_stop e = record { ending = e.ending; result = e.result; place = e.place; stint = since e.stint }

  abbrev since_turn : Turn S → Turn S
  since_turn (on u) = on (since u)
  since_turn (stop e) = stop (since_stop e)

  charged_since : (n p : ℕ) (s : S) (t : Stint S) → charged n p s (since t) ≡ since_turn (charged n p s t)
  charged_since zero p s t = refl
  charged_since (suc n) p s t = rw add-suc

  filled_since : (n p : ℕ) (z : ℤ) (s : S) (t : Stint S) → filled n p z s (since t) ≡ since_turn (filled n p z s t)
  filled_since zero p z s t = refl
  filled_since (suc n) p z s t = rw append_assoc

  asked_since : (grants : Rule) (n : Next S) (t : Stint S) → asked grants n (since t) ≡ since_turn (asked grants n t)
  asked_since grants (moves s) t = refl
  asked_since grants (calls p n s) t = by (ltb n 64)
    where
      by : (c : Bool) → ◌≡◌ {A = Turn S} (elim c [ true ↦ charged t.units p s (since t) | false ↦ halt too_deep p (since t) ])
          (since_turn (elim c [ true ↦ charged t.units p s t | false ↦ halt too_deep p t ]))
      by true = charged_since t.units p s t
      by false = refl
  asked_since grants (prints p z s) t = filled_since t.entries p z s t
  asked_since grants (grows p α s) t = by (grants α)
    where
      by : (c : Bool) → ◌≡◌ {A = Turn S} (elim c [ true ↦ moved s (since t) | false ↦ halt exhausted p (since t) ]) (since_turn (elim c [ true ↦ moved s t | false ↦ halt exhausted p t ]))
      by true = refl
      by false = refl
  asked_since grants (divides p z s) t = by (same_number z (pos 0))
    where
      by : (c : Bool) → ◌≡◌ {A = Turn S} (elim c [ true ↦ halt zero_divisor p (since t) | false ↦ moved s (since t) ]) (since_turn (elim c [ true ↦ halt zero_divisor p t | false ↦ moved s t ]))
      by true = refl
      by false = refl
  asked_since grants (ends z) t = refl

  comes_since : {next_of : S → Next S} {grants : Rule} {t : Stint S} {d : Stop S} → ComesTo next_of grants t d → ComesTo next_of grants (since t) (since_stop d)
  comes_since {next_of = next_of} {grants = grants} (here {t = t} e) = here (asked_since grants (next_of t.run) t ∙ ap since_turn e)
  comes_since {next_of = next_of} {grants = grants} (later {t = t} e c) = later (asked_since grants (next_of t.run) t ∙ ap since_turn e) (comes_since c)

-- the second resume, told from where the first stopped
begun-since : (d : Stint State) (a b : ℕ) → since d.used d.printed (begun d.run (d.units + a) (d.entries + b)) ≡ more a b d
begun-since d a b = rw (add-zero, append-nil)

pub proof : GoesOn
proof grants s n l a b d e c c' =
    reaches_comes (reaches_more a b (reached c))
    (subst (λ t. ComesTo next grants t (joined d e)) (begun-since d.stint a b) (comes_since d.stint.used d.stint.printed c'))
