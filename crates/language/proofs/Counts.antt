-- What a resume counts: units and entries are neither lost nor invented.
use Rattle.std.proofs.Common.{◌≡◌, ℕ, ◌+◌, length, sym, refl, ◌∙◌, subst, arith, length-append}
use Rattle.regions.specs.Model.{Rule}
use Rattle.language.specs.Questions.{Ending, spent, full, Next, Stint, Stop, Turn, on, stop, Reaches, already, onward, ComesTo, here, later}
use Rattle.language.specs.RunLaws.{ResumeCounts}
use Rattle.language.proofs.Turns.{on_is, stop_is, not_both, reached, Halts, deep, no_unit, no_entry, denied, by_zero, Outcome, free, paid, put, granted, divided, halts, finishes, outcome}

module _ {S : Type 0} where
  -- units and entries, used and left
  record Kept (t u : Stint S) : Type 0 where
    units : u.used + u.units ≡ t.used + t.units
    entries : length u.printed + u.entries ≡ length t.printed + t.entries

  -- no unit is left where a run is spent, and no entry where its list is full
  record Lacks (t : Stint S) (e : Ending) : Type 0 where
    unit : e ≡ spent → t.units ≡ 0
    entry : e ≡ full → t.entries ≡ 0

module _ {S : Type 0} {grants : Rule} where
  keeps : (t u : Stint S) {n : Next S} {x : Turn S} → Outcome grants t n x → x ≡ on u → Kept t u
  keeps t u free e = subst (Kept t) (on_is e) (record { units = refl; entries = refl })
  keeps t u (paid m h k) e = subst (Kept t) (on_is e) (record { units = omega arith; entries = refl })
  keeps t u (put m k) e = subst (Kept t) (on_is e) (record { units = refl; entries = simp length-append (omega arith) })
  keeps t u (granted h) e = subst (Kept t) (on_is e) (record { units = refl; entries = refl })
  keeps t u (divided h) e = subst (Kept t) (on_is e) (record { units = refl; entries = refl })
  keeps t u (halts h) e = not_both (sym e)
  keeps t u finishes e = not_both (sym e)

  halts_lack : (t : Stint S) {n : Next S} {e : Ending} {p : ℕ} → Halts grants t n e p → Lacks t e
  halts_lack t (deep h) = record { unit = λ k. cc; entry = λ k. cc }
  halts_lack t (no_unit h) = record { unit = λ k. h; entry = λ k. cc }
  halts_lack t (no_entry h) = record { unit = λ k. cc; entry = λ k. h }
  halts_lack t (denied h) = record { unit = λ k. cc; entry = λ k. cc }
  halts_lack t (by_zero h) = record { unit = λ k. cc; entry = λ k. cc }

  lacks : (t : Stint S) (d : Stop S) {n : Next S} {x : Turn S} → Outcome grants t n x → x ≡ stop d → Lacks d.stint d.ending
  lacks t d free e = not_both e
  lacks t d (paid m h k) e = not_both e
  lacks t d (put m k) e = not_both e
  lacks t d (granted h) e = not_both e
  lacks t d (divided h) e = not_both e
  lacks t d (halts h) e = subst (λ c. Lacks c.stint c.ending) (stop_is e) (halts_lack t h)
  lacks t d finishes e = subst (λ c. Lacks c.stint c.ending) (stop_is e) (record { unit = λ k. cc; entry = λ k. cc })

  reaches_kept : {next_of : S → Next S} {t u : Stint S} → Reaches next_of grants t u → Kept t u
  reaches_kept already = record { units = refl; entries = refl }
  reaches_kept {next_of = next_of} (onward {t = t} {u = u} e r) =
      let a = keeps t u (outcome grants t (next_of t.run)) e in
      let b = reaches_kept r in
      record { units = b.units ∙ a.units; entries = b.entries ∙ a.entries }

  comes_lacks : {next_of : S → Next S} {t : Stint S} {d : Stop S} → ComesTo next_of grants t d → Lacks d.stint d.ending
  comes_lacks {next_of = next_of} (here {t = t} {e = d} e) = lacks t d (outcome grants t (next_of t.run)) e
  comes_lacks (later e c) = comes_lacks c

pub proof : ResumeCounts
proof = record {
  units = λ grants s n l e c. let k = reaches_kept (reached c) in omega arith;
  prints = λ grants s n l e c. let k = reaches_kept (reached c) in omega arith;
  at_spent = λ grants s n l e c h. (comes_lacks c).unit h;
  at_full = λ grants s n l e c h. (comes_lacks c).entry h;
}
