-- After a resume that is told, the run is over exactly unless the ending is spent or list full.
use Rattle.std.proofs.Common.{◌≡◌, ℕ, ◌+◌, Bool, true, false, leb, ◌↔◌, List, ℤ, Some, None, Option, refl, subst, inl, inr, arith}
use Rattle.regions.specs.Model.{Rule}
use Rattle.language.specs.Questions.{Ending, finished, spent, full, exhausted, too_deep, zero_divisor, goes_on}
use Rattle.language.specs.Carried.{carried}
use Rattle.language.specs.PlainSession.{Session, Run, Refusal, not_under_way, too_many_units, Answer, Told, told, refusing, stopped, resumed}
use Rattle.language.specs.RunLaws.{Pauses, RunOver}

-- the run that an ending leaves
abbrev left : Ending → Run → Option Run
left e c = elim (goes_on e) [ true ↦ Some c | false ↦ None ]

over_left : (e : Ending) (c : Run) → (Pauses e → ⊥) → left e c ≡ None
over_left finished c h = refl
over_left spent c h = absurd (h (inl refl))
over_left full c h = absurd (h (inr refl))
over_left exhausted c h = refl
over_left too_deep c h = refl
over_left zero_divisor c h = refl

not_none : (c : Run) → ◌≡◌ {A = Option Run} (Some c) None → ⊥
not_none c e = let z : ◌≡◌ {A = ℕ} 0 1 = cc in absurd (omega arith)

pause_left : (e : Ending) (c : Run) → left e c ≡ None → Pauses e → ⊥
pause_left e c h (inl p) = not_none c (subst (λ x. left x c ≡ None) p h)
pause_left e c h (inr p) = not_none c (subst (λ x. left x c ≡ None) p h)

module _ (grants : Rule) (units : ℕ) (entries : List ℤ) (s : Session) (t : Told) where
  abbrev Over : Answer × Session → Type 0
  Over a = a.0 ≡ told t → (a.1.run ≡ None) ↔ (Pauses t.ending → ⊥)

  not_refused : (r : Refusal) → Over (refusing r s)
  not_refused r e = let z : ◌≡◌ {A = ℕ} 0 1 = cc in absurd (omega arith)

  stop_over : (c : Run) → Over (stopped (carried grants (resumed c units entries)) c entries s)
  stop_over c e =
      let d = carried grants (resumed c units entries) in
      let after : Run = record { at = d.stint.run; used = c.used + d.stint.used } in
      let same : d.ending ≡ t.ending = cc in
      subst (λ x. (left d.ending after ≡ None) ↔ (Pauses x → ⊥)) same (pause_left d.ending after, over_left d.ending after)

  allowed_over : (c : Run) (b : Bool) → Over (elim b [ true ↦ stopped (carried grants (resumed c units entries)) c entries s | false ↦ refusing too_many_units s ])
  allowed_over c true e = stop_over c e
  allowed_over c false e = not_refused too_many_units e

  resume_over : (o : Option Run) →
      Over (elim o [
        | None ↦ refusing not_under_way s
        | Some c ↦ elim (leb (c.used + units) 4294967295) [
          | true ↦ stopped (carried grants (resumed c units entries)) c entries s
          | false ↦ refusing too_many_units s
        ]
      ])
  resume_over None e = not_refused not_under_way e
  resume_over (Some c) e = allowed_over c (leb (c.used + units) 4294967295) e

pub proof : RunOver
proof grants units entries s t e = resume_over grants units entries s t s.run e
