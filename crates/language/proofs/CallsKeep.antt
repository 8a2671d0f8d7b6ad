-- A refusal changes no session, and a resume keeps the length of its list.
use Rattle.std.proofs.Common.{◌≡◌, ℕ, ◌+◌, Bool, true, false, leb, List, length, ℤ, Some, None, Option, sym, refl, ap, ◌∙◌, arith, length-append, length-drop}
use Rattle.regions.specs.Model.{Rule}
use Rattle.language.specs.Syntax.{Script}
use Rattle.language.specs.Plain.{started}
use Rattle.language.specs.Carried.{carried}
use Rattle.language.specs.PlainSession.{Session, Run, Refusal, under_way, not_loaded, not_under_way, too_many_units, Call, load, start, resume, stop, Answer, done, Told, told, refused, written, refusing, answered, stopped, resumed}
use Rattle.language.specs.RunLaws.{CallsKeep}
use Rattle.language.proofs.OneStop.{comes}
use Rattle.language.proofs.Counts as counts

-- an answer that is no refusal leaves nothing to show
module _ (s : Session) (r : Refusal) where
  abbrev Keeps : Answer × Session → Type 0
  Keeps a = a.0 ≡ refused r → a.1 ≡ s

  not_done : (n : Session) → Keeps (done, n)
  not_done n e = let z : ◌≡◌ {A = ℕ} 0 1 = cc in absurd (omega arith)

  not_told : (t : Told) (n : Session) → Keeps (told t, n)
  not_told t n e = let z : ◌≡◌ {A = ℕ} 0 1 = cc in absurd (omega arith)

  load_keeps : (p : Option Script) (o : Option Run) → Keeps (elim o [ Some c ↦ refusing under_way s | None ↦ (done, record { loaded = p; run = None }) ])
  load_keeps p (Some c) e = refl
  load_keeps p None e = not_done _ e

  begin_keeps : (n : ℤ) (o : Option Script) →
      Keeps (elim o [ None ↦ refusing not_loaded s | Some F ↦ (done, record { loaded = s.loaded; run = Some (record { at = started F n; used = 0 }) }) ])
  begin_keeps n None e = refl
  begin_keeps n (Some F) e = not_done _ e

  start_keeps : (n : ℤ) (o : Option Run) →
      Keeps (elim o [
        | Some c ↦ refusing under_way s
        | None ↦ elim s.loaded [ None ↦ refusing not_loaded s | Some F ↦ (done, record { loaded = s.loaded; run = Some (record { at = started F n; used = 0 }) }) ]
      ])
  start_keeps n (Some c) e = refl
  start_keeps n None e = begin_keeps n s.loaded e

  stop_keeps : (o : Option Run) → Keeps (elim o [ None ↦ refusing not_under_way s | Some c ↦ (done, record { loaded = s.loaded; run = None }) ])
  stop_keeps None e = refl
  stop_keeps (Some c) e = not_done _ e

  module _ (grants : Rule) (units : ℕ) (entries : List ℤ) where
    allowed_keeps : (c : Run) (b : Bool) → Keeps (elim b [ true ↦ stopped (carried grants (resumed c units entries)) c entries s | false ↦ refusing too_many_units s ])
    allowed_keeps c true e = not_told _ _ e
    allowed_keeps c false e = refl

    resume_keeps : (o : Option Run) →
        Keeps (elim o [
          | None ↦ refusing not_under_way s
          | Some c ↦ elim (leb (c.used + units) 4294967295) [
            | true ↦ stopped (carried grants (resumed c units entries)) c entries s
            | false ↦ refusing too_many_units s
          ]
        ])
    resume_keeps None e = refl
    resume_keeps (Some c) e = allowed_keeps c (leb (c.used + units) 4294967295) e

session_kept : (grants : Rule) (c : Call) (s : Session) (r : Refusal) → (answered grants c s).0 ≡ refused r → (answered grants c s).1 ≡ s
session_kept grants (load p) s r e = load_keeps s r p s.run e
session_kept grants (start n) s r e = start_keeps s r n s.run e
session_kept grants (resume units entries) s r e = resume_keeps s r grants units entries s.run e
session_kept grants stop s r e = stop_keeps s r s.run e

-- no more is printed than the list has entries
filling : (zs entries : List ℤ) (n : ℕ) → length zs + n ≡ length entries → length (written zs entries) ≡ length entries
filling zs entries n e = simp (length-append, length-drop) (omega arith)

module _ (grants : Rule) (units : ℕ) (entries : List ℤ) (s : Session) (t : Told) where
  abbrev Fills : Answer × Session → Type 0
  Fills a = a.0 ≡ told t → length t.entries ≡ length entries

  not_refused : (r : Refusal) → Fills (refusing r s)
  not_refused r e = let z : ◌≡◌ {A = ℕ} 0 1 = cc in absurd (omega arith)

  stop_fills : (c : Run) → Fills (stopped (carried grants (resumed c units entries)) c entries s)
  stop_fills c e =
      let d = carried grants (resumed c units entries) in
      let n = (counts.proof).prints grants c.at units (length entries) d (comes grants (resumed c units entries)) in
      let same : written d.stint.printed entries ≡ t.entries = cc in
      ap length (sym same) ∙ filling d.stint.printed entries d.stint.entries n

  allowed_fills : (c : Run) (b : Bool) → Fills (elim b [ true ↦ stopped (carried grants (resumed c units entries)) c entries s | false ↦ refusing too_many_units s ])
  allowed_fills c true e = stop_fills c e
  allowed_fills c false e = not_refused too_many_units e

  resume_fills : (o : Option Run) →
      Fills (elim o [
        | None ↦ refusing not_under_way s
        | Some c ↦ elim (leb (c.used + units) 4294967295) [
          | true ↦ stopped (carried grants (resumed c units entries)) c entries s
          | false ↦ refusing too_many_units s
        ]
      ])
  resume_fills None e = not_refused not_under_way e
  resume_fills (Some c) e = allowed_fills c (leb (c.used + units) 4294967295) e

pub proof : CallsKeep
proof = record {
  refused_session = session_kept;
  list_length = λ grants units entries s t e. resume_fills grants units entries s t s.run e;
}
