-- A verdict without a fault means that the script passes checking.
use Rattle.std.proofs.Common.{◌≡◌, ℕ, Ok, Err, Result, sym, refl, ap, ◌∙◌, subst, ⊎_elim}
use Rattle.lexing.specs.declared.fault.Fault.{Fault}
use Rattle.language.specs.Syntax.{Script}
use Rattle.language.specs.Verdict.{Refused}
use Rattle.language.specs.Checking.{checking, ◌>>◌}
use Rattle.language.proofs.Questions.{answers_every_script}
use Rattle.draft.specs.declared.table.Table.{Table}
use Rattle.program.specs.declared.program.Program.{Program}
use Rattle.checking.specs.Judged.{Judges}
use Rattle.checker.specs.Kept.{Keeps}

pub passes : (end : ℕ) (s : Script) → ◌≡◌ {A = Result (Unit {0}) Refused} (Ok tt) (checking end s >> Ok tt) → checking end s ≡ Ok s
passes end s h = ⊎_elim (λ e. e) (λ x. absurd (let z = h ∙ ap (λ (v : Result Script Refused). v >> Ok tt) x.1 in cc)) (answers_every_script end s)

-- a fault carried up unchanged is the same verdict
pub carried-up : (t : Table) (r : Result (Unit {0}) Fault) (e f : Fault) → r ≡ Err e → e ≡ f → Judges t (Err f) → Judges t r
carried-up t r e f p q j = subst (Judges t) (sym (p ∙ ap Err q)) j

-- a fault is no success
pub no-success : {A : Type 0} (r : Result (Unit {0}) Fault) (e : Fault) → r ≡ Err e → r ≡ Ok tt → A
no-success r e p q = absurd (cc)

-- a program that was not touched is kept
pub kept : (r : Result (Unit {0}) Fault) (p : Program) → Keeps r p p
kept (Ok u) p = tt
kept (Err e) p = refl
