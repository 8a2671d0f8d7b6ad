-- All functions, one after the other, and the whole text.
use Rattle.std.proofs.Common.{◌≡◌, ℕ, zero, suc, ◌-◌, ◌<◌, List, [], ◌∷◌, Ok, Err, Result, sym, refl, ap, ◌∙◌, subst, arith}
use Rattle.lexing.specs.declared.fault.Fault.{Fault}
use Rattle.lexing.specs.Tokens.{Lexeme}
use Rattle.language.specs.Verdict.{Refused}
use Rattle.language.specs.Reading.{Reader, Answer, funs}
use Rattle.reading.specs.declared.cursor.Cursor.{Cursor}
use Rattle.reading.specs.Growth.{ReadsAll}

-- the exit of a `?`
pub broken_all : (whole room : ℕ) (c d : Cursor) {r : Result (Unit {0}) Fault} {e : Fault} → (y : Fault) × (r ≡ Err y) × (y ≡ e) → ReadsAll whole room c d (Err e) → ReadsAll whole room c d r
broken_all whole room c d p h = subst (ReadsAll whole room c d) (sym (p.1 ∙ ap Err p.2)) h

abbrev joined : {A : Type 0} → A → Result (List A) Refused → Result (List A) Refused
joined f (Ok fs) = Ok (f ∷ fs)
joined f (Err e) = Err e

pub funs-err : {A : Type 0} (n : ℕ) (function : Reader A) (room k : ℕ) (ts : List Lexeme) (e : Refused) → k < room → function ts ≡ Err e → funs n function room ts ≡ Err e
funs-err n function zero k ts e h f = absurd (omega arith)
funs-err {A} n function (suc room) k ts e h f =
    ap (λ (v : Answer A). elim v as (λ _. Result (List A) Refused) [ Err e ↦ Err e | Ok (x, left) ↦ elim left [ [] ↦ Ok (x ∷ []) | t ∷ more ↦ elim (funs n function room (t ∷ more)) [ Ok fs ↦ Ok (x ∷ fs) | Err e ↦ Err e ] ] ]) f

pub funs-end : {A : Type 0} (n : ℕ) (function : Reader A) (room k : ℕ) (ts : List Lexeme) (x : A) → k < room → function ts ≡ Ok (x, []) → funs n function room ts ≡ Ok (x ∷ [])
funs-end n function zero k ts x h f = absurd (omega arith)
funs-end {A} n function (suc room) k ts x h f =
    ap (λ (v : Answer A). elim v as (λ _. Result (List A) Refused) [ Err e ↦ Err e | Ok (x, left) ↦ elim left [ [] ↦ Ok (x ∷ []) | t ∷ more ↦ elim (funs n function room (t ∷ more)) [ Ok fs ↦ Ok (x ∷ fs) | Err e ↦ Err e ] ] ]) f

pub funs-more : {A : Type 0} (n : ℕ) (function : Reader A) (room k : ℕ) (ts : List Lexeme) (x : A) (t : Lexeme) (more : List Lexeme) (r : Result (List A) Refused) → k < room → function ts ≡ Ok (x, t ∷ more) → funs n function (room - 1) (t ∷ more) ≡ r → funs n function room ts ≡ joined x r
funs-more n function zero k ts x t more r h f g = absurd (omega arith)
funs-more {A} n function (suc room) k ts x t more r h f g =
    ap (λ (v : Answer A). elim v as (λ _. Result (List A) Refused) [ Err e ↦ Err e | Ok (x, left) ↦ elim left [ [] ↦ Ok (x ∷ []) | t ∷ more ↦ elim (funs n function room (t ∷ more)) [ Ok fs ↦ Ok (x ∷ fs) | Err e ↦ Err e ] ] ]) f
    ∙ is_joined (funs n function room (t ∷ more)) ∙ ap (λ m. joined x (funs n function m (t ∷ more))) (let e : room ≡ suc room - 1 = omega arith in e) ∙ ap (joined x) g
  where
    is_joined : (v : Result (List A) Refused) → elim v as (λ _. Result (List A) Refused) [ Ok fs ↦ Ok (x ∷ fs) | Err e ↦ Err e ] ≡ joined x v
    is_joined (Ok fs) = refl
    is_joined (Err e) = refl
