-- A token of a text that stands some bytes into the whole.
use Rattle.std.proofs.Common.{◌≡◌, ℕ, ◌+◌, ◌<◌, ◌≤◌, List, length, take, drop, Ok, Err, Result, sym, refl, ap, ◌∙◌, arith}
use Rattle.lexing.specs.declared.token.Kind.{Kind}
use Rattle.lexing.specs.declared.fault.Question.{Question}
use Rattle.lexing.specs.Classes.{blank}
use Rattle.lexing.specs.Runs.{run}
use Rattle.lexing.specs.Tokens.{Lexeme, Refusal, width, kind_of, unblanked, token_at}
use Rattle.lexing.specs.Answers.{moved, shifted}
use Rattle.lexing.proofs.Fronts.{run-within}

-- the answer for a text whose blanks are known, by the kind of its token
abbrev pub answer : ℕ → List ℕ → Result Kind Question → Result (Lexeme × List ℕ) Refusal
answer place body (Ok k) = Ok (record { kind = k; place = place; bytes = take (width body) body }, drop (width body) body)
answer place body (Err q) = Err (record { question = q; place = place })

pub token-at_is : (offset : ℕ) (s : List ℕ) → token_at offset s ≡ answer (offset + run blank s) (unblanked s) (kind_of (unblanked s))
token-at_is offset s = elim (kind_of (unblanked s)) as (λ v. elim v as (λ _. Result (Lexeme × List ℕ) Refusal) [ Ok k ↦ Ok (record { kind = k; place = offset + run blank s; bytes = take (width (unblanked s)) (unblanked s) }, drop (width (unblanked s)) (unblanked s)) | Err q ↦ Err (record { question = q; place = offset + run blank s }) ] ≡ answer (offset + run blank s) (unblanked s) v) [ Ok k ↦ refl | Err q ↦ refl ]

shifted-answer : (offset place : ℕ) (body : List ℕ) (v : Result Kind Question) → shifted offset (answer place body v) ≡ answer (moved offset place) body v
shifted-answer offset place body (Ok k) = refl
shifted-answer offset place body (Err q) = refl

-- in a whole that 64 bits can count, the answer about a part only has its place moved
pub shifted-is : (offset : ℕ) (s : List ℕ) → offset + length s < 18446744073709551616 → shifted offset (token_at 0 s) ≡ token_at offset s
shifted-is offset s h =
    let w = run-within blank s in
    let p : moved offset (0 + run blank s) ≡ offset + run blank s = grind arith in
    ap (shifted offset) (token-at_is 0 s) ∙ shifted-answer offset (0 + run blank s) (unblanked s) (kind_of (unblanked s))
    ∙ ap (λ q. answer q (unblanked s) (kind_of (unblanked s))) p ∙ sym (token-at_is offset s)

-- the answer about a part of a whole that 64 bits can count
pub token-held : (offset : ℕ) (s : List ℕ) (a : Result (Lexeme × List ℕ) Refusal) → offset + length s < 18446744073709551616 → a ≡ shifted offset (token_at 0 s) → token_at offset s ≡ a
token-held offset s a h e = sym (shifted-is offset s h) ∙ sym e

-- the answer about a part of a text that is short enough
pub token-here : (offset n : ℕ) (s : List ℕ) (a : Result (Lexeme × List ℕ) Refusal) → offset + length s ≡ n → n ≤ 16384 → a ≡ shifted offset (token_at 0 s) → token_at offset s ≡ a
token-here offset n s a h k = token-held offset s a (omega arith)
