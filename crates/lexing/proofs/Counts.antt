-- Counting the tokens of a text one by one: what is counted so far, joined with what is left.
use Rattle.std.proofs.Common.{◌≡◌, ℕ, zero, suc, ◌+◌, ◌<◌, ◌≤◌, Bool, true, false, List, [], length, Ok, Err, Result, sym, refl, ap, ◌∙◌, arith, le-leb}
use borrow.Author.Tests.{lt-leb}
use Rattle.lexing.specs.declared.fault.Question.TheVariants.{TextLength, TokenCount}
use Rattle.lexing.specs.Tokens.{Lexeme, Refusal, token_at}
use Rattle.lexing.specs.Texts.{before, at_end, behind, from_one, tokens_from, tokens_of}
use Rattle.lexing.specs.Answers.{counted}
use Rattle.lexing.proofs.Walks.{token-shorter}

abbrev pub Others : Type 0
Others = ℕ → ℕ → List ℕ → Result (List Lexeme) Refusal

-- the tokens from one on, by whether it is the end
abbrev pub by_end : Others → ℕ → Lexeme → List ℕ → Bool → Result (List Lexeme) Refusal
by_end f room t rest true = Ok []
by_end f zero t rest false = Err (record { question = TokenCount; place = t.place })
by_end f (suc more) t rest false = before t (f more (behind t) rest)

pub from_one-is : (f : Others) (room : ℕ) (t : Lexeme) (rest : List ℕ) → from_one f room (Ok (t, rest)) ≡ by_end f room t rest (at_end t.kind)
from_one-is f zero t rest = elim (at_end t.kind) as (λ v. elim v as (λ _. Result (List Lexeme) Refusal) [ true ↦ Ok [] | false ↦ Err (record { question = TokenCount; place = t.place }) ] ≡ by_end f zero t rest v) [ true ↦ refl | false ↦ refl ]
from_one-is f (suc more) t rest = elim (at_end t.kind) as (λ v. elim v as (λ _. Result (List Lexeme) Refusal) [ true ↦ Ok [] | false ↦ before t (f more (behind t) rest) ] ≡ by_end f (suc more) t rest v) [ true ↦ refl | false ↦ refl ]

same-by_end : (f g : Others) (room : ℕ) (t : Lexeme) (rest : List ℕ) (v : Bool) → (v ≡ false → (more : ℕ) → f more (behind t) rest ≡ g more (behind t) rest) → by_end f room t rest v ≡ by_end g room t rest v
same-by_end f g room t rest true h = refl
same-by_end f g zero t rest false h = refl
same-by_end f g (suc more) t rest false h = ap (before t) (h refl more)

same_from : (f g : Others) (room : ℕ) (a : Result (Lexeme × List ℕ) Refusal) → ((t : Lexeme) (rest : List ℕ) → a ≡ Ok (t, rest) → at_end t.kind ≡ false → (more : ℕ) → f more (behind t) rest ≡ g more (behind t) rest) → from_one f room a ≡ from_one g room a
same_from f g room (Err e) h = refl
same_from f g room (Ok (t, rest)) h = from_one-is f room t rest ∙ same-by_end f g room t rest (at_end t.kind) (h t rest refl) ∙ sym (from_one-is g room t rest)

-- more steps than bytes are steps enough
pub steps_enough : (k m room offset : ℕ) (s : List ℕ) → length s < k → length s < m → tokens_from k room offset s ≡ tokens_from m room offset s
steps_enough zero m room offset s h i = absurd (omega arith)
steps_enough (suc k) zero room offset s h i = absurd (omega arith)
steps_enough (suc k) (suc m) room offset s h i =
    same_from (tokens_from k) (tokens_from m) room (token_at offset s)
    (λ t rest e n more. let l : length rest < length s = token-shorter offset s t rest e n in steps_enough k m more (behind t) rest (omega arith) (omega arith))

-- so many tokens, and then those that are left
abbrev pub joined : ℕ → Result (List Lexeme) Refusal → Result ℕ Refusal
joined n (Ok ts) = Ok (n + length ts)
joined n (Err e) = Err e

joined-none : (a : Result (List Lexeme) Refusal) → counted a ≡ joined 0 a
joined-none (Ok ts) = ap Ok (omega arith)
joined-none (Err e) = refl

pub joined-before : (n : ℕ) (t : Lexeme) (a : Result (List Lexeme) Refusal) → joined n (before t a) ≡ joined (n + 1) a
joined-before n t (Ok ts) = ap Ok (omega arith)
joined-before n t (Err e) = refl

abbrev pub length-by : List ℕ → Bool → Result (List Lexeme) Refusal
length-by s v = elim v [ true ↦ tokens_from (suc (length s)) 4096 0 s | false ↦ Err (record { question = TextLength; place = 0 }) ]

-- a text that is short enough
pub left-all : (s : List ℕ) → length s ≤ 16384 → counted (tokens_of s) ≡ joined 0 (tokens_from (suc (length s)) 4096 0 s)
left-all s h = ap (λ v. counted (length-by s v)) (le-leb (length s) 16384 h) ∙ joined-none (tokens_from (suc (length s)) 4096 0 s)

-- a text that is too long
pub too_long : (s : List ℕ) → 16384 < length s → counted (tokens_of s) ≡ Err (record { question = TextLength; place = 0 })
too_long s h = ap (λ v. counted (length-by s v)) (lt-leb (length s) 16384 h)
