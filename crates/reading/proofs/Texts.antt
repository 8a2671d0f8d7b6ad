-- A text whose tokens pass the questions 1 to 5, and the answer of reading it.
use Rattle.std.proofs.Common.{◌≡◌, ℕ, zero, suc, ◌≤◌, Bool, true, false, leb, List, [], length, is_ok, Ok, Err, Result, sym, refl, ap, ◌∙◌, inl, inr, arith}
use Rattle.std.proofs.lemmas.Bool.Decides.{nat_tests}
use Rattle.lexing.specs.declared.fault.Question.TheVariants.{TextLength}
use Rattle.lexing.specs.Numbers.{question_number}
use Rattle.lexing.specs.Tokens.{Lexeme, Refusal, token_at}
use Rattle.lexing.specs.Texts.{at_end, behind, from_one, tokens_from, tokens_of}
use Rattle.lexing.specs.Answers.{counted}
use Rattle.lexing.proofs.Counts.{Others, by_end, from_one-is}
use Rattle.language.specs.Nesting.{most_lists, most_blocks}
use Rattle.language.specs.Verdict.{Refused}
use Rattle.language.specs.Syntax.{Script}
use Rattle.language.specs.Reading.{script_of, reading, funs}
use Rattle.draft.specs.Origin.{WasRead}
use Rattle.draft.specs.Items.{items_of}
use Rattle.reading.specs.Standing.{walk, granted, tokens_left}
use Rattle.reading.specs.Parts.{function_of}
use Rattle.reading.specs.Answers.{held_then}
use Rattle.reading.proofs.Walks.{before-ok, ok-is}

bound-by_end : (f : Others) (room : ℕ) (t : Lexeme) (rest : List ℕ) (v : Bool) (ts : List Lexeme) → ((more : ℕ) (us : List Lexeme) → f more (behind t) rest ≡ Ok us → length us ≤ more) → by_end f room t rest v ≡ Ok ts → length ts ≤ room
bound-by_end f room t rest true ts h e = let z : length ts ≡ 0 = sym (ap (λ a. length (granted a)) e) in omega arith
bound-by_end f zero t rest false ts h e = let z : ◌≡◌ {A = ℕ} 0 1 = cc in absurd (omega arith)
bound-by_end f (suc more) t rest false ts h e =
    let b = before-ok t (f more (behind t) rest) ts e in
    let l = h more b.0 b.1 in
    let z : suc (length b.0) ≡ length ts = ap length b.2 in omega arith

bound-from_one : (f : Others) (room : ℕ) (a : Result (Lexeme × List ℕ) Refusal) (ts : List Lexeme) → ((t : Lexeme) (rest : List ℕ) (more : ℕ) (us : List Lexeme) → f more (behind t) rest ≡ Ok us → length us ≤ more) → from_one f room a ≡ Ok ts → length ts ≤ room
bound-from_one f room (Err x) ts h e = let z : ◌≡◌ {A = ℕ} 0 1 = cc in absurd (omega arith)
bound-from_one f room (Ok (t, rest)) ts h e = bound-by_end f room t rest (at_end t.kind) ts (h t rest) (sym (from_one-is f room t rest) ∙ e)

-- no more tokens than there was room for
tokens-bound : (k room offset : ℕ) (s : List ℕ) (ts : List Lexeme) → tokens_from k room offset s ≡ Ok ts → length ts ≤ room
tokens-bound zero room offset s ts e = let z : length ts ≡ 0 = sym (ap (λ a. length (granted a)) e) in omega arith
tokens-bound (suc k) room offset s ts e = bound-from_one (tokens_from k) room (token_at offset s) ts (λ t rest more us. tokens-bound k more (behind t) rest us) e

-- what the count of a text's tokens says
pub record Scanned (s : List ℕ) : Type 0 where
  pub short : length s ≤ 16384
  pub passes : is_ok (walk 0 s) ≡ true
  pub tokens : tokens_of s ≡ Ok (tokens_left 0 s)
  pub few : length (tokens_left 0 s) ≤ 4096

abbrev by_length : List ℕ → Bool → Result (List Lexeme) Refusal
by_length s v = elim v [ true ↦ tokens_from (suc (length s)) 4096 0 s | false ↦ Err (record { question = TextLength; place = 0 }) ]

counted-ok : (a : Result (List Lexeme) Refusal) (n : ℕ) → Ok n ≡ counted a → is_ok a ≡ true
counted-ok (Ok ts) n e = refl
counted-ok (Err x) n e = let z : ◌≡◌ {A = ℕ} 0 1 = cc in absurd (omega arith)

apart : (n : ℕ) (x : Refusal) → ◌≡◌ {A = Result ℕ Refusal} (Ok n) (Err x) → ⊥
apart n x e = let z : ◌≡◌ {A = ℕ} 0 1 = cc in omega arith

pub scanned : (s : List ℕ) (n : ℕ) → Ok n ≡ counted (tokens_of s) → Scanned s
unfolding tokens_left
scanned s n e = by (leb (length s) 16384) refl
  where
    by : (v : Bool) → leb (length s) 16384 ≡ v → Scanned s
    by true k =
        let t : tokens_of s ≡ walk 0 s = ap (by_length s) k in
        let o : is_ok (walk 0 s) ≡ true = counted-ok (walk 0 s) n (e ∙ ap counted t) in
        record {
          short = grind (arith, nat_tests);
          passes = o;
          tokens = t ∙ ok-is (walk 0 s) o;
          few = tokens-bound (suc (length s)) 4096 0 s (granted (walk 0 s)) (ok-is (walk 0 s) o);
        }
    by false k = absurd (apart n (record { question = TextLength; place = 0 }) (e ∙ ap (λ v. counted (by_length s v)) k))

abbrev reading-by : List ℕ → Result (List Lexeme) Refusal → Result Script Refused
reading-by s a = elim a [ Err e ↦ Err (record { number = question_number e.question; place = e.place }) | Ok ts ↦ script_of (length s) (suc (length ts)) most_lists most_blocks ts ]

pub reading-ok : (s : List ℕ) (ts : List Lexeme) → tokens_of s ≡ Ok ts → reading s ≡ funs (length s) (function_of (length s) (suc (length ts))) (suc (length ts)) ts
reading-ok s ts e = ap (reading-by s) e

-- a table that answers for a text holds the script that the text is read as, or the empty one
pub holds-some : (text : List ℕ) (r : Result Script Refused) → reading text ≡ r → (s : Script) × (held_then r ≡ items_of s) × WasRead s
holds-some text (Ok s) e = (s, refl, inr (text, e))
holds-some text (Err f) e = ([], refl, inl refl)
