-- What comes of a text, token by token, and how it makes the tokens of the whole text.
use Rattle.std.proofs.Common.{◌≡◌, ℕ, zero, suc, ◌+◌, ◌-◌, ◌<◌, ◌≤◌, Bool, true, false, List, [], ◌∷◌, length, map, Ok, Err, Result, sym, refl, ap, ◌∙◌, arith}
use Rattle.lexing.specs.declared.fault.Question.TheVariants.{TokenCount}
use Rattle.lexing.specs.Tokens.{Lexeme, Refusal, token_at}
use Rattle.lexing.specs.Texts.{before, at_end, behind, from_one, tokens_from, tokens_of}
use Rattle.lexing.specs.Streams.{from_answer, stream_from, stream_at, stream}
use Rattle.lexing.specs.Answers.{counted}
use Rattle.lexing.proofs.Counts.{by_end, from_one-is, joined, joined-before, left-all}
use Rattle.lexing.proofs.Walks.{token-shorter}

abbrev Comes : Type 0
Comes = ℕ → List ℕ → List (Result Lexeme Refusal)

-- what comes from a token on, by whether it is the end
abbrev stream-by : Comes → Lexeme → List ℕ → Bool → List (Result Lexeme Refusal)
stream-by f t rest true = []
stream-by f t rest false = Ok t ∷ f (behind t) rest

from_answer-is : (f : Comes) (t : Lexeme) (rest : List ℕ) → from_answer f (Ok (t, rest)) ≡ stream-by f t rest (at_end t.kind)
from_answer-is f t rest = elim (at_end t.kind) as (λ v. elim v as (λ _. List (Result Lexeme Refusal)) [ true ↦ [] | false ↦ Ok t ∷ f (behind t) rest ] ≡ stream-by f t rest v) [ true ↦ refl | false ↦ refl ]

same-by : (f g : Comes) (t : Lexeme) (rest : List ℕ) (v : Bool) → (v ≡ false → f (behind t) rest ≡ g (behind t) rest) → stream-by f t rest v ≡ stream-by g t rest v
same-by f g t rest true h = refl
same-by f g t rest false h = ap (λ l. Ok t ∷ l) (h refl)

same_from : (f g : Comes) (a : Result (Lexeme × List ℕ) Refusal) → ((t : Lexeme) (rest : List ℕ) → a ≡ Ok (t, rest) → at_end t.kind ≡ false → f (behind t) rest ≡ g (behind t) rest) → from_answer f a ≡ from_answer g a
same_from f g (Err e) h = refl
same_from f g (Ok (t, rest)) h = from_answer-is f t rest ∙ same-by f g t rest (at_end t.kind) (h t rest refl) ∙ sym (from_answer-is g t rest)

-- more steps than bytes are steps enough
steps_enough : (k m offset : ℕ) (s : List ℕ) → length s < k → length s < m → stream_from k offset s ≡ stream_from m offset s
steps_enough zero m offset s h i = absurd (omega arith)
steps_enough (suc k) zero offset s h i = absurd (omega arith)
steps_enough (suc k) (suc m) offset s h i =
    same_from (stream_from k) (stream_from m) (token_at offset s)
    (λ t rest e n. let l : length rest < length s = token-shorter offset s t rest e n in steps_enough k m (behind t) rest (omega arith) (omega arith))

-- a refusal comes as the last
pub stream-refused : (offset : ℕ) (s : List ℕ) (e : Refusal) → token_at offset s ≡ Err e → stream_at offset s ≡ Err e ∷ []
stream-refused offset s e a = ap (from_answer (stream_from (length s))) a

-- at the end nothing comes
pub stream-end : (offset : ℕ) (s : List ℕ) (t : Lexeme) (rest : List ℕ) → token_at offset s ≡ Ok (t, rest) → at_end t.kind ≡ true → stream_at offset s ≡ []
stream-end offset s t rest a k =
    ap (from_answer (stream_from (length s))) a ∙ from_answer-is (stream_from (length s)) t rest ∙ ap (stream-by (stream_from (length s)) t rest) k

-- a token comes, and then what is behind it
pub stream-token : (offset : ℕ) (s : List ℕ) (t : Lexeme) (rest : List ℕ) → token_at offset s ≡ Ok (t, rest) → at_end t.kind ≡ false → stream_at offset s ≡ Ok t ∷ stream_at (behind t) rest
stream-token offset s t rest a k =
    let l : length rest < length s = token-shorter offset s t rest a k in
    ap (from_answer (stream_from (length s))) a ∙ from_answer-is (stream_from (length s)) t rest ∙ ap (stream-by (stream_from (length s)) t rest) k
    ∙ ap (λ r. Ok t ∷ r) (steps_enough (length s) (suc (length rest)) (behind t) rest l (omega arith))

-- the tokens that come, if no refusal comes and there are no more than may be
abbrev pub taken : ℕ → List (Result Lexeme Refusal) → Result (List Lexeme) Refusal
taken room [] = Ok []
taken room (Err e ∷ xs) = Err e
taken zero (Ok t ∷ xs) = Err (record { question = TokenCount; place = t.place })
taken (suc more) (Ok t ∷ xs) = before t (taken more xs)

taken-by : (f : Comes) (g : ℕ → ℕ → List ℕ → Result (List Lexeme) Refusal) (room : ℕ) (t : Lexeme) (rest : List ℕ) (v : Bool)
    → ((more : ℕ) → g more (behind t) rest ≡ taken more (f (behind t) rest)) → by_end g room t rest v ≡ taken room (stream-by f t rest v)
taken-by f g room t rest true h = refl
taken-by f g zero t rest false h = refl
taken-by f g (suc more) t rest false h = ap (before t) (h more)

taken_from : (f : Comes) (g : ℕ → ℕ → List ℕ → Result (List Lexeme) Refusal) (room : ℕ) (a : Result (Lexeme × List ℕ) Refusal)
    → ((more offset : ℕ) (s : List ℕ) → g more offset s ≡ taken more (f offset s)) → from_one g room a ≡ taken room (from_answer f a)
taken_from f g room (Err e) h = refl
taken_from f g room (Ok (t, rest)) h =
    from_one-is g room t rest ∙ taken-by f g room t rest (at_end t.kind) (λ more. h more (behind t) rest) ∙ ap (taken room) (sym (from_answer-is f t rest))

-- the tokens of a text are those that come
pub tokens-taken : (steps room offset : ℕ) (s : List ℕ) → tokens_from steps room offset s ≡ taken room (stream_from steps offset s)
tokens-taken zero room offset s = refl
tokens-taken (suc steps) room offset s = taken_from (stream_from steps) (tokens_from steps) room (token_at offset s) (tokens-taken steps)

-- at the start nothing is counted, and the whole text comes
pub taken-all : (s : List ℕ) (xs : List (Result Lexeme Refusal)) → length s ≤ 16384 → xs ≡ stream s → counted (tokens_of s) ≡ joined 0 (taken 4096 xs)
taken-all s xs h e = left-all s h ∙ ap (joined 0) (tokens-taken (suc (length s)) 4096 0 s) ∙ ap (λ l. joined 0 (taken 4096 l)) (sym e)

-- one token more
pub taken-more : (m : Result ℕ Refusal) (n : ℕ) (t : Lexeme) (xs ys : List (Result Lexeme Refusal)) → n < 4096 → xs ≡ Ok t ∷ ys → m ≡ joined n (taken (4096 - n) xs) → m ≡ joined (n + 1) (taken (4096 - (n + 1)) ys)
taken-more m n t xs ys h k e =
    e ∙ ap (λ l. joined n (taken (4096 - n) l)) k ∙ ap (λ r. joined n (taken r (Ok t ∷ ys))) (let z : 4096 - n ≡ suc (4096 - (n + 1)) = omega arith in z)
    ∙ joined-before n t (taken (4096 - (n + 1)) ys)

abbrev listed : Result (List Lexeme) Refusal → List Lexeme
listed (Ok ts) = ts
listed (Err e) = []

abbrev ok_in : Result (List Lexeme) Refusal → ℕ
ok_in (Ok ts) = 1
ok_in (Err e) = 0

-- where the tokens that come are taken, nothing else came
pub taken-ok : (room : ℕ) (xs : List (Result Lexeme Refusal)) (ts : List Lexeme) → taken room xs ≡ Ok ts → xs ≡ map Ok ts
taken-ok room [] ts e = ap (λ r. map Ok (listed r)) e
taken-ok room (Err f ∷ xs) ts e = let z : ◌≡◌ {A = ℕ} 0 1 = ap ok_in e in absurd (omega arith)
taken-ok zero (Ok t ∷ xs) ts e = let z : ◌≡◌ {A = ℕ} 0 1 = ap ok_in e in absurd (omega arith)
taken-ok (suc more) (Ok t ∷ xs) ts e = go (taken more xs) (taken-ok more xs) refl e
  where
    go : (r : Result (List Lexeme) Refusal) → ((us : List Lexeme) → taken more xs ≡ Ok us → xs ≡ map Ok us) → taken more xs ≡ r → before t r ≡ Ok ts → ◌≡◌ {A = List (Result Lexeme Refusal)} (Ok t ∷ xs) (map Ok ts)
    go (Ok us) h k e = ap (λ l. Ok t ∷ l) (h us k) ∙ ap (λ r. map Ok (listed r)) e
    go (Err f) h k e = let z : ◌≡◌ {A = ℕ} 0 1 = ap ok_in e in absurd (omega arith)
