-- The tokens of a whole text: its answer is right, and no other is.
use Rattle.std.proofs.Common.{◌≡◌, ℕ, zero, suc, ◌+◌, ◌-◌, ◌<◌, ◌≤◌, Bool, true, false, leb, List, [], ◌∷◌, length, Ok, Err, Result, sym, refl, ap, ◌∙◌, subst, inl, inr, ⊎_elim, arith, le-leb, leb-false, leb-true}
use borrow.Author.Tests.{lt-leb}
use Rattle.lexing.specs.declared.token.Kind.TheVariants.{End}
use Rattle.lexing.specs.declared.fault.Question.TheVariants.{TextLength, TokenCount}
use Rattle.lexing.specs.Classes.{blank}
use Rattle.lexing.specs.Runs.{every}
use Rattle.lexing.specs.Tokens.{Lexeme, Refusal, token_at}
use Rattle.lexing.specs.Texts.{before, at_end, behind, from_one, tokens_from, tokens_of}
use Rattle.lexing.specs.Answers.{counted}
use Rattle.lexing.specs.Laws.{Begins, Refused, Right, ended, Walk, Surplus, Stopped, Whole, Scanned, Streamed}
use Rattle.lexing.specs.Streams.{stream}
use Rattle.lexing.proofs.Walks.{token-shorter}
use Rattle.lexing.proofs.Counts.{Others, by_end, from_one-is, steps_enough, length-by}
use Rattle.lexing.proofs.Streams.{tokens-taken, taken-ok}
use Rattle.lexing.proofs.FirstToken.{right, right-only, end-blank, ended_is}

-- what the tokens from an offset on say of the text there
abbrev Found : ℕ → ℕ → List ℕ → Result (List Lexeme) Refusal → Type 0
Found room offset s (Ok ts) = (length ts ≤ room) × ((last : ℕ) × (left : List ℕ) × Walk offset s ts last left × (every blank left ≡ true))
Found room offset s (Err e) = Stopped room offset s e

-- one token more before what is left
surplus_before : (room last : ℕ) (left : List ℕ) (t : Lexeme) (ts : List Lexeme) (e : Refusal) → Surplus room ts last left e → Surplus (suc room) (t ∷ ts) last left e
surplus_before room last left t ts e h = record { full = ap suc h.full; another = h.another; rest = h.rest; next = h.next; no_end = h.no_end; refused = h.refused }

found_before : (room offset : ℕ) (s : List ℕ) (t : Lexeme) (rest : List ℕ) → Begins offset s t rest → at_end t.kind ≡ false
    → (a : Result (List Lexeme) Refusal) → Found room (behind t) rest a → Found (suc room) offset s (before t a)
found_before room offset s t rest b n (Ok ts) h = (omega arith, (h.1.0, h.1.1, (rest, b, n, h.1.2), h.1.3))
found_before room offset s t rest b n (Err e) h = record {
  ts = t ∷ h.ts;
  last = h.last;
  left = h.left;
  walk = (rest, b, n, h.walk);
  few = omega arith;
  why = ⊎_elim (λ r. inl r) (λ u. inr (surplus_before room h.last h.left t h.ts e u)) h.why;
}

found-by_end : (f : Others) (room offset : ℕ) (s : List ℕ) (t : Lexeme) (rest : List ℕ) (v : Bool) → Begins offset s t rest → at_end t.kind ≡ v → every blank s ≡ v
    → (v ≡ false → (more : ℕ) → Found more (behind t) rest (f more (behind t) rest)) → Found room offset s (by_end f room t rest v)
found-by_end f room offset s t rest true b n a h = (omega arith, (offset, s, (refl, refl), a))
found-by_end f zero offset s t rest false b n a h = record {
  ts = [];
  last = offset;
  left = s;
  walk = (refl, refl);
  few = omega arith;
  why = inr (record { full = refl; another = t; rest = rest; next = b; no_end = n; refused = refl });
}
found-by_end f (suc more) offset s t rest false b n a h = found_before more offset s t rest b n (f more (behind t) rest) (h refl more)

found_from : (f : Others) (room offset : ℕ) (s : List ℕ) (a : Result (Lexeme × List ℕ) Refusal) → token_at offset s ≡ a
    → ((t : Lexeme) (rest : List ℕ) → token_at offset s ≡ Ok (t, rest) → at_end t.kind ≡ false → (more : ℕ) → Found more (behind t) rest (f more (behind t) rest))
    → Found room offset s (from_one f room a)
found_from f room offset s (Err e) k h = record { ts = []; last = offset; left = s; walk = (refl, refl); few = omega arith; why = inl (subst (Right offset s) k (right offset s)) }
found_from f room offset s (Ok (t, rest)) k h =
    let b : Begins offset s t rest = subst (Right offset s) k (right offset s) in
    let e : every blank s ≡ at_end t.kind = sym (ended_is offset s) ∙ ap ended k in
    subst (Found room offset s) (sym (from_one-is f room t rest)) (found-by_end f room offset s t rest (at_end t.kind) b refl e (h t rest k))

-- with more steps than bytes, the answer from an offset on is right
found : (steps room offset : ℕ) (s : List ℕ) → length s < steps → Found room offset s (tokens_from steps room offset s)
found zero room offset s h = absurd (omega arith)
found (suc steps) room offset s h =
    found_from (tokens_from steps) room offset s (token_at offset s) refl
    (λ t rest e n more. let l : length rest < length s = token-shorter offset s t rest e n in found steps more (behind t) rest (omega arith))

-- tokens before others, if those are tokens
abbrev befores : List Lexeme → Result (List Lexeme) Refusal → Result (List Lexeme) Refusal
befores [] a = a
befores (t ∷ ts) a = before t (befores ts a)

befores_err : (ts : List Lexeme) (e : Refusal) → befores ts (Err e) ≡ Err e
befores_err [] e = refl
befores_err (t ∷ ts) e = ap (before t) (befores_err ts e)

befores_none : (ts : List Lexeme) → befores ts (Ok []) ≡ Ok ts
befores_none [] = refl
befores_none (t ∷ ts) = ap (before t) (befores_none ts)

-- the tokens of a text are those that a walk goes over, and then those that are left
walked : (ts : List Lexeme) (steps room offset : ℕ) (s : List ℕ) (last : ℕ) (left : List ℕ) → length s < steps → Walk offset s ts last left → length ts ≤ room
    → tokens_from steps room offset s ≡ befores ts (tokens_from (suc (length left)) (room - length ts) last left)
walked [] steps room offset s last left h w f =
    steps_enough steps (suc (length s)) room offset s h (omega arith) ∙ ap (λ n. tokens_from (suc (length s)) n offset s) (let z : room ≡ room - 0 = omega arith in z)
    ∙ ap (λ o. tokens_from (suc (length s)) (room - 0) o s) w.0 ∙ ap (λ l. tokens_from (suc (length l)) (room - 0) last l) w.1
walked (t ∷ ts) zero room offset s last left h w f = absurd (omega arith)
walked (t ∷ ts) (suc steps) zero offset s last left h w f = absurd (omega arith)
walked (t ∷ ts) (suc steps) (suc room) offset s last left h w f =
    let rest = w.0 in
    let e : token_at offset s ≡ Ok (t, rest) = sym (right-only offset s (Ok (t, rest)) w.1) in
    let l : length rest < length s = token-shorter offset s t rest e w.2 in
    ap (from_one (tokens_from steps) (suc room)) e ∙ from_one-is (tokens_from steps) (suc room) t rest ∙ ap (by_end (tokens_from steps) (suc room) t rest) w.2
    ∙ ap (before t) (walked ts steps room (behind t) rest last left (omega arith) w.3 (omega arith))
    ∙ ap (λ n. before t (befores ts (tokens_from (suc (length left)) n last left))) (let z : room - length ts ≡ suc room - suc (length ts) = omega arith in z)

-- at the end nothing more is read
then-end : (room offset : ℕ) (s : List ℕ) → every blank s ≡ true → tokens_from (suc (length s)) room offset s ≡ Ok []
then-end room offset s a =
    let t : Lexeme = record { kind = End; place = offset + length s; bytes = [] } in
    ap (from_one (tokens_from (length s)) room) (end-blank offset s a) ∙ from_one-is (tokens_from (length s)) room t []

-- a refusal of the next token is that of the text
then-refused : (room offset : ℕ) (s : List ℕ) (e : Refusal) → Refused offset s e → tokens_from (suc (length s)) room offset s ≡ Err e
then-refused room offset s e r = ap (from_one (tokens_from (length s)) room) (sym (right-only offset s (Err e) r))

-- where there is room for none, another token is one too many
then-surplus : (room offset : ℕ) (s : List ℕ) (t : Lexeme) (rest : List ℕ) → room ≡ 0 → Begins offset s t rest → at_end t.kind ≡ false
    → tokens_from (suc (length s)) room offset s ≡ Err (record { question = TokenCount; place = t.place })
then-surplus room offset s t rest z b n =
    ap (λ k. tokens_from (suc (length s)) k offset s) z ∙ ap (from_one (tokens_from (length s)) 0) (sym (right-only offset s (Ok (t, rest)) b))
    ∙ from_one-is (tokens_from (length s)) 0 t rest ∙ ap (by_end (tokens_from (length s)) 0 t rest) n

-- a right answer from an offset on is the answer
found-only : (room offset : ℕ) (s : List ℕ) (a : Result (List Lexeme) Refusal) → Found room offset s a → a ≡ tokens_from (suc (length s)) room offset s
found-only room offset s (Ok ts) h =
    let w = h.1 in
    sym (walked ts (suc (length s)) room offset s w.0 w.1 (omega arith) w.2 h.0 ∙ ap (befores ts) (then-end (room - length ts) w.0 w.1 w.3) ∙ befores_none ts)
found-only room offset s (Err e) h =
    let u : tokens_from (suc (length h.left)) (room - length h.ts) h.last h.left ≡ Err e =
    ⊎_elim (then-refused (room - length h.ts) h.last h.left e)
    (λ u. then-surplus (room - length h.ts) h.last h.left u.another u.rest (let f = u.full in omega arith) u.next u.no_end ∙ ap Err (sym u.refused)) h.why in
    sym (walked h.ts (suc (length s)) room offset s h.last h.left (omega arith) h.walk h.few ∙ ap (befores h.ts) u ∙ befores_err h.ts e)

short-is : (s : List ℕ) → length s ≤ 16384 → tokens_of s ≡ tokens_from (suc (length s)) 4096 0 s
short-is s h = ap (length-by s) (le-leb (length s) 16384 h)

long-is : (s : List ℕ) → 16384 < length s → tokens_of s ≡ Err (record { question = TextLength; place = 0 })
long-is s h = ap (length-by s) (lt-leb (length s) 16384 h)

whole-found : (s : List ℕ) (a : Result (List Lexeme) Refusal) → length s ≤ 16384 → Found 4096 0 s a → Whole s a
whole-found s (Ok ts) l h = record { short = l; few = h.0; last = h.1.0; left = h.1.1; walk = h.1.2; blank_all = h.1.3 }
whole-found s (Err e) l h = inr (l, h)

-- the answer is right
whole-right : (s : List ℕ) → Whole s (tokens_of s)
whole-right s = by_length (leb (length s) 16384) refl
  where
    by_length : (v : Bool) → leb (length s) 16384 ≡ v → Whole s (tokens_of s)
    by_length true t =
        let l : length s ≤ 16384 = leb-true (length s) 16384 t in
        subst (Whole s) (sym (short-is s l)) (whole-found s (tokens_from (suc (length s)) 4096 0 s) l (found (suc (length s)) 4096 0 s (omega arith)))
    by_length false t = let l : 16384 < length s = leb-false (length s) 16384 t in subst (Whole s) (sym (long-is s l)) (inl (l, refl))

-- a right answer is the answer
whole-only : (s : List ℕ) (a : Result (List Lexeme) Refusal) → Whole s a → a ≡ tokens_of s
whole-only s (Ok ts) h = found-only 4096 0 s (Ok ts) (h.few, (h.last, h.left, h.walk, h.blank_all)) ∙ sym (short-is s h.short)
whole-only s (Err e) h = ⊎_elim (λ p. ap Err p.1 ∙ sym (long-is s p.0)) (λ p. found-only 4096 0 s (Err e) p.1 ∙ sym (short-is s p.0)) h

-- the law of a whole text
pub scanned_law : (s : List ℕ) (n : Result ℕ Refusal) → n ≡ counted (tokens_of s) → Scanned s n
scanned_law s n e = record { tokens = tokens_of s; right = whole-right s; only = whole-only s; count = e }

-- the law of what comes of a text
pub streamed_law : (s : List ℕ) (xs : List (Result Lexeme Refusal)) → xs ≡ stream s → Streamed s xs
streamed_law s xs e ts h =
    e ∙ taken-ok 4096 (stream s) ts (sym (whole-only s (Ok ts) h ∙ short-is s h.short ∙ tokens-taken (suc (length s)) 4096 0 s))
