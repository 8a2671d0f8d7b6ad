-- The walk from one token to the next keeps its tokens, with any room and any steps that are enough.
use Rattle.std.proofs.Common.{◌≡◌, ℕ, zero, suc, ◌<◌, ◌≤◌, Bool, true, false, List, [], ◌∷◌, length, is_ok, Ok, Err, Result, sym, refl, ap, ◌∙◌, arith}
use Rattle.lexing.specs.Tokens.{Lexeme, Refusal, token_at}
use Rattle.lexing.specs.Texts.{before, at_end, behind, from_one, tokens_from}
use Rattle.lexing.proofs.Counts.{Others, by_end, from_one-is, steps_enough}
use Rattle.lexing.proofs.Walks.{token-shorter}
use Rattle.reading.specs.Standing.{walk, granted, tokens_left}

pub before-ok : (t : Lexeme) (a : Result (List Lexeme) Refusal) (ts : List Lexeme) → before t a ≡ Ok ts → (us : List Lexeme) × (a ≡ Ok us) × (t ∷ us ≡ ts)
before-ok t (Ok us) ts e = (us, refl, cc)
before-ok t (Err x) ts e = let z : ◌≡◌ {A = ℕ} 0 1 = cc in absurd (omega arith)

room-by_end : (f g : Others) (room room' : ℕ) (t : Lexeme) (rest : List ℕ) (v : Bool) (ts : List Lexeme) → room ≤ room'
    → ((more more' : ℕ) (us : List Lexeme) → more ≤ more' → f more (behind t) rest ≡ Ok us → g more' (behind t) rest ≡ Ok us)
    → by_end f room t rest v ≡ Ok ts → by_end g room' t rest v ≡ Ok ts
room-by_end f g room room' t rest true ts l h e = e
room-by_end f g zero room' t rest false ts l h e = let z : ◌≡◌ {A = ℕ} 0 1 = cc in absurd (omega arith)
room-by_end f g (suc more) zero t rest false ts l h e = absurd (omega arith)
room-by_end f g (suc more) (suc more') t rest false ts l h e =
    let b = before-ok t (f more (behind t) rest) ts e in
    ap (before t) (h more more' b.0 (omega arith) b.1) ∙ ap Ok b.2

room-from_one : (f g : Others) (room room' : ℕ) (a : Result (Lexeme × List ℕ) Refusal) (ts : List Lexeme) → room ≤ room'
    → ((t : Lexeme) (rest : List ℕ) (more more' : ℕ) (us : List Lexeme) → more ≤ more' → f more (behind t) rest ≡ Ok us → g more' (behind t) rest ≡ Ok us)
    → from_one f room a ≡ Ok ts → from_one g room' a ≡ Ok ts
room-from_one f g room room' (Err x) ts l h e = e
room-from_one f g room room' (Ok (t, rest)) ts l h e =
    from_one-is g room' t rest ∙ room-by_end f g room room' t rest (at_end t.kind) ts l (h t rest) (sym (from_one-is f room t rest) ∙ e)

-- more room changes no tokens
pub more_room : (k room room' offset : ℕ) (s : List ℕ) (ts : List Lexeme) → room ≤ room' → tokens_from k room offset s ≡ Ok ts → tokens_from k room' offset s ≡ Ok ts
more_room zero room room' offset s ts l e = e
more_room (suc k) room room' offset s ts l e =
    room-from_one (tokens_from k) (tokens_from k) room room' (token_at offset s) ts l (λ t rest more more' us m. more_room k more more' (behind t) rest us m) e

-- what a walk says of its first token
pub record First (offset : ℕ) (s : List ℕ) (t : Lexeme) (rest : List ℕ) : Type 0 where
  pub end : at_end t.kind ≡ true → tokens_left offset s ≡ []
  pub more : at_end t.kind ≡ false → tokens_left offset s ≡ t ∷ tokens_left (behind t) rest
  pub passes : at_end t.kind ≡ false → is_ok (walk (behind t) rest) ≡ true

pub ok-is : (a : Result (List Lexeme) Refusal) → is_ok a ≡ true → a ≡ Ok (granted a)
ok-is (Ok ts) h = refl
ok-is (Err e) h = let z : ◌≡◌ {A = ℕ} 0 1 = cc in absurd (omega arith)

walk_is : (offset : ℕ) (s : List ℕ) (t : Lexeme) (rest : List ℕ) (v : Bool) → token_at offset s ≡ Ok (t, rest) → at_end t.kind ≡ v → walk offset s ≡ by_end (tokens_from (length s)) 4096 t rest v
walk_is offset s t rest v e k =
    ap (from_one (tokens_from (length s)) 4096) e ∙ from_one-is (tokens_from (length s)) 4096 t rest ∙ ap (by_end (tokens_from (length s)) 4096 t rest) k

walk_end : (offset : ℕ) (s : List ℕ) (t : Lexeme) (rest : List ℕ) → token_at offset s ≡ Ok (t, rest) → at_end t.kind ≡ true → tokens_left offset s ≡ []
unfolding tokens_left
walk_end offset s t rest e k = ap granted (walk_is offset s t rest true e k)

walk_more : (offset : ℕ) (s : List ℕ) (t : Lexeme) (rest : List ℕ) → token_at offset s ≡ Ok (t, rest) → at_end t.kind ≡ false → is_ok (walk offset s) ≡ true
    → (us : List Lexeme) × (walk offset s ≡ Ok (t ∷ us)) × (walk (behind t) rest ≡ Ok us)
walk_more offset s t rest e k h =
    let b = before-ok t (tokens_from (length s) 4095 (behind t) rest) (granted (walk offset s)) (sym (walk_is offset s t rest false e k) ∙ ok-is (walk offset s) h) in
    let l : length rest < length s = token-shorter offset s t rest e k in (
      b.0,
      ok-is (walk offset s) h ∙ ap Ok (sym b.2),
      more_room (suc (length rest)) 4095 4096 (behind t) rest b.0 (omega arith) (steps_enough (suc (length rest)) (length s) 4095 (behind t) rest (omega arith) l ∙ b.1),
    )

pub first : (offset : ℕ) (s : List ℕ) (t : Lexeme) (rest : List ℕ) → token_at offset s ≡ Ok (t, rest) → is_ok (walk offset s) ≡ true → First offset s t rest
unfolding tokens_left
first offset s t rest e h = record {
  end = walk_end offset s t rest e;
  more = λ k. let m = walk_more offset s t rest e k h in ap granted m.1 ∙ ap (λ l. t ∷ l) (sym (ap granted m.2));
  passes = λ k. ap is_ok (walk_more offset s t rest e k h).2;
}

-- nothing that is left has no token
pub no_tokens : (offset : ℕ) (s : List ℕ) → length s ≡ 0 → walk offset s ≡ Ok []
no_tokens offset [] e = refl
no_tokens offset (b ∷ bs) e = absurd (omega arith)
