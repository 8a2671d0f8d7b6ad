-- One step of a cursor, and what its token is to the grammar.
use Rattle.std.proofs.Common.{◌≡◌, ℕ, suc, ◌<◌, ◌≤◌, Bool, true, false, cond, eqb, List, [], ◌∷◌, length, is_ok, ℤ, is_some, Some, None, Ok, Err, Option, Result, sym, refl, ap, ◌∙◌, arith}
use borrow.Author.Tests.{both_ways}
use Rattle.std.proofs.lemmas.Bool.Decides.{nat_tests}
use Rattle.lexing.specs.declared.token.Kind.{Kind}
use Rattle.lexing.specs.declared.token.Kind.TheVariants.{End, Name, Keyword, Numeral, Mark}
use Rattle.lexing.specs.Numbers.{kind_number}
use Rattle.lexing.specs.Tokens.{Lexeme, token_at, same_bytes}
use Rattle.lexing.specs.Texts.{at_end, behind}
use Rattle.language.specs.Verdict.{Refused}
use Rattle.language.specs.Syntax.{Ident, Atom, var, num}
use Rattle.language.specs.Reading.{Reader, on, refuse, starts, here, rest, is_kind, one, name_in, number_in, atom_in}
use Rattle.reading.specs.declared.cursor.Cursor.{Cursor}
use Rattle.reading.specs.Standing.{walk, granted, tokens_left, tokens_at, Left, Sound}
use Rattle.reading.specs.Cursors.{token_of, end_of, ahead, Skips, Next}
use Rattle.reading.specs.Parts.{behind_word}
use Rattle.reading.proofs.Places.{Placed, placed}
use Rattle.reading.proofs.Walks.{First, first, no_tokens}

-- the tokens from one on, at the end and before it
pub tokens-end : (t : Lexeme) (rest : List ℕ) → at_end t.kind ≡ true → tokens_at t rest ≡ []
unfolding tokens_at
tokens-end t rest k = ap (λ (v : Bool). elim v as (λ _. List Lexeme) [ true ↦ [] | false ↦ t ∷ tokens_left (behind t) rest ]) k

pub tokens-more : (t : Lexeme) (rest : List ℕ) → at_end t.kind ≡ false → tokens_at t rest ≡ t ∷ tokens_left (behind t) rest
unfolding tokens_at
tokens-more t rest k = ap (λ (v : Bool). elim v as (λ _. List Lexeme) [ true ↦ [] | false ↦ t ∷ tokens_left (behind t) rest ]) k

tokens-by : (t : Lexeme) (rest : List ℕ) (v : Bool) (ts : List Lexeme) → at_end t.kind ≡ v → (at_end t.kind ≡ true → ts ≡ []) → (at_end t.kind ≡ false → ts ≡ t ∷ tokens_left (behind t) rest) → tokens_at t rest ≡ ts
tokens-by t rest true ts k f g = tokens-end t rest k ∙ sym (f k)
tokens-by t rest false ts k f g = tokens-more t rest k ∙ sym (g k)

-- the first token of what is left
pub arrive : (text s : List ℕ) (offset : ℕ) (t : Lexeme) (rest : List ℕ) → Left text s offset → token_at offset s ≡ Ok (t, rest) → Sound text t rest × (tokens_at t rest ≡ tokens_left offset s)
arrive text s offset t rest l e =
    let p = placed offset s text t rest l.stands e in
    let f = first offset s t rest e l.passes in (
      record {
        bytes = p.bytes;
        ends = λ h. p.ends h ∙ l.reaches;
        left = record { short = l.short; stands = p.stands; reaches = p.reaches ∙ l.reaches; passes = passes p f (at_end t.kind) refl };
      },
      tokens-by t rest (at_end t.kind) (tokens_left offset s) refl f.end f.more,
    )
  where
    passes : Placed offset s text t rest → First offset s t rest → (v : Bool) → at_end t.kind ≡ v → is_ok (walk (behind t) rest) ≡ true
    passes p f true k = ap is_ok (no_tokens (behind t) rest (p.empty k))
    passes p f false k = f.passes k

-- what is left behind a token is what its tokens go on with
pub goes_on : (text : List ℕ) (t : Lexeme) (s : List ℕ) → Sound text t s → rest (tokens_at t s) ≡ tokens_left (behind t) s
unfolding tokens_left
goes_on text t s h = by (at_end t.kind) refl
  where
    by : (v : Bool) → at_end t.kind ≡ v → rest (tokens_at t s) ≡ tokens_left (behind t) s
    by true k =
        let e = h.ends k in
        let r = h.left.reaches in
        ap rest (tokens-end t s k) ∙ sym (ap granted (no_tokens (behind t) s (omega arith)))
    by false k = ap rest (tokens-more t s k)

pub rest-shorter : (ts : List Lexeme) → 0 < length ts → length ts ≡ suc (length (rest ts))
rest-shorter [] h = absurd (omega arith)
rest-shorter (t ∷ ts) h = refl

pub rest-less : (ts : List Lexeme) → length (rest ts) ≤ length ts
rest-less [] = omega arith
rest-less (t ∷ ts) = omega arith

pub rest-longer : (ts : List Lexeme) (n : ℕ) → length (rest ts) ≡ n → 0 < n → length ts ≡ suc n
rest-longer [] n e h = absurd (omega arith)
rest-longer (t ∷ ts) n e h = ap suc e

pub starts-some : (k : Kind) (w : List ℕ) (ts : List Lexeme) → starts k w ts ≡ true → 0 < length ts
starts-some k w [] e = absurd (both_ways false refl e)
starts-some k w (t ∷ ts) e = omega arith

-- a step over a word that stands there, and over any token
pub met : {c d : Cursor} (k : Kind) (w : List ℕ) → starts k w (ahead c) ≡ true → Skips c d → Next c d
met {c} {d} k w e s =
    let n = rest-shorter (ahead c) (starts-some k w (ahead c) e) in
    let m = ap length s.rest in
    record { like = s.like; nearer = omega arith }

pub step : {c d : Cursor} → at_end c.kind ≡ false → Skips c d → Next c d
step {c} {d} k s =
    let m = ap length (tokens-more (token_of c) c.rest.now k) in
    let r = ap length (sym (ap rest (tokens-more (token_of c) c.rest.now k)) ∙ s.rest) in
    record { like = s.like; nearer = omega arith }

-- the place of the next token
pub here-is : (c : Cursor) → here (end_of c) (ahead c) ≡ c.place
here-is c = here_by (at_end c.kind) refl
  where
    here_by : (v : Bool) → at_end c.kind ≡ v → here (end_of c) (ahead c) ≡ c.place
    here_by true k = ap (here (end_of c)) (tokens-end (token_of c) c.rest.now k) ∙ sym (c.sound.ends k)
    here_by false k = ap (here (end_of c)) (tokens-more (token_of c) c.rest.now k)

-- a refusal of the next token
pub refuse-is : {A : Type 0} (c : Cursor) → refuse {A = A} (end_of c) 6 (ahead c) ≡ Err (record { number = 6; place = c.place })
refuse-is {A} c = ap (λ p. Err (record { number = 6; place = p })) (here-is c)

abbrev pub test : Kind → List ℕ → Lexeme → Bool
test k w t = elim (is_kind k t) [ true ↦ same_bytes t.bytes w | false ↦ false ]

-- whether a keyword or a mark stands there is told by the cursor's token, and none at the end
pub starts-end : (k : Kind) (w : List ℕ) (c : Cursor) → at_end c.kind ≡ true → starts k w (ahead c) ≡ false
starts-end k w c e = ap (starts k w) (tokens-end (token_of c) c.rest.now e)

pub starts-more : (k : Kind) (w : List ℕ) (c : Cursor) → at_end c.kind ≡ false → starts k w (ahead c) ≡ test k w (token_of c)
starts-more k w c e = ap (starts k w) (tokens-more (token_of c) c.rest.now e)

-- one way or the other of a choice by a word
pub on-met : {A : Type 0} (n : ℕ) (k : Kind) (w : List ℕ) (ts : List Lexeme) (way : ℕ → Reader A) (other : Reader A) → starts k w ts ≡ true → on n k w way other ts ≡ behind_word n way ts
on-met {A} n k w ts way other e = ap (λ (v : Bool). elim v as (λ _. _) [ true ↦ way (here n ts) (rest ts) | false ↦ other ts ]) e

pub on-other : {A : Type 0} (n : ℕ) (k : Kind) (w : List ℕ) (ts : List Lexeme) (way : ℕ → Reader A) (other : Reader A) → starts k w ts ≡ false → on n k w way other ts ≡ other ts
on-other {A} n k w ts way other e = ap (λ (v : Bool). elim v as (λ _. _) [ true ↦ way (here n ts) (rest ts) | false ↦ other ts ]) e

-- what is read behind the cursor's token
pub word-is : {A : Type 0} (c d : Cursor) (f : ℕ → Reader A) → Skips c d → behind_word (end_of c) f (ahead c) ≡ f c.place (ahead d)
word-is c d f s = ap (λ p. f p (rest (ahead c))) (here-is c) ∙ ap (f c.place) s.rest

-- what the test of a keyword or a mark answers
pub stands-met : (k : Kind) (w : List ℕ) (c : Cursor) (r : Bool) → at_end c.kind ≡ false → kind_number c.kind ≡ kind_number k → r ≡ same_bytes c.bytes.now w → r ≡ starts k w (ahead c)
stands-met k w c r h e s =
    let t : eqb (kind_number c.kind) (kind_number k) ≡ true = grind (arith, nat_tests) in
    s ∙ sym (starts-more k w c h ∙ ap (λ (v : Bool). elim v as (λ _. Bool) [ true ↦ same_bytes c.bytes.now w | false ↦ false ]) t)

kind_at : ℕ → Kind
kind_at n = cond (eqb n 0) End (cond (eqb n 1) Name (cond (eqb n 2) Keyword (cond (eqb n 3) Numeral Mark)))

back : (k : Kind) → kind_at (kind_number k) ≡ k
unfolding kind_at
back End = refl
back Name = refl
back Keyword = refl
back Numeral = refl
back Mark = refl

-- kinds with one number are one kind
pub one_kind : (k l : Kind) → kind_number k ≡ kind_number l → k ≡ l
one_kind k l e = sym (back k) ∙ ap kind_at e ∙ back l

pub stands-not : (k : Kind) (w : List ℕ) (c : Cursor) → at_end c.kind ≡ false → (kind_number c.kind ≡ kind_number k → ⊥) → false ≡ starts k w (ahead c)
stands-not k w c h e =
    let t : eqb (kind_number c.kind) (kind_number k) ≡ false = grind (arith, nat_tests) in
    sym (starts-more k w c h ∙ ap (λ (v : Bool). elim v as (λ _. Bool) [ true ↦ same_bytes c.bytes.now w | false ↦ false ]) t)

-- one token that is wanted, or not
pub one-some : {A : Type 0} (wanted : Lexeme → Option A) (c d : Cursor) (x : A) → at_end c.kind ≡ false → Skips c d → wanted (token_of c) ≡ Some x → one (end_of c) wanted (ahead c) ≡ Ok (x, ahead d)
one-some {A} wanted c d x k s e =
    let m = tokens-more (token_of c) c.rest.now k in
    ap (one (end_of c) wanted) (m ∙ ap (λ l. token_of c ∷ l) (sym (ap rest m) ∙ s.rest))
    ∙ ap (λ (o : Option A). elim o as (λ _. Result (A × List Lexeme) Refused) [ Some x ↦ Ok (x, ahead d) | None ↦ refuse (end_of c) 6 (token_of c ∷ ahead d) ]) e

pub one_none : {A : Type 0} (wanted : Lexeme → Option A) (c : Cursor) → wanted (token_of c) ≡ None → one (end_of c) wanted (ahead c) ≡ Err (record { number = 6; place = c.place })
one_none {A} wanted c e = by (at_end c.kind) refl
  where
    by : (v : Bool) → at_end c.kind ≡ v → one (end_of c) wanted (ahead c) ≡ Err (record { number = 6; place = c.place })
    by true k = ap (one (end_of c) wanted) (tokens-end (token_of c) c.rest.now k) ∙ ap (λ (p : ℕ). Err (record { number = 6; place = p })) (sym (c.sound.ends k))
    by false k =
        let ts = tokens_left (behind (token_of c)) c.rest.now in
        ap (one (end_of c) wanted) (tokens-more (token_of c) c.rest.now k)
        ∙ ap (λ (o : Option A). elim o as (λ _. Result (A × List Lexeme) Refused) [ Some x ↦ Ok (x, ts) | None ↦ refuse (end_of c) 6 (token_of c ∷ ts) ]) e

-- the name, the number and the atom that a token is
pub named : (t : Lexeme) → t.kind ≡ Name → name_in t ≡ Some (record { place = t.place; name = t.bytes })
named t e = ap (λ (k : Kind). elim (eqb (kind_number k) 1) as (λ _. Option Ident) [ true ↦ Some (record { place = t.place; name = t.bytes }) | false ↦ None ]) e

not_name : (k : Kind) → (k ≡ Name → ⊥) → eqb (kind_number k) 1 ≡ false
not_name End h = refl
not_name Name h = absurd (h refl)
not_name Keyword h = refl
not_name Numeral h = refl
not_name Mark h = refl

pub unnamed : (t : Lexeme) → (t.kind ≡ Name → ⊥) → name_in t ≡ None
unnamed t h = ap (λ (b : Bool). elim b as (λ _. Option Ident) [ true ↦ Some (record { place = t.place; name = t.bytes }) | false ↦ None ]) (not_name t.kind h)

abbrev atom-by : ℕ → Option Ident → Option ℤ → Option Atom
atom-by p n z = elim n [ Some x ↦ Some (var x) | None ↦ elim z [ Some n ↦ Some (num p n) | None ↦ None ] ]

pub atom-by_is : (t : Lexeme) (n : Option Ident) (z : Option ℤ) → name_in t ≡ n → number_in t ≡ z → atom_in t ≡ atom-by t.place n z
atom-by_is t n z e f = ap (λ (v : Option Ident). atom-by t.place v (number_in t)) e ∙ ap (atom-by t.place n) f

-- an atom is not the end
pub atom-more : (t : Lexeme) (x : Atom) → atom_in t ≡ Some x → at_end t.kind ≡ false
atom-more t x e = by t.kind refl
  where
    by : (k : Kind) → t.kind ≡ k → at_end t.kind ≡ false
    by End h = absurd (both_ways (is_some (atom_in t)) (ap (λ k. is_some (atom_in (record { kind = k; place = t.place; bytes = t.bytes }))) h) (ap is_some e))
    by Name h = ap at_end h
    by Keyword h = ap at_end h
    by Numeral h = ap at_end h
    by Mark h = ap at_end h
