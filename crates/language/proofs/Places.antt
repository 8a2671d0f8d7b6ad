-- The tokens of a text stand at places that rise and are below its length, so a place tells where a list of tokens is split.
use Rattle.std.proofs.Common.{◌≡◌, ℕ, zero, suc, ◌+◌, ◌<◌, ◌≤◌, Bool, true, false, leb, List, [], ◌∷◌, ◌++◌, length, take, drop, Ok, Err, Result, sym, refl, ap, ◌∙◌, subst, arith, length-drop}
use Rattle.lexing.specs.declared.token.Kind.{Kind}
use Rattle.lexing.specs.declared.token.Kind.TheVariants.{End, Mark}
use Rattle.lexing.specs.declared.fault.Question.{Question}
use Rattle.lexing.specs.declared.fault.Question.TheVariants.{TextLength, FirstByte, TokenCount}
use Rattle.lexing.specs.Classes.{letter, digit, mark, minus, blank, word_byte}
use Rattle.lexing.specs.Runs.{run, begins}
use Rattle.lexing.specs.Tokens.{Lexeme, Refusal, width, numeral_width, numeral_begins, word_kind, numeral_kind, kind_of, unblanked, cut}
use Rattle.lexing.specs.Texts.{before, at_end, behind, tokens_from, tokens_of}
use Rattle.language.specs.Reading.{here}
use Rattle.language.proofs.Fitting.{false_true}

-- places from `low` on that rise and stay below the end
abbrev pub Rising : ℕ → ℕ → List Lexeme → Type 0
Rising low end [] = low ≤ end
Rising low end (t ∷ ts) = (low ≤ t.place) × Rising (suc t.place) end ts

rising_here : (low end : ℕ) (used left : List Lexeme) → Rising low end (used ++ left) → low ≤ here end left
rising_here low end [] [] h = h
rising_here low end [] (t ∷ left) h = h.0
rising_here low end (u ∷ used) left h = let k = rising_here (suc u.place) end used left h.1 in omega (arith, h.0)

-- two splits at one place are one
pub one_split : (low end : ℕ) (used left used' left' : List Lexeme) → Rising low end (used ++ left) → used ++ left ≡ used' ++ left' → here end left ≡ here end left' → (used ≡ used') × (left ≡ left')
one_split low end [] left [] left' h e p = (refl, e)
one_split low end [] [] (u ∷ used') left' h e p = absurd (let z : ◌≡◌ {A = ℕ} 0 1 = cc in omega arith)
one_split low end [] (t ∷ left) (u ∷ used') left' h e p =
    let tl : left ≡ used' ++ left' = cc in
    let hd : t ≡ u = cc in
    let k = rising_here (suc t.place) end used' left' (subst (Rising (suc t.place) end) tl h.1) in
    absurd (omega arith)
one_split low end (t ∷ used) left [] [] h e p = absurd (let z : ◌≡◌ {A = ℕ} 0 1 = cc in omega arith)
one_split low end (t ∷ used) left [] (u ∷ left') h e p =
    let hd : t ≡ u = cc in
    let q : t.place ≡ u.place = ap (λ (x : Lexeme). x.place) hd in
    let k = rising_here (suc t.place) end used left h.1 in
    absurd (omega arith)
one_split low end (t ∷ used) left (u ∷ used') left' h e p =
    let tl : used ++ left ≡ used' ++ left' = cc in
    let hd : t ≡ u = cc in
    let r = one_split (suc t.place) end used left used' left' h.1 tl p in
    (cc r.0, r.1)

run-le : (f : ℕ → Bool) (s : List ℕ) → run f s ≤ length s
run-le f [] = omega arith
run-le f (b ∷ s) = by (f b) (run-le f s)
  where
    by : (t : Bool) → run f s ≤ length s → elim t [ true ↦ suc (run f s) | false ↦ 0 ] ≤ suc (length s)
    by true h = omega arith
    by false h = omega arith

run-some : (f : ℕ → Bool) (b : ℕ) (s : List ℕ) → f b ≡ true → 0 < run f (b ∷ s)
run-some f b s e = rw (e, run) (omega arith)

letter-word : (b : ℕ) → letter b ≡ true → word_byte b ≡ true
letter-word b e = cc

-- a token that begins has a byte
width_some : (b : ℕ) (bs : List ℕ) (k : Kind) → kind_of (b ∷ bs) ≡ Ok k → 0 < width (b ∷ bs)
width_some b bs k e = by (letter b) refl (numeral_begins (b ∷ bs)) refl (mark b) refl e
  where
    numeral : numeral_begins (b ∷ bs) ≡ true → 0 < numeral_width (b ∷ bs)
    numeral h = at (minus b) refl h
      where
        at : (t : Bool) → minus b ≡ t → ◌≡◌ {A = Bool} (elim t [ true ↦ begins digit bs | false ↦ digit b ]) true → 0 < elim t [ true ↦ suc (run digit bs) | false ↦ run digit (b ∷ bs) ]
        at true m h = omega arith
        at false m h = run-some digit b bs h

    by : (l : Bool) → letter b ≡ l → (n : Bool) → numeral_begins (b ∷ bs) ≡ n → (m : Bool) → mark b ≡ m
        → ◌≡◌ {A = Result Kind Question} (elim l [ true ↦ word_kind (take (width (b ∷ bs)) (b ∷ bs)) | false ↦ elim n [ true ↦ numeral_kind (take (width (b ∷ bs)) (b ∷ bs)) (drop (width (b ∷ bs)) (b ∷ bs)) | false ↦ elim m [ true ↦ Ok Mark | false ↦ Err FirstByte ] ] ]) (Ok k)
        → 0 < elim l [ true ↦ run word_byte (b ∷ bs) | false ↦ elim n [ true ↦ numeral_width (b ∷ bs) | false ↦ elim m [ true ↦ 1 | false ↦ 0 ] ] ]
    by true l n p m q e = run-some word_byte b bs (letter-word b l)
    by false l true p m q e = numeral p
    by false l false p true q e = omega arith
    by false l false p false q e = absurd (let z : ◌≡◌ {A = ℕ} 0 1 = cc in omega arith)

length-take_some : (n : ℕ) (b : ℕ) (bs : List ℕ) → 0 < n → 0 < length (take n (b ∷ bs))
length-take_some zero b bs h = absurd (omega arith)
length-take_some (suc n) b bs h = omega arith

take-drop_length : (n : ℕ) (s : List ℕ) → length (take n s) + length (drop n s) ≡ length s
take-drop_length zero s = omega arith
take-drop_length (suc n) [] = omega arith
take-drop_length (suc n) (b ∷ s) = let h = take-drop_length n s in omega arith

-- a token that is not the end has a byte
token-some : (s : List ℕ) (k : Kind) → kind_of s ≡ Ok k → at_end k ≡ false → 0 < length (take (width s) s)
token-some [] k e n = false_true (let z : k ≡ End = cc in let y : at_end k ≡ true = cc in sym n ∙ y)
token-some (b ∷ bs) k e n = length-take_some (width (b ∷ bs)) b bs (width_some b bs k e)

before-ok : (t : Lexeme) (r : Result (List Lexeme) Refusal) (ts : List Lexeme) → before t r ≡ Ok ts → (us : List Lexeme) × (r ≡ Ok us) × (t ∷ us ≡ ts)
before-ok t (Ok us) ts e = (us, refl, cc)
before-ok t (Err x) ts e = absurd (let z : ◌≡◌ {A = ℕ} 0 1 = cc in omega arith)

abbrev first_then : ℕ → ℕ → Result (Lexeme × List ℕ) Refusal → Result (List Lexeme) Refusal
first_then steps room (Err e) = Err e
first_then steps room (Ok (t, rest)) = elim (at_end t.kind) [
  | true ↦ Ok []
  | false ↦ elim room [ zero ↦ Err (record { question = TokenCount; place = t.place }) | suc more ↦ before t (tokens_from steps more (behind t) rest) ]
]

rising_from : (steps room offset end : ℕ) (s : List ℕ) (ts : List Lexeme) → offset + length s ≤ end → tokens_from steps room offset s ≡ Ok ts → Rising offset end ts
rising_from zero room offset end s ts h e = subst (Rising offset end) (let z : [] ≡ ts = cc in z) (let z : offset ≤ end = omega arith in z)
rising_from (suc steps) room offset end s ts h e = by (kind_of u) refl room e (rising_from steps)
  where
    u : List ℕ
    u = unblanked s

    tok : Kind → Lexeme
    tok k = record { kind = k; place = offset + run blank s; bytes = take (width u) u }

    by : (r : Result Kind Question) → kind_of u ≡ r → (room : ℕ)
        → first_then steps room (elim r [ Ok k ↦ Ok (cut offset s k) | Err q ↦ Err (record { question = q; place = offset + run blank s }) ]) ≡ Ok ts
        → ((room offset end : ℕ) (s : List ℕ) (ts : List Lexeme) → offset + length s ≤ end → tokens_from steps room offset s ≡ Ok ts → Rising offset end ts) → Rising offset end ts
    by (Err q) k room e go = absurd (let z : ◌≡◌ {A = ℕ} 0 1 = cc in omega arith)
    by (Ok kind) k room e go = at (at_end kind) refl room e
      where
        at : (b : Bool) → at_end kind ≡ b → (room : ℕ)
            → ◌≡◌ {A = Result (List Lexeme) Refusal} (elim b [ true ↦ Ok [] | false ↦ elim room [ zero ↦ Err (record { question = TokenCount; place = offset + run blank s }) | suc more ↦ before (tok kind) (tokens_from steps more (behind (tok kind)) (drop (width u) u)) ] ]) (Ok ts)
            → Rising offset end ts
        at true b room e = subst (Rising offset end) (let z : [] ≡ ts = cc in z) (let z : offset ≤ end = omega arith in z)
        at false b zero e = absurd (let z : ◌≡◌ {A = ℕ} 0 1 = cc in omega arith)
        at false b (suc more) e =
            let o = before-ok (tok kind) (tokens_from steps more (behind (tok kind)) (drop (width u) u)) ts e in
            let w = token-some u kind k b in
            let a = take-drop_length (width u) u in
            let c = length-drop (run blank s) s in
            let d = run-le blank s in
            let r = go more (behind (tok kind)) end (drop (width u) u) o.0 (omega arith) o.1 in
            subst (Rising offset end) o.2 (omega arith, lower o.0 (omega arith) r)
          where
            lower : (us : List Lexeme) {low low' : ℕ} → low ≤ low' → Rising low' end us → Rising low end us
            lower [] h r = omega arith
            lower (v ∷ us) h r = (omega (arith, r.0), r.1)

pub rising_tokens : (text : List ℕ) (ts : List Lexeme) → tokens_of text ≡ Ok ts → Rising 0 (length text) ts
rising_tokens text ts e = by (leb (length text) 16384) e
  where
    by : (b : Bool) → ◌≡◌ {A = Result (List Lexeme) Refusal} (elim b [ true ↦ tokens_from (suc (length text)) 4096 0 text | false ↦ Err (record { question = TextLength; place = 0 }) ]) (Ok ts) → Rising 0 (length text) ts
    by true e = rising_from (suc (length text)) 4096 0 (length text) text ts (omega arith) e
    by false e = absurd (let z : ◌≡◌ {A = ℕ} 0 1 = cc in omega arith)
