-- The walk over a text: each token takes a byte at least, so the walk ends, and what a loop has counted joins what is left.
use Rattle.std.proofs.Common.{◌≡◌, ℕ, suc, ◌+◌, ◌-◌, ◌<◌, ◌≤◌, Bool, true, false, ◌||◌, eqb, List, [], ◌∷◌, length, Ok, Err, Result, sym, refl, ap, ◌∙◌, subst, arith, length-drop}
use Rattle.std.proofs.lemmas.List.{length-take-le}
use borrow.Author.Tests.{both_ways}
use Rattle.lexing.specs.declared.token.Kind.{Kind}
use Rattle.lexing.specs.declared.token.Kind.TheVariants.{End, Name, Keyword, Numeral, Mark}
use Rattle.lexing.specs.declared.fault.Question.{Question}
use Rattle.lexing.specs.declared.fault.Question.TheVariants.{FirstByte}
use Rattle.lexing.specs.Classes.{class_of, blank, letter, digit, minus, mark, word_byte}
use Rattle.lexing.specs.Runs.{run, begins}
use Rattle.lexing.specs.Tokens.{Lexeme, Refusal, width, kind_of, numeral_begins, numeral_width, unblanked, token_at}
use Rattle.lexing.specs.Texts.{at_end, behind}
use Rattle.lexing.proofs.Fronts.{run-within}
use Rattle.lexing.proofs.Offsets.{answer, token-at_is}

-- letters and digits are word bytes, and a run from a byte that passes has that byte
run-first : (f : ℕ → Bool) (b : ℕ) (bs : List ℕ) → f b ≡ true → 0 < run f (b ∷ bs)
run-first f b bs t = subst (λ (v : Bool). 0 < elim v as (λ _. ℕ) [ true ↦ suc (run f bs) | false ↦ 0 ]) (sym t) (omega arith)

width-by : (l n m : Bool) (W N L : ℕ) → W ≤ suc L → N ≤ suc L → elim l as (λ _. ℕ) [ true ↦ W | false ↦ elim n [ true ↦ N | false ↦ elim m [ true ↦ 1 | false ↦ 0 ] ] ] ≤ suc L
width-by true n m W N L f g = f
width-by false true m W N L f g = g
width-by false false true W N L f g = omega arith
width-by false false false W N L f g = omega arith

numeral_within : (b : ℕ) (bs : List ℕ) (m : Bool) → elim m as (λ _. ℕ) [ true ↦ suc (run digit bs) | false ↦ run digit (b ∷ bs) ] ≤ suc (length bs)
numeral_within b bs true = let h = run-within digit bs in omega arith
numeral_within b bs false = run-within digit (b ∷ bs)

-- a token is a part of its text
pub width-within : (body : List ℕ) → width body ≤ length body
width-within [] = omega arith
width-within (b ∷ bs) =
    width-by (letter b) (numeral_begins (b ∷ bs)) (mark b) (run word_byte (b ∷ bs)) (numeral_width (b ∷ bs)) (length bs) (run-within word_byte (b ∷ bs)) (numeral_within b bs (minus b))

pub letter-word : (b : ℕ) → letter b ≡ true → word_byte b ≡ true
letter-word b t = ap (λ v. v || (eqb (class_of b) 3 || (eqb (class_of b) 4 || false))) t

numeral_first : (b : ℕ) (bs : List ℕ) (m : Bool) → elim m as (λ _. Bool) [ true ↦ begins digit bs | false ↦ digit b ] ≡ true → 0 < elim m as (λ _. ℕ) [ true ↦ suc (run digit bs) | false ↦ run digit (b ∷ bs) ]
numeral_first b bs true t = omega arith
numeral_first b bs false t = run-first digit b bs t

first_by : (l n m : Bool) (W N : ℕ) (w u : Result Kind Question) (k : Kind) → (l ≡ true → 0 < W) → (n ≡ true → 0 < N)
    → elim l as (λ _. Result Kind Question) [ true ↦ w | false ↦ elim n [ true ↦ u | false ↦ elim m [ true ↦ Ok Mark | false ↦ Err FirstByte ] ] ] ≡ Ok k
    → 0 < elim l as (λ _. ℕ) [ true ↦ W | false ↦ elim n [ true ↦ N | false ↦ elim m [ true ↦ 1 | false ↦ 0 ] ] ]
first_by true n m W N w u k f g e = f refl
first_by false true m W N w u k f g e = g refl
first_by false false true W N w u k f g e = omega arith
first_by false false false W N w u k f g e = let z : ◌≡◌ {A = ℕ} 0 1 = cc in absurd (omega arith)

-- a token that is not the end has a byte at least
width-pos : (body : List ℕ) (k : Kind) → kind_of body ≡ Ok k → at_end k ≡ false → 0 < width body
width-pos [] k e h = let q : End ≡ k = cc in absurd (both_ways (at_end k) h (ap at_end (sym q)))
width-pos (b ∷ bs) k e h =
    first_by (letter b) (numeral_begins (b ∷ bs)) (mark b) (run word_byte (b ∷ bs)) (numeral_width (b ∷ bs)) _ _ k
    (λ t. run-first word_byte b bs (letter-word b t)) (numeral_first b bs (minus b)) e

abbrev rest_in : Result (Lexeme × List ℕ) Refusal → List ℕ
rest_in (Ok (t, rest)) = rest
rest_in (Err e) = []

abbrev place_in : Result (Lexeme × List ℕ) Refusal → ℕ
place_in (Ok (t, rest)) = t.place
place_in (Err e) = 0

abbrev bytes-in : Result (Lexeme × List ℕ) Refusal → List ℕ
bytes-in (Ok (t, rest)) = t.bytes
bytes-in (Err e) = []

abbrev ok_in : Result (Lexeme × List ℕ) Refusal → ℕ
ok_in (Ok (t, rest)) = 1
ok_in (Err e) = 0

abbrev kind-in : Result (Lexeme × List ℕ) Refusal → Kind
kind-in (Ok (t, rest)) = t.kind
kind-in (Err e) = End

-- behind a token that is not the end, less is left
shorter : (offset : ℕ) (s : List ℕ) (v : Result Kind Question) (t : Lexeme) (rest : List ℕ) → v ≡ kind_of (unblanked s)
    → answer (offset + run blank s) (unblanked s) v ≡ Ok (t, rest) → at_end t.kind ≡ false → length rest < length s
shorter offset s (Ok k) t rest e a h =
    let w : 0 < width (unblanked s) = width-pos (unblanked s) k (sym e) (ap at_end (ap kind-in a) ∙ h) in
    let n : width (unblanked s) ≤ length (unblanked s) = width-within (unblanked s) in
    let l : length rest ≡ length (unblanked s) - width (unblanked s) = ap length (sym (ap rest_in a)) ∙ length-drop (width (unblanked s)) (unblanked s) in
    let m : length (unblanked s) ≡ length s - run blank s = length-drop (run blank s) s in
    omega arith
shorter offset s (Err q) t rest e a h = absurd (both_ways (at_end t.kind) h (ap at_end (sym (ap kind-in a))))

-- each token but the end takes a byte at least
pub token-shorter : (offset : ℕ) (s : List ℕ) (t : Lexeme) (rest : List ℕ) → token_at offset s ≡ Ok (t, rest) → at_end t.kind ≡ false → length rest < length s
token-shorter offset s t rest e h = shorter offset s (kind_of (unblanked s)) t rest refl (sym (token-at_is offset s) ∙ e) h

-- where the rest behind a token stands: what is left reaches as far as the text did
behind-in : (offset : ℕ) (s : List ℕ) (v : Result Kind Question) (t : Lexeme) (rest : List ℕ) → answer (offset + run blank s) (unblanked s) v ≡ Ok (t, rest) → behind t + length rest ≡ offset + length s
behind-in offset s (Ok k) t rest a =
    let n : width (unblanked s) ≤ length (unblanked s) = width-within (unblanked s) in
    let b : run blank s ≤ length s = run-within blank s in
    let m : length (unblanked s) ≡ length s - run blank s = length-drop (run blank s) s in
    let p : t.place ≡ offset + run blank s = sym (ap place_in a) in
    let y : length t.bytes ≡ width (unblanked s) = ap length (sym (ap bytes-in a)) ∙ length-take-le (width (unblanked s)) (unblanked s) n in
    let l : length rest ≡ length (unblanked s) - width (unblanked s) = ap length (sym (ap rest_in a)) ∙ length-drop (width (unblanked s)) (unblanked s) in
    omega arith
behind-in offset s (Err q) t rest a = let z : ◌≡◌ {A = ℕ} 0 1 = ap ok_in a in absurd (omega arith)

pub token-behind : (offset : ℕ) (s : List ℕ) (t : Lexeme) (rest : List ℕ) → token_at offset s ≡ Ok (t, rest) → behind t + length rest ≡ offset + length s
token-behind offset s t rest e = behind-in offset s (kind_of (unblanked s)) t rest (sym (token-at_is offset s) ∙ e)

-- the rest is a part of the text, and so many bytes on
rest-in : (offset : ℕ) (s : List ℕ) (v : Result Kind Question) (t : Lexeme) (rest : List ℕ) → answer (offset + run blank s) (unblanked s) v ≡ Ok (t, rest) → length rest ≤ length s
rest-in offset s (Ok k) t rest a =
    let m : length (unblanked s) ≡ length s - run blank s = length-drop (run blank s) s in
    let l : length rest ≡ length (unblanked s) - width (unblanked s) = ap length (sym (ap rest_in a)) ∙ length-drop (width (unblanked s)) (unblanked s) in
    omega arith
rest-in offset s (Err q) t rest a = let z : ◌≡◌ {A = ℕ} 0 1 = ap ok_in a in absurd (omega arith)

pub token-rest : (offset : ℕ) (s : List ℕ) (t : Lexeme) (rest : List ℕ) → token_at offset s ≡ Ok (t, rest) → (length rest ≤ length s) × (behind t ≡ offset + (length s - length rest))
token-rest offset s t rest e =
    let l = rest-in offset s (kind_of (unblanked s)) t rest (sym (token-at_is offset s) ∙ e) in
    let b = token-behind offset s t rest e in
    (l, omega arith)

-- a kind that is not the end's
pub not_at_end : (k : Kind) → (k ≡ End → ⊥) → at_end k ≡ false
not_at_end End h = absurd (h refl)
not_at_end Name h = refl
not_at_end Keyword h = refl
not_at_end Numeral h = refl
not_at_end Mark h = refl
