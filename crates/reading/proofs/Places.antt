-- Where a token and what is behind it stand in the whole text, and that the end stands at its end.
use Rattle.std.proofs.Common.{◌≡◌, ℕ, ◌+◌, Bool, true, false, leb, List, [], ◌∷◌, length, take, drop, is_some, Ok, Err, Result, sym, refl, ap, ◌∙◌, arith, length-drop}
use borrow.Author.Tests.{both_ways}
use Rattle.std.proofs.lemmas.List.{length-take-le, drop-drop}
use Rattle.lexing.specs.declared.token.Kind.{Kind}
use Rattle.lexing.specs.declared.token.Kind.TheVariants.{Name, Keyword, Numeral, Mark}
use Rattle.lexing.specs.declared.fault.Question.{Question}
use Rattle.lexing.specs.declared.fault.Question.TheVariants.{FirstByte, NameLength, NumeralFits}
use Rattle.lexing.specs.Classes.{blank, letter, mark, letter_like}
use Rattle.lexing.specs.Runs.{run, begins}
use Rattle.lexing.specs.Numerals.{number_of}
use Rattle.lexing.specs.Tokens.{Lexeme, Refusal, width, kind_of, numeral_begins, keyword, unblanked, token_at}
use Rattle.lexing.specs.Texts.{at_end, behind}
use Rattle.lexing.proofs.Offsets.{answer, token-at_is}
use Rattle.lexing.proofs.Walks.{width-within, token-behind}

-- the kind of a token that has a byte is not the end's
word-not_end : (w : List ℕ) (a b : Bool) (k : Kind) → elim a as (λ _. Result Kind Question) [ true ↦ Ok Keyword | false ↦ elim b [ true ↦ Ok Name | false ↦ Err NameLength ] ] ≡ Ok k → at_end k ≡ false
word-not_end w true b k e = ap at_end (let q : k ≡ Keyword = cc in q)
word-not_end w false true k e = ap at_end (let q : k ≡ Name = cc in q)
word-not_end w false false k e = let z : ◌≡◌ {A = ℕ} 0 1 = cc in absurd (omega arith)

numeral_not_end : (a b : Bool) (k : Kind) → elim a as (λ _. Result Kind Question) [ true ↦ Err NumeralFits | false ↦ elim b [ true ↦ Ok Numeral | false ↦ Err NumeralFits ] ] ≡ Ok k → at_end k ≡ false
numeral_not_end true b k e = let z : ◌≡◌ {A = ℕ} 0 1 = cc in absurd (omega arith)
numeral_not_end false true k e = ap at_end (let q : k ≡ Numeral = cc in q)
numeral_not_end false false k e = let z : ◌≡◌ {A = ℕ} 0 1 = cc in absurd (omega arith)

kind-not_end : (l n m : Bool) (u v : Result Kind Question) (k : Kind) → (u ≡ Ok k → at_end k ≡ false) → (v ≡ Ok k → at_end k ≡ false)
    → elim l as (λ _. Result Kind Question) [ true ↦ u | false ↦ elim n [ true ↦ v | false ↦ elim m [ true ↦ Ok Mark | false ↦ Err FirstByte ] ] ] ≡ Ok k → at_end k ≡ false
kind-not_end true n m u v k f g e = f e
kind-not_end false true m u v k f g e = g e
kind-not_end false false true u v k f g e = ap at_end (let q : k ≡ Mark = cc in q)
kind-not_end false false false u v k f g e = let z : ◌≡◌ {A = ℕ} 0 1 = cc in absurd (omega arith)

end_empty : (body : List ℕ) (k : Kind) → kind_of body ≡ Ok k → at_end k ≡ true → length body ≡ 0
end_empty [] k e h = refl
end_empty (b ∷ bs) k e h =
    let w = take (width (b ∷ bs)) (b ∷ bs) in
    let r = drop (width (b ∷ bs)) (b ∷ bs) in
    absurd (both_ways (at_end k)
    (kind-not_end (letter b) (numeral_begins (b ∷ bs)) (mark b) _ _ k (word-not_end w (keyword w) (leb (length w) 24) k) (numeral_not_end (begins letter_like r) (is_some (number_of w)) k) e) h)

-- the token's bytes and the rest behind it, as parts of a text that the part stands in
pub record Placed (offset : ℕ) (s text : List ℕ) (t : Lexeme) (rest : List ℕ) : Type 0 where
  pub bytes : t.bytes ≡ take (length t.bytes) (drop t.place text)
  pub stands : rest ≡ drop (behind t) text
  pub reaches : behind t + length rest ≡ offset + length s
  pub ends : at_end t.kind ≡ true → t.place ≡ offset + length s
  pub empty : at_end t.kind ≡ true → length rest ≡ 0

abbrev snd_of : Result (Lexeme × List ℕ) Refusal → List ℕ
snd_of (Ok (t, rest)) = rest
snd_of (Err e) = []

abbrev fst_of : Result (Lexeme × List ℕ) Refusal → Lexeme → Lexeme
fst_of (Ok (t, rest)) d = t
fst_of (Err e) d = d

placed_by : (offset : ℕ) (s text : List ℕ) (v : Result Kind Question) (t : Lexeme) (rest : List ℕ) → v ≡ kind_of (unblanked s) → s ≡ drop offset text
    → answer (offset + run blank s) (unblanked s) v ≡ Ok (t, rest) → behind t + length rest ≡ offset + length s → Placed offset s text t rest
placed_by offset s text (Err q) t rest v st a b = let z : ◌≡◌ {A = ℕ} 0 1 = cc in absurd (omega arith)
placed_by offset s text (Ok k) t rest v st a b =
    let body = unblanked s in
    let p : t.place ≡ offset + run blank s = ap (λ r. (fst_of r t).place) (sym a) in
    let y : t.bytes ≡ take (width body) body = ap (λ r. (fst_of r t).bytes) (sym a) in
    let kk : t.kind ≡ k = ap (λ r. (fst_of r t).kind) (sym a) in
    let rr : rest ≡ drop (width body) body = ap snd_of (sym a) in
    let n : length t.bytes ≡ width body = ap length y ∙ length-take-le (width body) body (width-within body) in
    let none : at_end t.kind ≡ true → (length body ≡ 0) × (length t.bytes ≡ 0) × (length rest ≡ 0) = λ h.
    let z : length body ≡ 0 = end_empty body k (sym v) (ap at_end (sym kk) ∙ h) in
    let x : length t.bytes ≡ 0 = let w = width-within body in omega arith in
    let r : length rest ≡ 0 = ap length rr ∙ length-drop (width body) body ∙ (omega arith) in
    (z, x, r) in
    let d : body ≡ drop t.place text = ap (drop (run blank s)) st ∙ drop-drop (run blank s) offset text ∙ ap (λ m. drop m text) (sym p) in
    record {
      bytes = y ∙ ap (λ m. take m body) (sym n) ∙ ap (take (length t.bytes)) d;
      stands = rr ∙ ap (λ m. drop m body) (sym n) ∙ ap (drop (length t.bytes)) d ∙ drop-drop (length t.bytes) t.place text;
      reaches = b;
      ends = λ h.
          let x = (none h).1 in
          let r = (none h).2 in
          omega arith;
      empty = λ h. (none h).2;
    }

pub placed : (offset : ℕ) (s text : List ℕ) (t : Lexeme) (rest : List ℕ) → s ≡ drop offset text → token_at offset s ≡ Ok (t, rest) → Placed offset s text t rest
placed offset s text t rest st e = placed_by offset s text (kind_of (unblanked s)) t rest refl st (sym (token-at_is offset s) ∙ e) (token-behind offset s t rest e)
