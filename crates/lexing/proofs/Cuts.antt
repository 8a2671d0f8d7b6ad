-- Where the token of a text without blanks before it is cut, for each shape that such a text has.
use Rattle.std.proofs.Common.{◌≡◌, ℕ, suc, Bool, true, false, ◌&&◌, eqb, List, [], ◌∷◌, ◌++◌, length, take, drop, Ok, Err, Result, sym, refl, ap, ◌∙◌, eqb-true}
use lib.Seq.{take-append_seam, drop-append_seam}
use borrow.Author.Tests.{both_ways}
use Rattle.lexing.specs.declared.token.Kind.{Kind}
use Rattle.lexing.specs.declared.token.Kind.TheVariants.{End, Mark}
use Rattle.lexing.specs.declared.fault.Question.{Question}
use Rattle.lexing.specs.declared.fault.Question.TheVariants.{FirstByte}
use Rattle.lexing.specs.Classes.{class_of, blank, letter, digit, mark, minus, word_byte}
use Rattle.lexing.specs.Runs.{run, begins, every}
use Rattle.lexing.specs.Numerals.{digits}
use Rattle.lexing.specs.Tokens.{numeral_begins, numeral_width, width, kind_of, word_kind, numeral_kind}
use Rattle.lexing.specs.Laws.{Word, Stray, written}
use Rattle.lexing.proofs.Longest.{run-front, both_left}
use Rattle.lexing.proofs.Shapes.{kind-word, kind-numeral}

-- a body is cut into bytes and a rest, and this is its kind
pub record Cut (body bytes rest : List ℕ) (kind : Result Kind Question) : Type 0 where
  pub whole : bytes ++ rest ≡ body
  pub no_blank : begins blank body ≡ false
  pub is_kind : kind_of body ≡ kind
  pub wide : width body ≡ length bytes

abbrev width-by : ℕ → ℕ → Bool → Bool → Bool → ℕ
width-by w n l k m = elim l [ true ↦ w | false ↦ elim k [ true ↦ n | false ↦ elim m [ true ↦ 1 | false ↦ 0 ] ] ]

abbrev kind-by : Bool → Result Kind Question
kind-by m = elim m [ true ↦ Ok Mark | false ↦ Err FirstByte ]

abbrev kind-of_by : Result Kind Question → Result Kind Question → Bool → Bool → Bool → Result Kind Question
kind-of_by w n l k m = elim l [ true ↦ w | false ↦ elim k [ true ↦ n | false ↦ elim m [ true ↦ Ok Mark | false ↦ Err FirstByte ] ] ]

-- the end
pub cut-end : Cut [] [] [] (Ok End)
cut-end = record { whole = refl; no_blank = refl; is_kind = refl; wide = refl }

-- a letter is a word byte and no blank
letter-no_blank : (b : ℕ) → letter b ≡ true → blank b ≡ false
letter-no_blank b t = ap (λ c. eqb c 1) (eqb-true (class_of b) 2 t)

-- a word
pub cut_word : (bytes rest : List ℕ) → Word bytes rest → Cut (bytes ++ rest) bytes rest (word_kind bytes)
cut_word [] rest w = absurd (both_ways false refl w.first)
cut_word (b ∷ bs) rest w =
    let body = b ∷ (bs ++ rest) in
    let wide : width body ≡ suc (length bs) = ap (λ v. width-by (run word_byte body) (numeral_width body) v (numeral_begins body) (mark b)) w.first ∙ run-front word_byte (b ∷ bs) rest w.all w.longest in
    record {
      whole = refl;
      no_blank = letter-no_blank b w.first;
      is_kind = sym (kind-word body (b ∷ bs) (word_kind (b ∷ bs)) w.first (sym (ap (λ n. take n body) wide ∙ take-append_seam (b ∷ bs) rest)) refl);
      wide = wide;
    }

-- where neither a word nor a numeral begins
others : (b : ℕ) (bs : List ℕ) (v : Bool) → letter b ≡ false → numeral_begins (b ∷ bs) ≡ false → mark b ≡ v
    → (kind_of (b ∷ bs) ≡ kind-by v) × (width (b ∷ bs) ≡ width-by 0 0 false false v)
others b bs v l n m =
    let body = b ∷ bs in
    let word = word_kind (take (width body) body) in
    let numeral = numeral_kind (take (width body) body) (drop (width body) body) in (
      ap (λ w. kind-of_by word numeral w (numeral_begins body) (mark b)) l ∙ ap (λ w. kind-of_by word numeral false w (mark b)) n ∙ ap kind-by m,
      ap (λ w. width-by (run word_byte body) (numeral_width body) w (numeral_begins body) (mark b)) l
          ∙ ap (λ w. width-by (run word_byte body) (numeral_width body) false w (mark b)) n ∙ ap (width-by 0 0 false false) m,
    )

no-numeral : (m x d : Bool) → d ≡ false → (m && x) ≡ false → elim m as (λ _. Bool) [ true ↦ x | false ↦ d ] ≡ false
no-numeral true x d e f = f
no-numeral false x d e f = e

-- a mark
pub cut-mark : (b : ℕ) (rest : List ℕ) → mark b ≡ true → Cut (b ∷ rest) (b ∷ []) rest (Ok Mark)
cut-mark b rest t =
    let c : class_of b ≡ 5 = eqb-true (class_of b) 5 t in
    let m : minus b ≡ false = ap (λ k. eqb k 6) c in
    let o = others b rest true (ap (λ k. eqb k 2) c) (no-numeral (minus b) (begins digit rest) (digit b) (ap (λ k. eqb k 3) c) (ap (λ v. v && begins digit rest) m)) t in
    record { whole = refl; no_blank = ap (λ k. eqb k 1) c; is_kind = o.0; wide = o.1 }

-- a byte that begins nothing
pub cut-stray : (body : List ℕ) → Stray body → Cut body [] body (Err FirstByte)
cut-stray [] h = absurd h
cut-stray (b ∷ bs) h =
    let o = others b bs false h.1 (no-numeral (minus b) (begins digit bs) (digit b) h.2 h.4) h.3 in
    record { whole = refl; no_blank = h.0; is_kind = o.0; wide = o.1 }

-- where a numeral begins
numeral_cut : (b : ℕ) (bs bytes rest : List ℕ) → bytes ++ rest ≡ b ∷ bs → blank b ≡ false → letter b ≡ false → numeral_begins (b ∷ bs) ≡ true → numeral_width (b ∷ bs) ≡ length bytes
    → Cut (b ∷ bs) bytes rest (numeral_kind bytes rest)
numeral_cut b bs bytes rest e k l n w =
    let body = b ∷ bs in
    let wide : width body ≡ length bytes =
    ap (λ v. width-by (run word_byte body) (numeral_width body) v (numeral_begins body) (mark b)) l ∙ ap (λ v. width-by (run word_byte body) (numeral_width body) false v (mark b)) n ∙ w in
    let front : take (width body) body ≡ bytes = ap (λ i. take i body) wide ∙ ap (take (length bytes)) (sym e) ∙ take-append_seam bytes rest in
    let back : drop (width body) body ≡ rest = ap (λ i. drop i body) wide ∙ ap (drop (length bytes)) (sym e) ∙ drop-append_seam bytes rest in
    record { whole = e; no_blank = k; is_kind = sym (kind-numeral body bytes rest (numeral_kind bytes rest) l n (sym front) (sym back) refl); wide = wide }

-- a numeral
pub cut-numeral : (negative : Bool) (ds rest : List ℕ) → digits ds ≡ true → begins digit rest ≡ false → Cut (written negative ds ++ rest) (written negative ds) rest (numeral_kind (written negative ds) rest)
cut-numeral negative [] rest t l = absurd (both_ways false refl t)
cut-numeral true (d ∷ ds) rest t l =
    numeral_cut 45 (d ∷ (ds ++ rest)) (45 ∷ d ∷ ds) rest refl refl refl (both_left (digit d) (every digit ds) t) (ap suc (run-front digit (d ∷ ds) rest t l))
cut-numeral false (d ∷ ds) rest t l =
    let h : digit d ≡ true = both_left (digit d) (every digit ds) t in
    let c : class_of d ≡ 3 = eqb-true (class_of d) 3 h in
    let m : minus d ≡ false = ap (λ k. eqb k 6) c in
    numeral_cut d (ds ++ rest) (d ∷ ds) rest refl (ap (λ k. eqb k 1) c) (ap (λ k. eqb k 2) c)
    (ap (λ v. elim v as (λ _. Bool) [ true ↦ begins digit (ds ++ rest) | false ↦ digit d ]) m ∙ h)
    (ap (λ v. elim v as (λ _. ℕ) [ true ↦ suc (run digit (ds ++ rest)) | false ↦ run digit (d ∷ (ds ++ rest)) ]) m ∙ run-front digit (d ∷ ds) rest t l)
