-- Every text without blanks before it begins with a token of some kind, or fails a question, and it is cut accordingly.
use Rattle.std.proofs.Common.{◌≡◌, ℕ, ◌<◌, ◌≤◌, Bool, true, false, ◌&&◌, leb, List, [], ◌∷◌, ◌++◌, length, take, drop, is_some, Ok, Err, Result, sym, refl, ap, ◌∙◌, subst, inl, inr, ⊎_elim, arith, take-append-drop, leb-false, leb-true}
use Rattle.lexing.specs.declared.token.Kind.{Kind}
use Rattle.lexing.specs.declared.token.Kind.TheVariants.{End, Name, Keyword, Numeral, Mark}
use Rattle.lexing.specs.declared.fault.Question.{Question}
use Rattle.lexing.specs.declared.fault.Question.TheVariants.{FirstByte, NumeralFits, NameLength}
use Rattle.lexing.specs.Classes.{blank, letter, digit, mark, minus, word_byte, letter_like}
use Rattle.lexing.specs.Runs.{run, begins, every}
use Rattle.lexing.specs.Numerals.{digits, number_of}
use Rattle.lexing.specs.Tokens.{keyword, word_kind, numeral_kind}
use Rattle.lexing.specs.Laws.{Word, Fits, Fails, first_byte, numeral_fits, name_length, Stray, written}
use Rattle.lexing.proofs.ByteClasses.{minus_is}
use Rattle.lexing.proofs.Longest.{run-all, run-over, run_is}
use Rattle.lexing.proofs.KindCases.{kind-keyword, kind-name, kind-overlong, kind_number, kind-lettered, kind-unfit, number-over, number-none, number_digits}
use Rattle.lexing.proofs.Cuts.{Cut, cut-end, cut_word, cut-mark, cut-stray, cut-numeral}
use Rattle.lexing.proofs.Walks.{letter-word}

-- what the kind of a body says of it
abbrev pub Says : Result Kind Question → List ℕ → List ℕ → List ℕ → Type 0
Says (Ok k) body bytes rest = Fits k bytes rest
Says (Err q) body bytes rest = Fails q body

-- a body, cut, with what its kind says
pub record Sight (body : List ℕ) : Type 0 where
  pub bytes : List ℕ
  pub rest : List ℕ
  pub kind : Result Kind Question
  pub cut : Cut body bytes rest kind
  pub says : Says kind body bytes rest

-- the same cut, of a kind that is known otherwise
recast : (body bytes rest : List ℕ) (k j : Result Kind Question) → Cut body bytes rest k → k ≡ j → Cut body bytes rest j
recast body bytes rest k j c e = record { whole = c.whole; no_blank = c.no_blank; is_kind = c.is_kind ∙ e; wide = c.wide }

-- a word
see_word : (bytes rest : List ℕ) → Word bytes rest → Sight (bytes ++ rest)
see_word bytes rest w = by_keyword (keyword bytes) refl
  where
    by_length : keyword bytes ≡ false → (v : Bool) → leb (length bytes) 24 ≡ v → Sight (bytes ++ rest)
    by_length n true t =
        let l : length bytes ≤ 24 = leb-true (length bytes) 24 t in
        record { bytes = bytes; rest = rest; kind = Ok Name; cut = recast (bytes ++ rest) bytes rest (word_kind bytes) (Ok Name) (cut_word bytes rest w) (kind-name bytes n l); says = (w, n, l) }
    by_length n false t =
        let l : 24 < length bytes = leb-false (length bytes) 24 t in
        record {
          bytes = bytes;
          rest = rest;
          kind = Err NameLength;
          cut = recast (bytes ++ rest) bytes rest (word_kind bytes) (Err NameLength) (cut_word bytes rest w) (kind-overlong bytes n l);
          says = name_length (record { bytes = bytes; rest = rest; whole = refl; word = w; no_keyword = n; long = l });
        }

    by_keyword : (v : Bool) → keyword bytes ≡ v → Sight (bytes ++ rest)
    by_keyword true t = record { bytes = bytes; rest = rest; kind = Ok Keyword; cut = recast (bytes ++ rest) bytes rest (word_kind bytes) (Ok Keyword) (cut_word bytes rest w) (kind-keyword bytes t); says = (w, t) }
    by_keyword false t = by_length t (leb (length bytes) 24) refl

-- a numeral
see_numeral : (negative : Bool) (ds rest : List ℕ) → digits ds ≡ true → begins digit rest ≡ false → Sight (written negative ds ++ rest)
see_numeral negative ds rest d o = by_letter (begins letter_like rest) refl
  where
    seen : (k : Result Kind Question) → numeral_kind (written negative ds) rest ≡ k → Says k (written negative ds ++ rest) (written negative ds) rest → Sight (written negative ds ++ rest)
    seen k e h = record {
      bytes = written negative ds;
      rest = rest;
      kind = k;
      cut = recast (written negative ds ++ rest) (written negative ds) rest (numeral_kind (written negative ds) rest) k (cut-numeral negative ds rest d o) e;
      says = h;
    }

    by_number : begins letter_like rest ≡ false → (v : Bool) → is_some (number_of (written negative ds)) ≡ v → Sight (written negative ds ++ rest)
    by_number l true t = seen (Ok Numeral) (kind_number (written negative ds) rest l t) (t, o, l)
    by_number l false t =
        seen (Err NumeralFits) (kind-unfit (written negative ds) rest t)
        (numeral_fits (record { negative = negative; ds = ds; rest = rest; whole = refl; some = d; longest = o; wrong = inr (number-none negative ds d t) }))

    by_letter : (v : Bool) → begins letter_like rest ≡ v → Sight (written negative ds ++ rest)
    by_letter true t =
        seen (Err NumeralFits) (kind-lettered (written negative ds) rest t) (numeral_fits (record { negative = negative; ds = ds; rest = rest; whole = refl; some = d; longest = o; wrong = inl t }))
    by_letter false t = by_number t (is_some (number_of (written negative ds))) refl

-- a letter, then the word as far as it goes
see_letter : (b : ℕ) (bs : List ℕ) → letter b ≡ true → Sight (b ∷ bs)
see_letter b bs t =
    let n = run word_byte (b ∷ bs) in
    let first : begins letter (take n (b ∷ bs)) ≡ true = ap (λ k. begins letter (take k (b ∷ bs))) (run_is word_byte b bs true (letter-word b t)) ∙ t in
    subst Sight (take-append-drop n (b ∷ bs))
    (see_word (take n (b ∷ bs)) (drop n (b ∷ bs)) (record { first = first; all = run-all word_byte (b ∷ bs); longest = run-over word_byte (b ∷ bs) }))

-- digits as far as they go
digits-run : (bs : List ℕ) → begins digit bs ≡ true → digits (take (run digit bs) bs) ≡ true
digits-run [] t = t
digits-run (b ∷ bs) t = ap (λ k. digits (take k (b ∷ bs))) (run_is digit b bs true t) ∙ ap (λ v. v && every digit (take (run digit bs) bs)) t ∙ run-all digit bs

see_digits : (negative : Bool) (bs : List ℕ) → begins digit bs ≡ true → Sight (written negative bs)
see_digits true bs t =
    let n = run digit bs in
    subst (λ (l : List ℕ). Sight (45 ∷ l)) (take-append-drop n bs) (see_numeral true (take n bs) (drop n bs) (digits-run bs t) (run-over digit bs))
see_digits false bs t =
    let n = run digit bs in
    subst Sight (take-append-drop n bs) (see_numeral false (take n bs) (drop n bs) (digits-run bs t) (run-over digit bs))

-- a mark, or nothing
see_other : (b : ℕ) (bs : List ℕ) → blank b ≡ false → letter b ≡ false → digit b ≡ false → (minus b && begins digit bs) ≡ false → (v : Bool) → mark b ≡ v → Sight (b ∷ bs)
see_other b bs k l d m true t = record { bytes = b ∷ []; rest = bs; kind = Ok Mark; cut = cut-mark b bs t; says = (refl, ap (λ v. v && true) t) }
see_other b bs k l d m false t = let h : Stray (b ∷ bs) = (k, l, d, t, m) in record { bytes = []; rest = b ∷ bs; kind = Err FirstByte; cut = cut-stray (b ∷ bs) h; says = first_byte h }

see_minus : (b : ℕ) (bs : List ℕ) → blank b ≡ false → letter b ≡ false → digit b ≡ false → (v : Bool) → minus b ≡ v → Sight (b ∷ bs)
see_minus b bs k l d false t = see_other b bs k l d (ap (λ v. v && begins digit bs) t) (mark b) refl
see_minus b bs k l d true t = by_digit (begins digit bs) refl
  where
    by_digit : (v : Bool) → begins digit bs ≡ v → Sight (b ∷ bs)
    by_digit true u = subst (λ (c : ℕ). Sight (c ∷ bs)) (sym (minus_is b t)) (see_digits true bs u)
    by_digit false u = see_other b bs k l d (ap (λ v. v && begins digit bs) t ∙ u) (mark b) refl

-- any body
pub see : (body : List ℕ) → begins blank body ≡ false → Sight body
see [] k = record { bytes = []; rest = []; kind = Ok End; cut = cut-end; says = (refl, refl) }
see (b ∷ bs) k = by_letter (letter b) refl
  where
    by_digit : letter b ≡ false → (v : Bool) → digit b ≡ v → Sight (b ∷ bs)
    by_digit l true t = see_digits false (b ∷ bs) t
    by_digit l false t = see_minus b bs k l t (minus b) refl

    by_letter : (v : Bool) → letter b ≡ v → Sight (b ∷ bs)
    by_letter true t = see_letter b bs t
    by_letter false t = by_digit t (digit b) refl

one-mark : (bytes rest : List ℕ) → length bytes ≡ 1 → every mark bytes ≡ true → Cut (bytes ++ rest) bytes rest (Ok Mark)
one-mark [] rest n t = absurd (omega arith)
one-mark (b ∷ []) rest n t = cut-mark b rest (alone (mark b) t)
  where
    alone : (v : Bool) → (v && true) ≡ true → v ≡ true
    alone true h = refl
    alone false h = h
one-mark (b ∷ c ∷ bs) rest n t = absurd (omega arith)

-- what fits a kind is cut as that kind
pub cut_fits : (k : Kind) (bytes rest : List ℕ) → Fits k bytes rest → Cut (bytes ++ rest) bytes rest (Ok k)
cut_fits End bytes rest f = subst (λ (b : List ℕ). Cut (b ++ rest) b rest (Ok End)) (sym f.0) (subst (λ (r : List ℕ). Cut r [] r (Ok End)) (sym f.1) cut-end)
cut_fits Name bytes rest f = recast (bytes ++ rest) bytes rest (word_kind bytes) (Ok Name) (cut_word bytes rest f.0) (kind-name bytes f.1 f.2)
cut_fits Keyword bytes rest f = recast (bytes ++ rest) bytes rest (word_kind bytes) (Ok Keyword) (cut_word bytes rest f.0) (kind-keyword bytes f.1)
cut_fits Numeral bytes rest f =
    let d = number_digits bytes f.0 in
    let c : Cut (bytes ++ rest) bytes rest (numeral_kind bytes rest) = subst (λ (n : List ℕ). Cut (n ++ rest) n rest (numeral_kind n rest)) d.2 (cut-numeral d.0 d.1 rest d.3 f.1) in
    recast (bytes ++ rest) bytes rest (numeral_kind bytes rest) (Ok Numeral) c (kind_number bytes rest f.2 f.0)
cut_fits Mark bytes rest f = one-mark bytes rest f.0 f.1

-- where a question fails, a body is cut as that question
pub cut-fails : {q : Question} (body : List ℕ) → Fails q body → (bytes : List ℕ) × (rest : List ℕ) × Cut body bytes rest (Err q)
cut-fails body (first_byte f) = ([], body, cut-stray body f)
cut-fails body (numeral_fits f) =
    let n = written f.negative f.ds in
    let e : numeral_kind n f.rest ≡ Err NumeralFits = ⊎_elim (kind-lettered n f.rest) (λ h. kind-unfit n f.rest (number-over f.negative f.ds f.some h)) f.wrong in (
      n,
      f.rest,
      subst (λ (b : List ℕ). Cut b n f.rest (Err NumeralFits)) f.whole
          (recast (n ++ f.rest) n f.rest (numeral_kind n f.rest) (Err NumeralFits) (cut-numeral f.negative f.ds f.rest f.some f.longest) e),
    )
cut-fails body (name_length f) = (
  f.bytes,
  f.rest,
  subst (λ (b : List ℕ). Cut b f.bytes f.rest (Err NameLength)) f.whole
      (recast (f.bytes ++ f.rest) f.bytes f.rest (word_kind f.bytes) (Err NameLength) (cut_word f.bytes f.rest f.word) (kind-overlong f.bytes f.no_keyword f.long)),
)
