-- The kind of a word and of a numeral, case by case.
use Rattle.std.proofs.Common.{◌≡◌, ℕ, ◌<◌, ◌≤◌, Bool, true, false, eqb, leb, List, [], ◌∷◌, length, ℤ, is_some, Some, Ok, Err, Option, Result, sym, refl, ap, ◌∙◌, eqb-true, le-leb, leb-false}
use borrow.Author.Tests.{both_ways, lt-leb}
use Rattle.lexing.specs.declared.token.Kind.{Kind}
use Rattle.lexing.specs.declared.token.Kind.TheVariants.{Name, Keyword, Numeral}
use Rattle.lexing.specs.declared.fault.Question.{Question}
use Rattle.lexing.specs.declared.fault.Question.TheVariants.{NumeralFits, NameLength}
use Rattle.lexing.specs.Classes.{class_of, digit, minus, letter_like}
use Rattle.lexing.specs.Runs.{begins, every}
use Rattle.lexing.specs.Numerals.{decimal, bound, digits, only, with_sign, signed_32, meaning, number_of}
use Rattle.lexing.specs.Tokens.{keyword, word_kind, numeral_kind}
use Rattle.lexing.specs.Laws.{written}
use Rattle.lexing.proofs.Longest.{both_left}
use Rattle.lexing.proofs.ByteClasses.{minus_is}

abbrev word-by : Bool → Bool → Result Kind Question
word-by k l = elim k [ true ↦ Ok Keyword | false ↦ elim l [ true ↦ Ok Name | false ↦ Err NameLength ] ]

pub kind-keyword : (w : List ℕ) → keyword w ≡ true → word_kind w ≡ Ok Keyword
kind-keyword w t = ap (λ v. word-by v (leb (length w) 24)) t

pub kind-name : (w : List ℕ) → keyword w ≡ false → length w ≤ 24 → word_kind w ≡ Ok Name
kind-name w t h = ap (λ v. word-by v (leb (length w) 24)) t ∙ ap (word-by false) (le-leb (length w) 24 h)

pub kind-overlong : (w : List ℕ) → keyword w ≡ false → 24 < length w → word_kind w ≡ Err NameLength
kind-overlong w t h = ap (λ v. word-by v (leb (length w) 24)) t ∙ ap (word-by false) (lt-leb (length w) 24 h)

abbrev numeral_by : Bool → Bool → Result Kind Question
numeral_by l n = elim l [ true ↦ Err NumeralFits | false ↦ elim n [ true ↦ Ok Numeral | false ↦ Err NumeralFits ] ]

pub kind_number : (n rest : List ℕ) → begins letter_like rest ≡ false → is_some (number_of n) ≡ true → numeral_kind n rest ≡ Ok Numeral
kind_number n rest l t = ap (λ v. numeral_by v (is_some (number_of n))) l ∙ ap (numeral_by false) t

pub kind-lettered : (n rest : List ℕ) → begins letter_like rest ≡ true → numeral_kind n rest ≡ Err NumeralFits
kind-lettered n rest l = ap (λ v. numeral_by v (is_some (number_of n))) l

pub kind-unfit : (n rest : List ℕ) → is_some (number_of n) ≡ false → numeral_kind n rest ≡ Err NumeralFits
kind-unfit n rest t = ap (numeral_by (begins letter_like rest)) t ∙ either (begins letter_like rest)
  where
    either : (v : Bool) → numeral_by v false ≡ Err NumeralFits
    either true = refl
    either false = refl

-- what a minus, or none, and digits mean
number-written : (negative : Bool) (ds : List ℕ) → digits ds ≡ true → number_of (written negative ds) ≡ signed_32 negative (decimal 0 ds)
number-written true ds t = ap (λ v. only v (signed_32 true (decimal 0 ds))) t
number-written false [] t = absurd (both_ways false refl t)
number-written false (d ∷ ds) t =
    let m : minus d ≡ false = ap (λ k. eqb k 6) (eqb-true (class_of d) 3 (both_left (digit d) (every digit ds) t)) in
    ap (λ v. elim v as (λ _. Option ℤ) [ true ↦ meaning true ds | false ↦ meaning false (d ∷ ds) ]) m ∙ ap (λ v. only v (signed_32 false (decimal 0 (d ∷ ds)))) t

some-by : (v : Bool) (z : ℤ) → is_some (only v (Some z)) ≡ v
some-by true z = refl
some-by false z = refl

number_fits : (negative : Bool) (ds : List ℕ) → digits ds ≡ true → is_some (number_of (written negative ds)) ≡ leb (decimal 0 ds) (bound negative)
number_fits negative ds t = ap is_some (number-written negative ds t) ∙ some-by (leb (decimal 0 ds) (bound negative)) (with_sign negative (decimal 0 ds))

-- a number that passes 32 signed bits
pub number-over : (negative : Bool) (ds : List ℕ) → digits ds ≡ true → bound negative < decimal 0 ds → is_some (number_of (written negative ds)) ≡ false
number-over negative ds t h = number_fits negative ds t ∙ lt-leb (decimal 0 ds) (bound negative) h

pub number-none : (negative : Bool) (ds : List ℕ) → digits ds ≡ true → is_some (number_of (written negative ds)) ≡ false → bound negative < decimal 0 ds
number-none negative ds t h = leb-false (decimal 0 ds) (bound negative) (sym (number_fits negative ds t) ∙ h)

only-some : (v : Bool) (z : Option ℤ) → is_some (only v z) ≡ true → v ≡ true
only-some true z h = refl
only-some false z h = absurd (both_ways false refl h)

abbrev meant : ℕ → List ℕ → Bool → Option ℤ
meant b bs v = elim v [ true ↦ meaning true bs | false ↦ meaning false (b ∷ bs) ]

-- what means a number is written with digits
pub number_digits : (n : List ℕ) → is_some (number_of n) ≡ true → (negative : Bool) × (ds : List ℕ) × (written negative ds ≡ n) × (digits ds ≡ true)
number_digits [] h = absurd (both_ways false refl h)
number_digits (b ∷ bs) h = go (minus b) refl
  where
    go : (v : Bool) → minus b ≡ v → (negative : Bool) × (ds : List ℕ) × (written negative ds ≡ b ∷ bs) × (digits ds ≡ true)
    go true t = (true, bs, ap (λ k. k ∷ bs) (sym (minus_is b t)), only-some (digits bs) (signed_32 true (decimal 0 bs)) (sym (ap (λ v. is_some (meant b bs v)) t) ∙ h))
    go false t = (false, b ∷ bs, refl, only-some (digits (b ∷ bs)) (signed_32 false (decimal 0 (b ∷ bs))) (sym (ap (λ v. is_some (meant b bs v)) t) ∙ h))
