-- The kind and the width of a token, from what a look at the first bytes found.
use Rattle.std.proofs.Common.{◌≡◌, ℕ, suc, ◌+◌, ◌-◌, Bool, true, false, List, [], ◌∷◌, length, get_or, take, drop, Some, None, Ok, Err, Option, Result, MatchOption, slice_get, Bor, sym, refl, ap, ◌∙◌, one-add, arith}
use borrow.Author.Tests.{both_ways}
use Rattle.std.specs.Option.{option_copied}
use Rattle.std.proofs.lemmas.Option.{gets}
use Rattle.std.proofs.lemmas.Slice.{between_to_end}
use Rattle.lexing.specs.declared.token.Kind.{Kind}
use Rattle.lexing.specs.declared.token.Kind.TheVariants.{Mark}
use Rattle.lexing.specs.declared.fault.Question.{Question}
use Rattle.lexing.specs.declared.fault.Question.TheVariants.{FirstByte}
use Rattle.lexing.specs.Classes.{digit, minus, letter, mark, word_byte}
use Rattle.lexing.specs.Runs.{run, begins}
use Rattle.lexing.specs.Tokens.{numeral_begins, numeral_width, width, kind_of, word_kind, numeral_kind}

-- a test of the first byte, if there is one
pub begins-first : (f : ℕ → Bool) (bs : List ℕ) (o : Option (Bor ℕ)) (r : Bool) {P : Bor ℕ → Type 0} → option_copied o ≡ slice_get bs 0 → MatchOption o (r ≡ false) P → ((x : Bor ℕ) → P x → r ≡ f x.now) → r ≡ begins f bs
begins-first f [] None r e h k = h
begins-first f [] (Some x) r e h k = absurd (grind (arith, gets))
begins-first f (b ∷ bs) None r e h k = absurd (grind (arith, gets))
begins-first f (b ∷ bs) (Some x) r e h k = let n : x.now ≡ b = grind (arith, gets) in k x h ∙ ap f n

behind-first : (b : ℕ) (bs : List ℕ) → take (suc (length bs) - 1) bs ≡ bs
behind-first b bs = between_to_end (b ∷ bs) 1 (suc (length bs)) (omega arith)

-- a minus begins a numeral where a digit stands behind it
pub minus-begins : (bs : List ℕ) (r : Bool) → minus (get_or bs 0 0) ≡ true → r ≡ begins digit (take (length bs - 1) (drop 1 bs)) → r ≡ numeral_begins bs
minus-begins [] r t e = absurd (both_ways (minus 0) refl t)
minus-begins (b ∷ bs) r t e =
    let N : Bool → Bool = λ v. elim v [ true ↦ begins digit bs | false ↦ digit b ] in
    e ∙ ap (begins digit) (behind-first b bs) ∙ ap N (sym t)

-- the width of a numeral with a minus
pub minus-width : (bs : List ℕ) (n : ℕ) → minus (get_or bs 0 0) ≡ true → n ≡ run digit (take (length bs - 1) (drop 1 bs)) → 1 + n ≡ numeral_width bs
minus-width [] n t e = absurd (both_ways (minus 0) refl t)
minus-width (b ∷ bs) n t e =
    let N : Bool → ℕ = λ v. elim v [ true ↦ suc (run digit bs) | false ↦ run digit (b ∷ bs) ] in
    one-add n ∙ ap suc (e ∙ ap (run digit) (behind-first b bs)) ∙ ap N (sym t)

-- the width of a numeral with none
pub digits-width : (bs : List ℕ) (n : ℕ) → minus (get_or bs 0 0) ≡ false → n ≡ run digit bs → n ≡ numeral_width bs
digits-width [] n t e = e
digits-width (b ∷ bs) n t e =
    let N : Bool → ℕ = λ v. elim v [ true ↦ suc (run digit bs) | false ↦ run digit (b ∷ bs) ] in
    e ∙ ap N (sym t)

-- the width of a word
pub word-width : (bs : List ℕ) (n : ℕ) → letter (get_or bs 0 0) ≡ true → n ≡ run word_byte bs → n ≡ width bs
word-width [] n t e = absurd (both_ways (letter 0) refl t)
word-width (b ∷ bs) n t e =
    let N : Bool → ℕ = λ v. elim v [ true ↦ run word_byte (b ∷ bs) | false ↦ elim (numeral_begins (b ∷ bs)) as (λ _. ℕ) [ true ↦ numeral_width (b ∷ bs) | false ↦ elim (mark b) as (λ _. ℕ) [ true ↦ 1 | false ↦ 0 ] ] ] in
    e ∙ ap N (sym t)

abbrev kind-by : List ℕ → Bool → Bool → Bool → Result Kind Question
kind-by bs l n m = elim l [
  | true ↦ word_kind (take (width bs) bs)
  | false ↦ elim n [ true ↦ numeral_kind (take (width bs) bs) (drop (width bs) bs) | false ↦ elim m [ true ↦ Ok Mark | false ↦ Err FirstByte ] ]
]

-- a letter begins a word
pub kind-word : (bs w : List ℕ) (r : Result Kind Question) → letter (get_or bs 0 0) ≡ true → w ≡ take (width bs) bs → r ≡ word_kind w → r ≡ kind_of bs
kind-word [] w r t e k = absurd (both_ways (letter 0) refl t)
kind-word (b ∷ bs) w r t e k = k ∙ ap word_kind e ∙ ap (λ v. kind-by (b ∷ bs) v (numeral_begins (b ∷ bs)) (mark b)) (sym t)

-- a digit, or a minus with a digit behind it, begins a numeral
pub kind-numeral : (bs w rest : List ℕ) (r : Result Kind Question) → letter (get_or bs 0 0) ≡ false → numeral_begins bs ≡ true → w ≡ take (width bs) bs → rest ≡ drop (width bs) bs → r ≡ numeral_kind w rest → r ≡ kind_of bs
kind-numeral [] w rest r t u e f k = absurd (both_ways false refl u)
kind-numeral (b ∷ bs) w rest r t u e f k =
    k ∙ ap (λ v. numeral_kind v rest) e ∙ ap (numeral_kind (take (width (b ∷ bs)) (b ∷ bs))) f
    ∙ ap (λ v. kind-by (b ∷ bs) false v (mark b)) (sym u) ∙ ap (λ v. kind-by (b ∷ bs) v (numeral_begins (b ∷ bs)) (mark b)) (sym t)
