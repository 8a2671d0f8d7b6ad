-- Tokens against entries of a spelling: what the test of a word tells, and fits and limits of lists one after the other.
use Rattle.std.proofs.Common.{◌≡◌, ℕ, zero, suc, Bool, true, false, eqb, List, [], ◌∷◌, ◌++◌, sym, refl, ap, ◌∙◌, arith, eq-eqb, eqb-true}
use Rattle.lexing.specs.declared.token.Kind.{Kind}
use Rattle.lexing.specs.declared.token.Kind.TheVariants.{End, Name, Keyword, Numeral, Mark}
use Rattle.lexing.specs.Tokens.{Lexeme, same_bytes}
use Rattle.lexing.specs.Numbers.{kind_number}
use Rattle.language.specs.Spelling.{Spelled, Is, Matches, none, more}
use Rattle.language.specs.Nesting.{shallow, shallows}
use Rattle.language.specs.Reading.{starts}

pub false_true : {A : Type 0} → false ≡ true → A
false_true e = absurd (let z : ◌≡◌ {A = ℕ} 0 1 = cc in omega arith)

kind-from : ℕ → Kind
kind-from zero = End
kind-from (suc zero) = Name
kind-from (suc (suc zero)) = Keyword
kind-from (suc (suc (suc zero))) = Numeral
kind-from (suc (suc (suc (suc n)))) = Mark

kind-back : (k : Kind) → kind-from (kind_number k) ≡ k
unfolding kind-from
kind-back End = refl
kind-back Name = refl
kind-back Keyword = refl
kind-back Numeral = refl
kind-back Mark = refl

pub same_kind : (j k : Kind) → kind_number j ≡ kind_number k → j ≡ k
same_kind j k e = sym (kind-back j) ∙ ap kind-from e ∙ kind-back k

pub same-is : (v w : List ℕ) → same_bytes v w ≡ true → v ≡ w
same-is [] [] e = refl
same-is [] (b ∷ w) e = false_true e
same-is (a ∷ v) [] e = false_true e
same-is (a ∷ v) (b ∷ w) e = by (eqb a b) refl e (same-is v w)
  where
    by : (t : Bool) → eqb a b ≡ t → ◌≡◌ {A = Bool} (elim t [ true ↦ same_bytes v w | false ↦ false ]) true → (same_bytes v w ≡ true → v ≡ w) → a ∷ v ≡ b ∷ w
    by true h e go = cc (eqb-true a b h, go e)
    by false h e go = false_true e

same_self : (w : List ℕ) → same_bytes w w ≡ true
same_self [] = refl
same_self (b ∷ w) = cc (eq-eqb b b refl, same_self w)

-- what the test says of a token with this kind and these bytes
abbrev pub tests : Kind → List ℕ → Kind → List ℕ → Bool
tests j v k w = elim (eqb (kind_number j) (kind_number k)) [ true ↦ same_bytes v w | false ↦ false ]

tests_is : (j : Kind) (v : List ℕ) (k : Kind) (w : List ℕ) → tests j v k w ≡ true → (j ≡ k) × (v ≡ w)
tests_is j v k w e = by (eqb (kind_number j) (kind_number k)) refl e
  where
    by : (t : Bool) → eqb (kind_number j) (kind_number k) ≡ t → ◌≡◌ {A = Bool} (elim t [ true ↦ same_bytes v w | false ↦ false ]) true → (j ≡ k) × (v ≡ w)
    by true h e = (same_kind j k (eqb-true _ _ h), same-is v w e)
    by false h e = false_true e

tests_self : (k : Kind) (w : List ℕ) → tests k w k w ≡ true
tests_self k w = cc (eq-eqb (kind_number k) (kind_number k) refl, same_self w)

-- a word that stands there passes its test, and what passes the test is the word
pub starts_is : (k : Kind) (w : List ℕ) (t : Lexeme) (ts : List Lexeme) → starts k w (t ∷ ts) ≡ true → Is k w t
starts_is k w t ts e = tests_is t.kind t.bytes k w e

pub starts-of : {j : Kind} {v : List ℕ} (k : Kind) (w : List ℕ) (t : Lexeme) (ts : List Lexeme) → Is j v t → starts k w (t ∷ ts) ≡ tests j v k w
starts-of k w t ts h = cc (h.0, h.1)

pub starts-self : (k : Kind) (w : List ℕ) (t : Lexeme) (ts : List Lexeme) → Is k w t → starts k w (t ∷ ts) ≡ true
starts-self k w t ts h = starts-of k w t ts h ∙ tests_self k w

pub matches_append : {ts us : List Lexeme} {is js : List Spelled} → Matches ts is → Matches us js → Matches (ts ++ us) (is ++ js)
matches_append none n = n
matches_append (more h m) n = more h (matches_append m n)

-- an entry that keeps to the limits, before others that do
pub shallows-more : (b l : ℕ) (i : Spelled) (is : List Spelled) → shallow b l i ≡ true → shallows b l is ≡ true → shallows b l (i ∷ is) ≡ true
shallows-more b l i is h k = cc

pub shallows-first : (b l : ℕ) (i : Spelled) (is : List Spelled) → shallows b l (i ∷ is) ≡ true → (shallow b l i ≡ true) × (shallows b l is ≡ true)
shallows-first b l i is h = by (shallow b l i) refl h
  where
    by : (t : Bool) → shallow b l i ≡ t → ◌≡◌ {A = Bool} (elim t [ true ↦ shallows b l is | false ↦ false ]) true → (shallow b l i ≡ true) × (shallows b l is ≡ true)
    by true e h = (e, h)
    by false e h = false_true h

pub shallows-append : (b l : ℕ) (is js : List Spelled) → shallows b l is ≡ true → shallows b l js ≡ true → shallows b l (is ++ js) ≡ true
shallows-append b l [] js h k = k
shallows-append b l (i ∷ is) js h k =
    let f = shallows-first b l i is h in
    shallows-more b l i (is ++ js) f.0 (shallows-append b l is js f.1 k)
