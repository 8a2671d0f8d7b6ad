-- Questions one after the other: where the parts agree, so does the whole.
use Rattle.std.proofs.Common.{◌≡◌, ℕ, Bool, true, false, Ok, Err, Result, refl, ap, ◌∙◌}
use Rattle.language.specs.Verdict.{Refused}
use Rattle.language.specs.Types.{Name, RegionType, same_type}
use Rattle.language.specs.Checking.{◌>>=◌, ◌>>◌, ask}
use Rattle.language.proofs.Names.{same-type_is}

-- a type with what is left
abbrev pub pair : {X : Type 0} → X → RegionType → Result (RegionType × X) Refused
pair x T = Ok (T, x)

-- a type with a place and what is left
abbrev pub triple : {X : Type 0} → ℕ → X → RegionType → Result (RegionType × ℕ × X) Refused
triple p x T = Ok (T, p, x)

-- an answer that goes on with its value
pub bound : {A B C D : Type 0} (R : Result A Refused) (f : A → B) (W : Result B Refused) (k : B → Result C Refused) (l : A → Result D Refused) (fin : D → Result C Refused)
    → W ≡ (R >>= (λ a. Ok (f a))) → ((a : A) → R ≡ Ok a → k (f a) ≡ (l a >>= fin)) → (W >>= k) ≡ ((R >>= l) >>= fin)
bound (Ok a) f W k l fin h g = ap (λ w. w >>= k) h ∙ g a refl
bound (Err e) f W k l fin h g = ap (λ w. w >>= k) h

-- a question alone
pub put : {C D : Type 0} (q : Result (Unit {0}) Refused) (K : Result C Refused) (L : Result D Refused) (fin : D → Result C Refused) → K ≡ (L >>= fin) → (q >> K) ≡ ((q >> L) >>= fin)
put (Ok a) K L fin h = h
put (Err e) K L fin h = refl

-- a region that is known
pub knowing : {C D : Type 0} (q : Result Name Refused) (K : Result C Refused) (L : Result D Refused) (fin : D → Result C Refused) → K ≡ (L >>= fin) → ((q >> Ok (tt {0})) >> K) ≡ ((q >> L) >>= fin)
knowing (Ok a) K L fin h = h
knowing (Err e) K L fin h = refl

-- a question that answers where the walk goes on
pub going : {X C D : Type 0} (q : Result (Unit {0}) Refused) (W : Result X Refused) (x : X) (k : X → Result C Refused) (L : Result D Refused) (fin : D → Result C Refused)
    → W ≡ (q >> Ok x) → k x ≡ (L >>= fin) → (W >>= k) ≡ ((q >> L) >>= fin)
going (Ok a) W x k L fin h g = ap (λ w. w >>= k) h ∙ g
going (Err e) W x k L fin h g = ap (λ w. w >>= k) h

by_sameness : {X : Type 0} (v : Bool) (U L : RegionType) (p : ℕ) (x : X) → same_type U L ≡ v → (ask v 13 p >> pair x U) ≡ ((ask v 13 p >> Ok L) >>= pair x)
by_sameness true U L p x e = ap (pair x) (same-type_is U L e)
by_sameness false U L p x e = refl

-- where two types are the same, either may be answered
pub either_type : {X : Type 0} (R : Result RegionType Refused) (W : Result (RegionType × ℕ × X) Refused) (L : RegionType) (p : ℕ) (x : X) → W ≡ (R >>= triple p x)
    → (W >>= (λ b. ask (same_type b.0 L) 13 b.1 >> pair b.2 b.0)) ≡ (((R >>= (λ U. ask (same_type U L) 13 p)) >> Ok L) >>= pair x)
either_type (Ok U) W L p x h = ap (λ w. w >>= (λ b. ask (same_type b.0 L) 13 b.1 >> pair b.2 b.0)) h ∙ by_sameness (same_type U L) U L p x refl
either_type (Err e) W L p x h = ap (λ w. w >>= (λ b. ask (same_type b.0 L) 13 b.1 >> pair b.2 b.0)) h

-- two questions before the rest
pub two : {B C D : Type 0} (q r : Result (Unit {0}) Refused) (W : Result B Refused) (k : B → Result C Refused) (L : Result D Refused) (fin : D → Result C Refused)
    → (W >>= k) ≡ (L >>= fin) → ((q >> (r >> W)) >>= k) ≡ ((q >> (r >> L)) >>= fin)
two (Ok a) (Ok b) W k L fin h = h
two (Ok a) (Err e) W k L fin h = refl
two (Err e) r W k L fin h = refl

-- a question by its test
pub tested : {C D : Type 0} (v : Bool) (number place : ℕ) (K : Result C Refused) (L : Result D Refused) (fin : D → Result C Refused) → (v ≡ true → K ≡ (L >>= fin)) → (ask v number place >> K) ≡ ((ask v number place >> L) >>= fin)
tested true number place K L fin h = h refl
tested false number place K L fin h = refl

pub itself : {A : Type 0} (R : Result A Refused) → R ≡ (R >>= (λ a. Ok a))
itself (Ok a) = refl
itself (Err e) = refl
