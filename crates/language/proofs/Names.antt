-- Names and types are told apart by computing: the tests of sameness hold exactly of what is equal.
use Rattle.std.proofs.Common.{◌≡◌, ℕ, Bool, true, false, eqb, List, [], ◌∷◌, refl, arith}
use Rattle.std.proofs.lemmas.Bool.Decides.{nat_tests}
use Rattle.lexing.specs.Tokens.{same_bytes}
use Rattle.language.specs.Types.{RegionType, int, list, same_type}

pub true_false : true ≡ false → ⊥
true_false e = let z : ◌≡◌ {A = ℕ} 0 1 = cc in omega arith

pub both : (b c : Bool) → elim b [ true ↦ c | false ↦ false ] ≡ true → (b ≡ true) × (c ≡ true)
both true c e = (refl, e)
both false c e = (e, cc)

pub both_hold : (b c : Bool) → b ≡ true → c ≡ true → elim b [ true ↦ c | false ↦ false ] ≡ true
both_hold true c e f = f
both_hold false c e f = e

pub eqb_refl : (n : ℕ) → eqb n n ≡ true
eqb_refl n = grind (arith, nat_tests)

pub same-bytes_is : (a b : List ℕ) → same_bytes a b ≡ true → a ≡ b
same-bytes_is [] [] e = refl
same-bytes_is [] (y ∷ b) e = cc
same-bytes_is (x ∷ a) [] e = cc
same-bytes_is (x ∷ a) (y ∷ b) e =
    let (h, t) = both (eqb x y) (same_bytes a b) e in
    let heads : x ≡ y = grind (arith, nat_tests) in
    cc (same-bytes_is a b t)

pub same-bytes_refl : (a : List ℕ) → same_bytes a a ≡ true
same-bytes_refl [] = refl
same-bytes_refl (x ∷ a) = both_hold (eqb x x) (same_bytes a a) (eqb_refl x) (same-bytes_refl a)

pub same-type_is : (T U : RegionType) → same_type T U ≡ true → T ≡ U
same-type_is int int e = refl
same-type_is int (list s U) e = cc
same-type_is (list r T) int e = cc
same-type_is (list r T) (list s U) e =
    let (h, t) = both (same_bytes r s) (same_type T U) e in
    cc (same-bytes_is r s h, same-type_is T U t)

pub same-type_refl : (T : RegionType) → same_type T T ≡ true
same-type_refl int = refl
same-type_refl (list r T) = both_hold (same_bytes r r) (same_type T T) (same-bytes_refl r) (same-type_refl T)
