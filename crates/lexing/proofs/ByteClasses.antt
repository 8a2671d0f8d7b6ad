-- What follows of a byte from its class.
use Rattle.std.proofs.Common.{◌≡◌, ℕ, ◌≤◌, Bool, true, cond, ◌&&◌, eqb, leb, [], ◌∷◌, codes, arith, eqb-true}
use Rattle.std.proofs.lemmas.Bool.Decides.{nat_tests}
use Rattle.lexing.specs.Classes.{among, digit, minus}

-- of six tests in turn, the third was met
third : (a b c d e f : Bool) → eqb (cond a 1 (cond b 2 (cond c 3 (cond d 4 (cond e 5 (cond f 6 0)))))) 3 ≡ true → c ≡ true
third a b c d e f t = grind (arith, nat_tests)

-- a digit is one of the ten bytes from 48 on
pub digit-range : (b : ℕ) → digit b ≡ true → (48 ≤ b) × (b ≤ 57)
digit-range b t = let h : (leb 48 b && leb b 57) ≡ true = third (among b (9 ∷ 10 ∷ 13 ∷ 32 ∷ [])) (leb 97 b && leb b 122) (leb 48 b && leb b 57) (eqb b 95) (among b (codes "{}()[],;:=@")) (eqb b 45) t in grind (arith, nat_tests)

-- of six tests in turn, the sixth was met
sixth : (a b c d e f : Bool) → eqb (cond a 1 (cond b 2 (cond c 3 (cond d 4 (cond e 5 (cond f 6 0)))))) 6 ≡ true → f ≡ true
sixth a b c d e f t = grind (arith, nat_tests)

-- one byte is a minus
pub minus_is : (b : ℕ) → minus b ≡ true → b ≡ 45
minus_is b t =
    eqb-true b 45
    (sixth (among b (9 ∷ 10 ∷ 13 ∷ 32 ∷ [])) (leb 97 b && leb b 122) (leb 48 b && leb b 57) (eqb b 95) (among b (codes "{}()[],;:=@")) (eqb b 45) t)
