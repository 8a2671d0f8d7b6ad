-- What an answer that is no refusal says of the answers and questions that it was made of.
use Rattle.std.proofs.Common.{◌≡◌, ℕ, Bool, true, false, not, ◌&&◌, is_some, Some, None, Ok, Err, Option, Result, refl, arith}
use Rattle.language.specs.Verdict.{Refused}
use Rattle.language.specs.Checking.{◌>>=◌, ◌>>◌, ask, found}

pub bound : {A B : Type 0} {y : B} (m : Result A Refused) (k : A → Result B Refused) → (m >>= k) ≡ Ok y → (x : A) × (m ≡ Ok x) × (k x ≡ Ok y)
bound (Ok a) k e = (a, refl, e)
bound (Err f) k e = absurd (let z : ◌≡◌ {A = ℕ} 0 1 = cc in omega arith)

pub after : {A B : Type 0} {y : B} (m : Result A Refused) (r : Result B Refused) → (m >> r) ≡ Ok y → (x : A) × (m ≡ Ok x) × (r ≡ Ok y)
after (Ok a) r e = (a, refl, e)
after (Err f) r e = absurd (let z : ◌≡◌ {A = ℕ} 0 1 = cc in omega arith)

pub ok-is : {A : Type 0} {x y : A} → ◌≡◌ {A = Result A Refused} (Ok x) (Ok y) → x ≡ y
ok-is e = cc

pub asked : {u : Unit {0}} (b : Bool) (n p : ℕ) → ask b n p ≡ Ok u → b ≡ true
asked true n p e = refl
asked false n p e = cc

pub found-is : {A : Type 0} {x : A} (o : Option A) (p : ℕ) → found o p ≡ Ok x → o ≡ Some x
found-is (Some y) p e = cc
found-is None p e = cc

pub none_is : {A : Type 0} (o : Option A) → not (is_some o) ≡ true → o ≡ None
none_is (Some x) e = cc
none_is None e = refl

pub some_is : {A : Type 0} (o : Option A) → is_some o ≡ true → (x : A) × (o ≡ Some x)
some_is (Some x) e = (x, refl)
some_is None e = absurd (let z : ◌≡◌ {A = ℕ} 0 1 = cc in omega arith)

pub not_is : (b : Bool) → not b ≡ true → b ≡ false
not_is true e = cc
not_is false e = refl

pub and_is : (a b : Bool) → (a && b) ≡ true → (a ≡ true) × (b ≡ true)
and_is true b e = (refl, e)
and_is false b e = (e, cc)

-- and the other way: an answer made of answers, and of questions answered yes
pub bind-says : {A B : Type 0} {x : A} {y : B} {m : Result A Refused} (k : A → Result B Refused) → m ≡ Ok x → k x ≡ Ok y → (m >>= k) ≡ Ok y
bind-says k e f = rw e f

pub then-says : {A B : Type 0} {x : A} {y : B} {m : Result A Refused} {r : Result B Refused} → m ≡ Ok x → r ≡ Ok y → (m >> r) ≡ Ok y
then-says e f = rw e f

pub ask-says : (b : Bool) (n p : ℕ) → b ≡ true → ask b n p ≡ Ok tt
ask-says b n p e = rw e

pub found-says : {A : Type 0} {x : A} {o : Option A} (p : ℕ) → o ≡ Some x → found o p ≡ Ok x
found-says p e = rw e

pub none-says : {A : Type 0} {o : Option A} → o ≡ None → not (is_some o) ≡ true
none-says e = rw e

pub not_says : {b : Bool} → b ≡ false → not b ≡ true
not_says e = rw e

pub and_says : {a b : Bool} → a ≡ true → b ≡ true → (a && b) ≡ true
and_says e f = rw (e, f)
