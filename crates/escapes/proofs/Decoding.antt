-- How the bytes of a line come one by one.
use Rattle.std.proofs.Common.{◌≡◌, ℕ, zero, suc, ◌<◌, Bool, true, false, cond, eqb, List, [], ◌∷◌, ◌++◌, length, Some, None, Option, sym, refl, ap, ◌∙◌, subst, append_assoc, arith}
use Rattle.escapes.specs.Escapes.{hex, pair, hexed, escaped, decoded, before, bytes_from, unescaped}

abbrev some_in : {A : Type 0} → Option A → ℕ
some_in (Some x) = 1
some_in None = 0

-- what an answer leaves is shorter than the text
abbrev Shorter : ℕ → Option (ℕ × List ℕ) → Type 0
Shorter n (Some (b, rest)) = length rest < n
Shorter n None = Unit {0}

pair-shorter : (a b : Option ℕ) (rest : List ℕ) (n : ℕ) → length rest < n → Shorter n (pair a b rest)
pair-shorter (Some a) (Some b) rest n h = h
pair-shorter (Some a) None rest n h = tt
pair-shorter None b rest n h = tt

hexed-shorter : (s : List ℕ) (n : ℕ) → length s < n → Shorter n (hexed s)
hexed-shorter [] n h = tt
hexed-shorter (x ∷ []) n h = tt
hexed-shorter (x ∷ (y ∷ rest)) n h = pair-shorter (hex x) (hex y) rest n (omega arith)

by_test : (v : Bool) (a b : Option (ℕ × List ℕ)) (n : ℕ) → Shorter n a → Shorter n b → Shorter n (cond v a b)
by_test true a b n h k = h
by_test false a b n h k = k

escaped-shorter : (s : List ℕ) (n : ℕ) → length s < n → Shorter n (escaped s)
escaped-shorter [] n h = tt
escaped-shorter (c ∷ rest) n h =
    let k : length rest < n = omega arith in
    by_test (eqb c 110) _ _ n k (by_test (eqb c 116) _ _ n k (by_test (eqb c 92) _ _ n k (by_test (eqb c 120) _ _ n (hexed-shorter rest n k) tt)))

pub decoded-shorter : (s : List ℕ) (b : ℕ) (rest : List ℕ) → Some (b, rest) ≡ decoded s → length rest < length s
decoded-shorter [] b rest e = let z : ◌≡◌ {A = ℕ} 1 0 = ap some_in e in absurd (omega arith)
decoded-shorter (c ∷ cs) b rest e =
    let h : Shorter (suc (length cs)) (decoded (c ∷ cs)) = by_test (eqb c 92) (escaped cs) (Some (c, cs)) (suc (length cs)) (escaped-shorter cs (suc (length cs)) (omega arith)) (omega arith) in
    subst (Shorter (suc (length cs))) (sym e) h

-- the bytes from one on, by what was decoded
abbrev after : ℕ → Option (ℕ × List ℕ) → Option (List ℕ)
after steps (Some (c, rest)) = before c (bytes_from steps rest)
after steps None = None

after_is : (steps b : ℕ) (bs : List ℕ) → bytes_from (suc steps) (b ∷ bs) ≡ after steps (decoded (b ∷ bs))
after_is steps b bs = elim (decoded (b ∷ bs)) as (λ v. elim v as (λ _. Option (List ℕ)) [ Some (c, rest) ↦ before c (bytes_from steps rest) | None ↦ None ] ≡ after steps v) [ Some (c, rest) ↦ refl | None ↦ refl ]

after_same : (k m : ℕ) (a : Option (ℕ × List ℕ)) → ((c : ℕ) (rest : List ℕ) → Some (c, rest) ≡ a → bytes_from k rest ≡ bytes_from m rest) → after k a ≡ after m a
after_same k m (Some (c, rest)) h = ap (before c) (h c rest refl)
after_same k m None h = refl

-- more steps than bytes are steps enough
steps_enough : (k m : ℕ) (s : List ℕ) → length s < k → length s < m → bytes_from k s ≡ bytes_from m s
steps_enough zero m s h i = absurd (omega arith)
steps_enough (suc k) zero s h i = absurd (omega arith)
steps_enough (suc k) (suc m) [] h i = refl
steps_enough (suc k) (suc m) (b ∷ bs) h i =
    after_is k b bs
    ∙ after_same k m (decoded (b ∷ bs)) (λ c rest e. let l = decoded-shorter (b ∷ bs) c rest e in steps_enough k m rest (omega arith) (omega arith))
    ∙ sym (after_is m b bs)

-- bytes that are there already, and then those of a rest
abbrev pub joined : List ℕ → Option (List ℕ) → Option (List ℕ)
joined done (Some bs) = Some (done ++ bs)
joined done None = None

joined-before : (done : List ℕ) (c : ℕ) (o : Option (List ℕ)) → joined done (before c o) ≡ joined (done ++ (c ∷ [])) o
joined-before done c (Some bs) = ap Some (sym (append_assoc done (c ∷ []) bs))
joined-before done c None = refl

from_decoded : (s : List ℕ) (a : Option (ℕ × List ℕ)) → 0 < length s → a ≡ decoded s → unescaped s ≡ after (length s) a
from_decoded [] a h e = absurd (omega arith)
from_decoded (b ∷ bs) a h e = after_is (suc (length bs)) b bs ∙ ap (after (suc (length bs))) (sym e)

-- the loop's step: one byte more
pub joined-more : (m : Option (List ℕ)) (done s : List ℕ) (c : ℕ) (rest : List ℕ) → 0 < length s → Some (c, rest) ≡ decoded s → m ≡ joined done (unescaped s) → m ≡ joined (done ++ (c ∷ [])) (unescaped rest)
joined-more m done s c rest h e k =
    let l = decoded-shorter s c rest e in
    k ∙ ap (joined done) (from_decoded s (Some (c, rest)) h e ∙ ap (before c) (steps_enough (length s) (suc (length rest)) rest l (omega arith)))
    ∙ joined-before done c (unescaped rest)

-- at the start nothing is there
pub joined-none : (s : List ℕ) → unescaped s ≡ joined [] (unescaped s)
joined-none s = elim (unescaped s) as (λ v. v ≡ joined [] v) [ Some bs ↦ refl | None ↦ refl ]
