-- How a list grows at its end, and how it is set back.
use Rattle.std.proofs.Common.{◌≡◌, ◌+◌, ℕ, List, [], ◌∷◌, ◌++◌, length, take, sym, ap, ◌∙◌, append_assoc, append-nil, length-append}
use lib.Seq.{take-append_seam}
use Rattle.resolving.specs.Walks.{Grows}

pub grows_none : {A : Type 0} (l : List A) → Grows l l []
grows_none l = record { is = sym (append-nil l) }

pub grows-join : {A : Type 0} {l m n xs ys : List A} → Grows l m xs → Grows m n ys → Grows l n (xs ++ ys)
grows-join {l = l} {xs = xs} {ys = ys} g h = record { is = h.is ∙ ap (λ k. k ++ ys) g.is ∙ append_assoc l xs ys }

pub grown : {A : Type 0} {l m xs : List A} → Grows l m xs → length m ≡ length l + length xs
grown {l = l} {xs = xs} g = ap length g.is ∙ length-append l xs

-- set back to where it was, a list is what it was
pub set_back : {A : Type 0} (at : ℕ) (l m xs : List A) → at ≡ length l → Grows l m xs → take at m ≡ l
set_back at l m xs e g = ap (take at) g.is ∙ ap (λ n. take n (l ++ xs)) e ∙ take-append_seam l xs

-- one item more, by another word for it
pub laid : {A : Type 0} {l m : List A} {x y : A} → m ≡ l ++ x ∷ [] → x ≡ y → Grows l m (y ∷ [])
laid {l = l} e same = record { is = e ∙ ap (λ z. l ++ z ∷ []) same }
