-- Quotas over a rule grant what the least of them grants over it. Assumes nothing.
use Rattle.std.proofs.Common.{◌≡◌, ℕ, min, Bool, true, false, ◌&&◌, leb, List, [], ◌∷◌, drop, sym, refl, ap, ◌∙◌, arith}
use Rattle.std.specs.List.{fold, reduce, slice_get}
use Rattle.std.proofs.Math.Bool.{and_assoc}
use Rattle.std.proofs.lemmas.Bool.Decides.{nat_tests}
use Rattle.regions.specs.Model.{Rule, within}
use Rattle.regions.specs.Rules.{quota_rule}
use Rattle.piles.specs.Build.{piled, quota_if}

leb_min : (l a b : ℕ) → leb l (min a b) ≡ (leb l b && leb l a)
leb_min l a b = grind (arith, nat_tests)

and_swap : (a b c d : Bool) → ((a && b) && (c && d)) ≡ ((a && c) && (b && d))
and_swap true true c d = refl
and_swap true false true d = refl
and_swap true false false d = refl
and_swap false b c d = refl

within-min : (a b : ℕ) (ls : List ℕ) → within (min a b) ls ≡ (within b ls && within a ls)
within-min a b [] = refl
within-min a b (l ∷ ls) = rw (leb_min l a b, within-min a b ls) (and_swap (leb l b) (leb l a) (within b ls) (within a ls))

-- a quota over a quota
quota_quota : (a b : ℕ) (g : Rule) (ls : List ℕ) → quota_rule b (quota_rule a g) ls ≡ quota_rule (min a b) g ls
quota_quota a b g ls = rw (within-min a b ls) (sym (and_assoc (within b ls) (within a ls) (g ls)))

-- rules that grant the same lists do so under the same quotas
piled-same : (g h : Rule) (qs : List ℕ) → ((ls : List ℕ) → g ls ≡ h ls) → (ls : List ℕ) → piled g qs ls ≡ piled h qs ls
piled-same g h [] e ls = e ls
piled-same g h (q ∷ qs) e ls = piled-same (quota_rule q g) (quota_rule q h) qs (λ ms. ap (λ b. within q ms && b) (e ms)) ls

pub piled-least : (g : Rule) (q : ℕ) (qs : List ℕ) (ls : List ℕ) → piled g (q ∷ qs) ls ≡ quota_rule (fold min q qs) g ls
piled-least g q [] ls = refl
piled-least g q (r ∷ rs) ls =
    piled-same (quota_rule r (quota_rule q g)) (quota_rule (min q r) g) rs (quota_quota q r g) ls ∙ piled-least g (min q r) rs ls

-- the first quota, and over it the least of the others
pub piled_two : (g : Rule) (qs : List ℕ) (ls : List ℕ) → quota_if (reduce min (drop 1 qs)) (quota_if (slice_get qs 0) g) ls ≡ piled g qs ls
piled_two g [] ls = refl
piled_two g (q ∷ []) ls = refl
piled_two g (q ∷ r ∷ rs) ls = sym (piled-least (quota_rule q g) r rs ls)
