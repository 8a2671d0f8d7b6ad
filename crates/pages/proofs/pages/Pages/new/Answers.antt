use Rattle.std.proofs.Common.{◌≡◌, ℕ, ◌+◌, ◌<◌, ◌≤◌, List, length, get_or, replicate, refl, arith, rules}
use Rattle.std.proofs.lemmas.List.Elements.{All-nil, All-replicate}
use Rattle.pages.specs.Chain.{IsEnded}
use Rattle.pages.proofs.Starts.{free_once}
use Rattle.pages.proofs.pages.Pages.new.Goals as goal

pub invariant_of-result : goal.invariant_of-result
invariant_of-result c =
    let next = c.from_fn.result in
    let made : (k : ℕ) → k < 256 → get_or next k 0 ≡ k + 1 = λ k h. let e = (c.from_fn.ensures.items.at k 0 h).2 in search rules in
    let le : c.min-most.result ≤ 256 = omega (arith, c.min-most.ensures) in
    record {
      sized = (refl, c.from_fn.ensures.items.long);
      wide = All-replicate (λ (q : List ℕ). length q ≡ 16) 256 (replicate 16 0) refl;
      few = (rw c.new.ensures (omega arith), le);
      sum = rw c.new.ensures (omega arith);
      once = (λ q. rw c.new.ensures (omega (arith, free_once next made q c.min-most.result le)));
      ends = rw c.new.ensures (All-nil (IsEnded next));
    }
