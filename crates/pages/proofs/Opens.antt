-- A page store with one region more. Assumes nothing.
use Rattle.std.proofs.Common.{◌≡◌, ◌<◌, List, [], ◌∷◌, ◌++◌, length, ap, arith}
use Rattle.std.proofs.lemmas.List.{length_push, map_push}
use Rattle.std.proofs.lemmas.List.Sums.{sum_by_push}
use Rattle.std.proofs.lemmas.List.Elements.{All-push}
use Rattle.regions.specs.Rules.{pages_total}
use Rattle.pages.specs.Chain.{chain, chains, lengths_of, none, IsEnded, times, times_in, words_of}
use Rattle.pages.specs.Held.{holds}
use Rattle.pages.specs.declared.chain.Chain.{Chain}
use Rattle.pages.specs.declared.pages.Pages.{Pages}
use Rattle.pages.proofs.Rules.{pages_none}
use Rattle.pages.proofs.States.{Kept, held}

-- where cs are the chains then
module _ (x : Pages) (few : length x.stack.items < 64) (cs : List Chain) (written : cs ≡ x.stack.items ++ none ∷ []) where
  pub kept_open : Kept x.pages x.next cs x.free x.left x.most
  kept_open =
      let next = x.next in
      let old = x.stack.items in
      rw written record {
        sized = x.sized;
        wide = x.wide;
        few = (omega (arith, length_push old none, few), x.few.1);
        sum = omega (arith, x.sum, ap pages_total (map_push (λ (c : Chain). c.length) old none), pages_none (lengths_of old));
        once = (λ q. omega (arith, x.once q, ap (times_in q) (map_push (chain next) old none), sum_by_push (times q) (chains next old) []));
        ends = All-push (IsEnded next) old none x.ends (λ words. absurd (omega arith));
      }

  pub held_open : held x.pages x.next cs ≡ holds x ++ [] ∷ []
  held_open = rw written (map_push (words_of x.pages x.next) x.stack.items none)
