use Rattle.std.proofs.Common.{◌≡◌, ◌+◌, length}
use Rattle.pages.proofs.pages.PagesRegionStore.clear.Given as goal

abbrev pub invariant-loop-region : goal.invariant-loop-region
invariant-loop-region l = (length l.self.stack.items + l._region ≡ length l.initial.self.stack.items) × (l.self.most ≡ l.initial.self.most)
