use Rattle.std.proofs.Common.{◌≡◌, get_or}
use Rattle.pages.specs.Held.{way}
use Rattle.pages.proofs.pages.Pages.page_at.Given as goal

abbrev pub invariant-loop-hop : goal.invariant-loop-hop
invariant-loop-hop l = l.page ≡ get_or (way l.self l.position) l._hop 0
