use Rattle.std.proofs.Common.{◌≡◌, get_or, sym, ap, ◌∙◌, arith}
use Rattle.regions.specs.Rules.{pages_of}
use Rattle.pages.proofs.Links.{walk_step}
use Rattle.pages.proofs.States.{at, length-way, page_below, here}
use Rattle.pages.proofs.pages.Pages.page_at.Goals as goal

pub bounds-deref-position : goal.bounds-deref-position
bounds-deref-position c = rw c.deref.ensures.0 (here c.args.self.now c.args.position c.args.back c.requires)

pub bounds-self-page : goal.bounds-self-page
bounds-self-page c = omega (arith, c.loop-hop.invariant, page_below c.args.self.now c.args.position c.loop-hop._hop (omega (arith, c.requires)))

pub offset_bounds-self-page : goal.offset_bounds-self-page
offset_bounds-self-page c = omega (arith, c.loop-hop.invariant, page_below c.args.self.now c.args.position c.loop-hop._hop (omega (arith, c.requires)))

pub loop-hop-preserved : goal.loop-hop-preserved
loop-hop-preserved c =
    let x = c.args.self.now in
    let p = c.args.position in
    ap (λ q. get_or x.next q 0) c.loop-hop.invariant
    ∙ sym (walk_step x.next (at x p).top (pages_of (at x p).length) c.loop-hop._hop (omega (arith, c.requires, length-way x p)))

pub returns-clause-within : goal.returns-clause-within
returns-clause-within c =
    let e : c.loop-hop._hop ≡ c.args.back = omega arith in
    omega (arith, c.loop-hop.invariant, page_below c.args.self.now c.args.position c.loop-hop._hop (omega (arith, c.requires)))
