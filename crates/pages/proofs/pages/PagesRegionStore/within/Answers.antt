use Rattle.std.proofs.Common.{◌<◌, ◌≤◌, sym, ap, ◌∙◌, rules}
use Rattle.std.proofs.lemmas.Iterator.{cases_from_all, YieldsList-from_slice}
use borrow.Author.Tests.{tests}
use Rattle.regions.specs.Model.{within}
use Rattle.pages.specs.declared.chain.Chain.{Chain}
use Rattle.pages.proofs.States.{lengths_are}
use Rattle.pages.proofs.Rules.{within_all}
use Rattle.pages.proofs.pages.PagesRegionStore.within.Goals as goal

pub returns : goal.returns
returns c =
    let x = c.args.self.now in
    within_all c.args.most x.stack.items c.all.result (cases_from_all _ _ _ (λ (d : Chain). d.length ≤ c.args.most) (λ (d : Chain). c.args.most < d.length) c.all.ensures.ran (YieldsList-from_slice x.stack.items cc) (λ d q k. search (rules, tests)) (λ d q k. search (rules, tests)))
    ∙ ap (within c.args.most) (sym (lengths_are x))
