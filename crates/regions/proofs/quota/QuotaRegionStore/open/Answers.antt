use Rattle.std.proofs.Common.{sym, refl, ap, ◌∙◌}
use Rattle.regions.specs.Rules.{quota_rule}
use Rattle.regions.proofs.Quotas.{open_room, open_denied}
use Rattle.regions.proofs.quota.QuotaRegionStore.open.Goals as goal

pub returns-then-not-within : goal.returns-then-not-within
returns-then-not-within g c =
    let s = g.S.RegionStore in
    let x = c.args.self.now in
    let t = open_denied x.quota (s.grants x.store) (s.regions x.store) (sym c.within.ensures ∙ c.if-not-within.true) in
    record { answer = sym t.0; after = sym t.1; rule = refl }

pub returns : goal.returns
returns g c =
    let s = g.S.RegionStore in
    let x = c.args.self.now in
    let t = open_room x.quota (s.grants x.store) (s.regions x.store) (sym c.within.ensures ∙ c.if-not-within.false) in
    record {
      answer = c.open.ensures.answer ∙ sym t.0;
      after = c.open.ensures.after ∙ sym t.1;
      rule = ap (quota_rule x.quota) c.open.ensures.rule;
    }
