use Rattle.std.proofs.Common.{◌≡◌, true, false, [], ◌∷◌, Ok, sym, refl, ap, ◌∙◌}
use Rattle.regions.specs.Rules.{quota_rule, quota_room}
use Rattle.regions.proofs.Quotas.{put_room, put_denied}
use Rattle.regions.proofs.quota.QuotaRegionStore.put.Goals as goal

pub returns-then-branch : goal.returns-then-branch
returns-then-branch g c =
    let s = g.S.RegionStore in
    let x = c.args.self.now in
    let e : quota_room x.quota (s.regions x.store) c.args.position 2 ≡ Ok true =
    sym c.room.ensures ∙ c.in_ok-room.was ∙ ap Ok c.if-branch.true
    in
    let t = put_room x.quota (s.grants x.store) (s.regions x.store) c.args.position (c.args.first ∷ c.args.second ∷ []) e in
    record {
      answer = c.put.ensures.answer ∙ sym t.0;
      after = c.put.ensures.after ∙ sym t.1;
      rule = ap (quota_rule x.quota) c.put.ensures.rule;
    }

pub returns-else-branch : goal.returns-else-branch
returns-else-branch g c =
    let s = g.S.RegionStore in
    let x = c.args.self.now in
    let e : quota_room x.quota (s.regions x.store) c.args.position 2 ≡ Ok false =
    sym c.room.ensures ∙ c.in_ok-room.was ∙ ap Ok c.if-branch.false
    in
    let d = put_denied x.quota (s.grants x.store) (s.regions x.store) c.args.position (c.args.first ∷ c.args.second ∷ []) e in
    record { answer = sym d.0; after = sym d.1; rule = refl }
