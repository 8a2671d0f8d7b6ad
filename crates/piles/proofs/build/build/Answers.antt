use Rattle.std.proofs.Common.{◌≡◌, refl, ap, ◌∙◌}
use Rattle.std.specs.List.{slice_get}
use Rattle.piles.specs.Build.{kind_rule, quota_if}
use Rattle.piles.proofs.Leasts.{piled_two}
use Rattle.piles.proofs.build.build.Goals as goal

pub returns : goal.returns
returns c =
    let s = c.in_ok-store.store in
    let qs = c.args.quotas.now in
    let first : c.copied.result ≡ slice_get qs 0 = c.copied.ensures ∙ c.first.ensures.value in (
      c.under.ensures.regions ∙ c.under-inner.ensures.regions ∙ c.in_ok-store.ensures.empty s refl,
      (λ ls.
          ap (λ g. g ls) (c.under.ensures.rule ∙ ap (quota_if c.outer.result) c.under-inner.ensures.rule)
          ∙ rw (c.outer.ensures, first, c.in_ok-store.ensures.rule s refl) (piled_two (kind_rule c.args.kind c.args.size) qs ls)),
    )
