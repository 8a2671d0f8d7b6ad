-- What a quota adds to the steps of the store below. Assumes nothing.
use Rattle.std.proofs.Common.{◌≡◌, ℕ, ◌+◌, ◌<◌, Bool, true, false, ◌&&◌, leb, List, length, Ok, Err, ap, ◌∙◌, arith}
use Rattle.std.proofs.lemmas.Bool.Decides.{nat_tests}
use Rattle.regions.specs.declared.refusal.Refusal.TheVariants.{Denied}
use Rattle.regions.specs.Model.{Regions, Rule, lengths, region, within}
use Rattle.regions.specs.Model.{may_open, open_answer, open_after, may_put, put_answer, put_after}
use Rattle.regions.specs.Rules.{quota_rule, quota_room}
use Rattle.regions.proofs.Bounds.{within-push, within_grown, length-lengths, lengths-at}
use Rattle.regions.proofs.Answered as cases

module _ (q : ℕ) (g : Rule) (rs : Regions) where
  -- what `within` answers tells what the rule with the quota grants
  may_open_is : (b : Bool) → within q (lengths rs) ≡ b → may_open (quota_rule q g) rs ≡ (b && may_open g rs)
  may_open_is b e = ap (λ x. x && may_open g rs) (within-push q (lengths rs) ∙ e)

  pub open_room : within q (lengths rs) ≡ true → (open_answer (quota_rule q g) rs ≡ open_answer g rs) × (open_after (quota_rule q g) rs ≡ open_after g rs)
  open_room e = (rw (may_open_is true e), rw (may_open_is true e))

  pub open_denied : within q (lengths rs) ≡ false → (open_answer (quota_rule q g) rs ≡ Err Denied) × (open_after (quota_rule q g) rs ≡ rs)
  open_denied e = cases.open_denied (quota_rule q g) rs (may_open_is false e)

  -- and so does what `room` answers
  room_told : (p n : ℕ) (b : Bool) → quota_room q rs p n ≡ Ok b → (p < length rs) × ((within q (lengths rs) && leb (length (region rs p) + n) q) ≡ b)
  room_told p n b e = grind (arith, nat_tests)

  may_put_is : (p : ℕ) (ws : List ℕ) (b : Bool) → quota_room q rs p (length ws) ≡ Ok b → may_put (quota_rule q g) rs p ws ≡ (b && may_put g rs p ws)
  may_put_is p ws b e =
      let t = room_told p (length ws) b e in
      let h : p < length (lengths rs) = omega (arith, t.0, length-lengths rs) in
      ap (λ x. x && may_put g rs p ws) (within_grown q p (length ws) (lengths rs) h ∙ rw (lengths-at rs p t.0) t.1)

  pub put_room : (p : ℕ) (ws : List ℕ) → quota_room q rs p (length ws) ≡ Ok true → (put_answer (quota_rule q g) rs p ws ≡ put_answer g rs p ws) × (put_after (quota_rule q g) rs p ws ≡ put_after g rs p ws)
  put_room p ws e = (rw (may_put_is p ws true e), rw (may_put_is p ws true e))

  pub put_denied : (p : ℕ) (ws : List ℕ) → quota_room q rs p (length ws) ≡ Ok false → (put_answer (quota_rule q g) rs p ws ≡ Err Denied) × (put_after (quota_rule q g) rs p ws ≡ rs)
  put_denied p ws e = cases.put_denied (quota_rule q g) rs p ws (room_told p (length ws) false e).0 (may_put_is p ws false e)
