use Rattle.std.proofs.Common.{◌≡◌, ◌+◌, ◌<◌, [], ◌∷◌, ◌++◌, length, sym, ap, ◌∙◌, arith, rules}
use Rattle.std.proofs.lemmas.Bool.{le-leb}
use Rattle.regions.specs.Rules.{pages_rule}
use Rattle.regions.proofs.Answered.{open_granted}
use Rattle.pages.specs.Chain.{none}
use Rattle.pages.specs.Held.{holds}
use Rattle.pages.proofs.Rules.{may_open_is}
use Rattle.pages.proofs.Opens.{kept_open, held_open}
use Rattle.pages.proofs.pages.PagesRegionStore.open.Goals as goal

pub invariant_of-self : goal.invariant_of-self
invariant_of-self c =
    let x = c.args.self.now in
    let few : length x.stack.items < 64 = omega (arith, x.few.0, c.len.ensures.value, c.if-len-eq-MOST.false) in
    let empty : c.default.result ≡ none = search rules in
    let k = kept_open x few c.push.new.self.items (c.push.ensures.room few ∙ ap (λ d. x.stack.items ++ d ∷ []) empty) in
    record { sized = k.sized; wide = k.wide; few = k.few; sum = k.sum; once = k.once; ends = k.ends }

pub returns : goal.returns
returns c =
    let x = c.args.self.now in
    let few : length x.stack.items < 64 = omega (arith, x.few.0, c.len.ensures.value, c.if-len-eq-MOST.false) in
    let empty : c.default.result ≡ none = search rules in
    let t = open_granted (pages_rule x.most) (holds x) (may_open_is x ∙ le-leb (length x.stack.items + 1) 64 (omega (arith, few))) in
    record { answer = sym t.0; after = held_open x few c.push.new.self.items (c.push.ensures.room few ∙ ap (λ d. x.stack.items ++ d ∷ []) empty) ∙ sym t.1; rule = search rules }
