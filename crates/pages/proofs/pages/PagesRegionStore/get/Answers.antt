use Rattle.std.proofs.Common.{◌≡◌, ◌-◌, ◌/◌, ◌%◌, ◌<◌, [], length, get_or, Ok, sym, ap, ◌∙◌, arith, rules}
use Rattle.regions.proofs.Answered.{get_word}
use Rattle.pages.specs.Held.{holds, way}
use Rattle.pages.proofs.States.{at, length-way, count_is, length_is, word_is}
use Rattle.pages.proofs.pages.PagesRegionStore.get.Goals as goal

pub returns : goal.returns
returns c =
    let x = c.args.self.now in
    let p = c.args.position in
    let i = c.args.place in
    let here : p < length x.stack.items = search rules in
    let len : c.in_ok-length.field-0.now.length ≡ (at x p).length = search rules in
    let past : i < (at x p).length = omega (arith, len, c.if-place-length.false) in
    ap (λ r. Ok (get_or (get_or x.pages r []) (i % 16) 0)) (c.page_at-page.ensures.is ∙ ap (λ l. get_or (way x p) ((l - 1) / 16 - i / 16) 0) len)
    ∙ ap Ok (sym (word_is x p i past))
    ∙ sym (get_word (holds x) p i (omega (arith, count_is x, here)) (omega (arith, length_is x p, past)))

pub page_at-page-requires : goal.page_at-page-requires
page_at-page-requires c =
    let x = c.args.self.now in
    let p = c.args.position in
    let len : c.in_ok-length.field-0.now.length ≡ (at x p).length = search rules in
    omega (arith, len, c.if-place-length.false, length-way x p)
