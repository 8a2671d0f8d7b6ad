use Rattle.std.proofs.Common.{◌≡◌, ◌+◌, ◌<◌, ◌≤◌, length, get_or, Ok, sym, ap, ◌∙◌, arith, rules}
use Rattle.std.proofs.lemmas.List.{get_or_read}
use Rattle.arena.proofs.Splits.{region_end}
use Rattle.arena.proofs.Stretches.{get_none, get_past, get_word}
use Rattle.arena.proofs.arena.ArenaRegionStore.get.Goals as goal

pub returns-in_err-length : goal.returns-in_err-length
returns-in_err-length c =
    let x = c.args.self.now in
    let past : length x.lens.items ≤ c.args.position = search rules in
    rw (get_none x.lens.items x.memory.items x.memory.len x.fits x.memory.ok.0 c.args.position c.args.place past) (search rules)

pub returns-then-place-length : goal.returns-then-place-length
returns-then-place-length c =
    let x = c.args.self.now in
    let here : c.args.position < length x.lens.items = search rules in
    let len : c.in_ok-length.field-0.now ≡ get_or x.lens.items c.args.position 0 = search rules in
    sym (get_past x.lens.items x.memory.items x.memory.len x.fits x.memory.ok.0 c.args.position c.args.place here (omega (arith, len, c.if-place-length.true)))

pub returns : goal.returns
returns c =
    let x = c.args.self.now in
    let here : c.args.position < length x.lens.items = search rules in
    let len : c.in_ok-length.field-0.now ≡ get_or x.lens.items c.args.position 0 = search rules in
    let i = c.begin-begin.result + c.args.place in
    let inside : i < length x.memory.items = omega (arith, x.fits, x.memory.ok.0, c.begin-begin.ensures.is, len, c.if-place-length.false, region_end x.lens.items c.args.position here) in
    ap Ok (get_or_read x.memory.items i _ inside c.index.ensures 0)
    ∙ ap (λ k. Ok (get_or x.memory.items (k + c.args.place) 0)) c.begin-begin.ensures.is
    ∙ sym (get_word x.lens.items x.memory.items x.memory.len x.fits x.memory.ok.0 c.args.position c.args.place here (omega (arith, len, c.if-place-length.false)))
