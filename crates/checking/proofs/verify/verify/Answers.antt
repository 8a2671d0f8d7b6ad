-- The walk over the table's items is checking of the script that they are the items of.
use Rattle.std.proofs.Common.{◌≡◌, ◌+◌, ◌<◌, length, ap, ◌∙◌, arith}
use Rattle.std.proofs.lemmas.List.{length-map}
use Rattle.draft.specs.Items.{item, items, items_of, text_of}
use Rattle.checking.specs.Walk.{walk_script}
use Rattle.checking.proofs.Scripts.{script-told}
use Rattle.checking.proofs.verify.verify.Goals as goal

pub returns : goal.returns
returns c = λ s e.
    let t = c.args.table.now in
    let n = c.len.result + 1 in
    let k = c.len.ensures.value in
    let l = length-map t.commands.items (item (text_of t)) in
    let m : length (items t) ≡ length (items_of s) = ap length e in
    let h : length (items_of s) < n = omega arith in
    c.questions.ensures ∙ ap (walk_script n (length (text_of t))) e ∙ script-told s n (length (text_of t)) h
