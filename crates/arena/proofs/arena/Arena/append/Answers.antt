use Rattle.std.proofs.Common.{◌≡◌, ◌+◌, ◌++◌, length, get_or, set, take, drop, ap, ◌∙◌, arith}
use Rattle.std.proofs.lemmas.List.{with_items_is}
use Rattle.regions.specs.Rules.{total}
use Rattle.arena.specs.Layout.{split}
use Rattle.regions.specs.Model.{longer}
use Rattle.arena.proofs.Splits.{put_made}
use Rattle.arena.proofs.arena.Arena.append.Goals as goal

pub returns-clause-regions : goal.returns-clause-regions
returns-clause-regions c =
    let x = c.args.self.now in
    let ls = x.lens.items in
    let vs = c.insert.new.words in
    let new = c.args.new.now in
    let p = c.args.position in
    let old : get_or c.deref.result.now p 0 ≡ get_or ls p 0 = ap (λ xs. get_or xs p 0) c.deref.ensures.0 in
    let end : c.begin.result + get_or c.deref.result.now p 0 ≡ total (take p ls) + get_or ls p 0 = omega (arith, c.begin.ensures.is, old) in
    let l : length vs ≡ x.memory.len = c.insert.ensures.len ∙ c.as_mut_slice.ensures.len in
    let made = rw (c.requires.used, c.as_mut_slice.ensures.value) at c.insert.ensures.inserted in
    ap (λ ms. split ms (take x.memory.len (vs ++ drop (length vs) x.memory.items))) (c.set.ensures ∙ ap (λ n. set ls p (n + length new)) old)
    ∙ ap (split (longer ls p (length new))) (with_items_is x.memory vs l)
    ∙ put_made ls x.memory.items vs new p (c.begin.result + get_or c.deref.result.now p 0) c.requires.here (omega (arith, c.requires.room, x.memory.ok.0)) end made
