use Rattle.std.proofs.Common.{◌≡◌, ◌+◌, ◌<◌, true, false, [], ◌∷◌, length, Ok, sym, ap, ◌∙◌, arith, rules}
use Rattle.std.proofs.lemmas.Bool.{le-leb, lt-leb}
use Rattle.regions.specs.Rules.{pages_of, pages_rule}
use Rattle.regions.proofs.Answered.{put_denied, put_granted}
use Rattle.pages.specs.Held.{holds}
use Rattle.pages.proofs.States.{at, count_is, length_is, fits}
use Rattle.pages.proofs.Rules.{may_put_is, length_after, left_after, put_two}
use Rattle.pages.proofs.pages.PagesRegionStore.put.Goals as goal

pub overflow_add-length : goal.overflow_add-length
overflow_add-length c =
    let len : c.in_ok-length.field-0.now.length ≡ (at c.args.self.now c.args.position).length = search rules in
    omega (arith, len, fits c.args.self.now c.args.position)

pub overflow_add-length-2 : goal.overflow_add-length-2
overflow_add-length-2 c =
    let len : c.in_ok-length.field-0.now.length ≡ (at c.args.self.now c.args.position).length = search rules in
    omega (arith, len, fits c.args.self.now c.args.position)

pub overflow_add-pages_for : goal.overflow_add-pages_for
overflow_add-pages_for c =
    let len : c.in_ok-length.field-0.now.length ≡ (at c.args.self.now c.args.position).length = search rules in
    omega (arith, len, fits c.args.self.now c.args.position)

pub overflow_mul-pages_for : goal.overflow_mul-pages_for
overflow_mul-pages_for c =
    let len : c.in_ok-length.field-0.now.length ≡ (at c.args.self.now c.args.position).length = search rules in
    omega (arith, len, fits c.args.self.now c.args.position, c.pages_for.ensures)

pub returns-then-length-pages_for : goal.returns-then-length-pages_for
returns-then-length-pages_for c =
    let x = c.args.self.now in
    let p = c.args.position in
    let new = c.args.first ∷ c.args.second ∷ [] in
    let here : p < length x.stack.items = search rules in
    let len : c.in_ok-length.field-0.now.length ≡ (at x p).length = search rules in
    let no = may_put_is x p here new false (lt-leb (pages_of ((at x p).length + 2)) (pages_of (at x p).length + x.left) (omega (arith, len, c.pages_for.ensures, c.if-length-pages_for.true))) in
    let t = put_denied (pages_rule x.most) (holds x) p new (omega (arith, count_is x, here)) no in
    record { answer = sym t.0; after = sym t.1; rule = search rules }

pub push-requires-clause-count : goal.push-requires-clause-count
push-requires-clause-count c =
    let x = c.args.self.now in
    let len : c.in_ok-length.field-0.now.length ≡ (at x c.args.position).length = search rules in
    len ∙ sym (length_is x c.args.position)

pub push-requires-2-clause-count : goal.push-requires-2-clause-count
push-requires-2-clause-count c =
    let x = c.args.self.now in
    let p = c.args.position in
    let here : p < length x.stack.items = search rules in
    let len : c.in_ok-length.field-0.now.length ≡ (at x p).length = search rules in
    omega (arith, len, length_after x p here c.push.new.self c.args.first c.push.ensures.held c.push.ensures.most)

pub push-requires-clause-room : goal.push-requires-clause-room
push-requires-clause-room c =
    let x = c.args.self.now in
    let p = c.args.position in
    let len : c.in_ok-length.field-0.now.length ≡ (at x p).length = search rules in
    omega (arith, len, length_is x p, c.pages_for.ensures, c.if-length-pages_for.false)

pub push-requires-2-clause-room : goal.push-requires-2-clause-room
push-requires-2-clause-room c =
    let x = c.args.self.now in
    let y = c.push.new.self in
    let p = c.args.position in
    let here : p < length x.stack.items = search rules in
    let len : c.in_ok-length.field-0.now.length ≡ (at x p).length = search rules in
    omega (arith, length_after x p here y c.args.first c.push.ensures.held c.push.ensures.most, len, left_after x p here y c.args.first c.push.ensures.held c.push.ensures.most, c.pages_for.ensures, c.if-length-pages_for.false)

pub returns : goal.returns
returns c =
    let x = c.args.self.now in
    let p = c.args.position in
    let new = c.args.first ∷ c.args.second ∷ [] in
    let here : p < length x.stack.items = search rules in
    let len : c.in_ok-length.field-0.now.length ≡ (at x p).length = search rules in
    let yes = may_put_is x p here new true (le-leb (pages_of ((at x p).length + 2)) (pages_of (at x p).length + x.left) (omega (arith, len, c.pages_for.ensures, c.if-length-pages_for.false))) in
    let t = put_granted (pages_rule x.most) (holds x) p new (omega (arith, count_is x, here)) yes in
    record {
      answer = ap Ok (len ∙ sym (length_is x p)) ∙ sym t.0;
      after = put_two (holds x) (holds c.push.new.self) (holds c.push-2.new.self) p c.args.first c.args.second (omega (arith, count_is x, here)) c.push.ensures.held c.push-2.ensures.held ∙ sym t.1;
      rule = search rules;
    }
