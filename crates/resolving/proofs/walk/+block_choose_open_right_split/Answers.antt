-- Each arm of the walk, from what its calls ensure.
use Rattle.std.proofs.Common.{◌≡◌, ℕ, List, ◌∷◌, drop, ◌∙◌, rules}
use Rattle.language.specs.Syntax.{Ident, Op}
use Rattle.draft.specs.Items.{Item, a_let, a_print, a_last, an_operation, a_nil, a_cons, a_call, an_if, a_region, a_case, items}
use Rattle.resolving.proofs.Defaults.{no_block, right-else}
use Rattle.resolving.proofs.Fronts.{front_kept}
use Rattle.resolving.proofs.Growth.{set_back}
use Rattle.resolving.proofs.Walking.{last-laid, print-laid, let_laid, choose_laid, open_laid, split-laid}
use Rattle.resolving.proofs.walk.+block_choose_open_right_split.Goals as goal

pub block-returns-in-Some-Let-clause-walks : goal.block-returns-in-Some-Let-clause-walks
block-returns-in-Some-Let-clause-walks m c =
    let t = c.args.names.now.table.now in
    let_laid t c.args.names.now.state c.add_variable.new.self c.args.tape.now.items c.right-value.new.tape.items c.block.new.tape.items c.args.position c.args.way c.in-Some-Let.name c.right-value.result c.block.result
    c.right-value.ensures.walks c.add_variable.ensures.added c.block.ensures.walks (front_kept t c.args.position _ _ c.in-Some-Let.field-0-is c.in-Some-Let.ensures.1)

pub block-returns-in-Some-Print-clause-walks : goal.block-returns-in-Some-Print-clause-walks
block-returns-in-Some-Print-clause-walks m c =
    let t = c.args.names.now.table.now in
    print-laid t c.args.names.now.state c.args.tape.now.items c.push.new.self.items c.block-in-Some-Print.new.tape.items c.args.position c.in-Some-Print.place c.args.way c.atom-known.result c.block-in-Some-Print.result
    c.atom-known.ensures c.push.ensures.room c.block-in-Some-Print.ensures.walks (front_kept t c.args.position _ _ c.in-Some-Print.field-0-is c.in-Some-Print.ensures.1)

pub block-returns-in-Some-Last-clause-walks : goal.block-returns-in-Some-Last-clause-walks
block-returns-in-Some-Last-clause-walks m c =
    let t = c.args.names.now.table.now in
    last-laid t c.args.names.now.state c.args.tape.now.items c.push-in-Some-Last.new.self.items c.args.position c.args.way c.atom-known-in-Some-Last.result c.atom-known-in-Some-Last.ensures c.push-in-Some-Last.ensures.room
    (front_kept t c.args.position _ _ c.in-Some-Last.field-0-is c.in-Some-Last.ensures.1)

pub block-returns-in_default-clause-walks : goal.block-returns-in_default-clause-walks
block-returns-in_default-clause-walks m c F Γ b T rest st e h fits =
    let t = c.args.names.now.table.now in
    let no-let : (x : Ident) (xs : List Item) → drop c.args.position (items t) ≡ a_let x ∷ xs → ⊥ = search rules in
    let no-print : (p : ℕ) (xs : List Item) → drop c.args.position (items t) ≡ a_print p ∷ xs → ⊥ = search rules in
    let no-last : (xs : List Item) → drop c.args.position (items t) ≡ a_last ∷ xs → ⊥ = search rules in
    absurd (no_block _ no-let no-print no-last b rest e)

pub choose-returns-clause-walks : goal.choose-returns-clause-walks
choose-returns-clause-walks m c =
    let before = c.args.tape.now.items in
    let dry = c.block.new.tape.items in
    choose_laid c.args.names.now.table.now c.args.names.now.state before c.push.new.self.items c.block-middle.new.tape.items dry c.truncate.new.self.items c.push-2.new.self.items c.block-first.new.tape.items c.block-last.new.tape.items
    c.args.start.position c.len-slot.result c.args.place c.len-second.result c.len-next.result _ c.atom-known.result c.block-middle.result c.block.result c.block-first.result c.block-last.result
    c.atom-known.ensures c.len-slot.ensures.value c.push.ensures.room c.block-middle.ensures.walks c.block.ensures.walks c.len-second.ensures.value c.len-next.ensures.value
    (λ cs g. c.truncate.ensures ∙ set_back c.len-at.result before dry cs c.len-at.ensures.value g) c.push-2.ensures.room c.block-first.ensures.walks c.block-last.ensures.walks

pub open-returns-clause-walks : goal.open-returns-clause-walks
open-returns-clause-walks m c =
    let before = c.args.tape.now.items in
    let dry = c.block.new.tape.items in
    open_laid c.args.names.now.table.now c.args.names.now.state c.add_region.new.self before c.push.new.self.items dry c.truncate.new.self.items c.push-2.new.self.items c.block-2.new.tape.items
    c.args.start.position c.len-slot.result c.len-region.result c.args.place c.len-next.result c.args.name c.block.result c.block-2.result
    c.len-slot.ensures.value c.len-region.ensures.value c.add_region.ensures.added c.push.ensures.room c.block.ensures.walks c.len-next.ensures.value
    (λ cs g. c.truncate.ensures ∙ set_back c.len-at.result before dry cs c.len-at.ensures.value g) c.push-2.ensures.room c.block-2.ensures.walks

pub split-returns-clause-walks : goal.split-returns-clause-walks
split-returns-clause-walks m c =
    let before = c.args.tape.now.items in
    let dry = c.block.new.tape.items in
    split-laid c.args.names.now.table.now c.args.names.now.state before c.push.new.self.items c.block-middle.new.tape.items dry c.truncate.new.self.items c.push-2.new.self.items c.block-first.new.tape.items c.block-last.new.tape.items
    c.args.start.position c.len-slot.result c.list_region-region.result c.args.place c.len-second.result c.len-next.result _ c.atom-known.result c.block-middle.result c.block.result c.block-first.result c.block-last.result
    c.split_names-other.new.state c.split_names-other.result c.atom-known.ensures c.len-slot.ensures.value c.list_region-region.ensures c.push.ensures.room c.block-middle.ensures.walks c.split_names-other.ensures.walks
    c.block.ensures.walks c.len-second.ensures.value c.len-next.ensures.value (λ cs g. c.truncate.ensures ∙ set_back c.len-at.result before dry cs c.len-at.ensures.value g) c.push-2.ensures.room
    c.block-first.ensures.walks c.block-last.ensures.walks

pub right-returns-in-Operate-clause-walks : goal.right-returns-in-Operate-clause-walks
right-returns-in-Operate-clause-walks m c = c.operate.ensures.walks (front_kept c.args.names.now.table.now c.args.position _ _ c.in-Operate.is c.in-Some.ensures.1)

pub right-returns-in-Nil-clause-walks : goal.right-returns-in-Nil-clause-walks
right-returns-in-Nil-clause-walks m c = c.nil.ensures.walks (front_kept c.args.names.now.table.now c.args.position _ _ c.in-Nil.is c.in-Some.ensures.1)

pub right-returns-in-Cons-clause-walks : goal.right-returns-in-Cons-clause-walks
right-returns-in-Cons-clause-walks m c = c.cons.ensures.walks (front_kept c.args.names.now.table.now c.args.position _ _ c.in-Cons.is c.in-Some.ensures.1)

pub right-returns-in-Call-clause-walks : goal.right-returns-in-Call-clause-walks
right-returns-in-Call-clause-walks m c = c.call.ensures.walks (front_kept c.args.names.now.table.now c.args.position _ _ c.in-Call.is c.in-Some.ensures.1)

pub right-returns-in-If-clause-walks : goal.right-returns-in-If-clause-walks
right-returns-in-If-clause-walks m c = c.choose.ensures.walks (front_kept c.args.names.now.table.now c.args.position _ _ c.in-If.is c.in-Some.ensures.1)

pub right-returns-in-Region-clause-walks : goal.right-returns-in-Region-clause-walks
right-returns-in-Region-clause-walks m c = c.open.ensures.walks (front_kept c.args.names.now.table.now c.args.position _ _ c.in-Region.is c.in-Some.ensures.1)

pub right-returns-in-Case-clause-walks : goal.right-returns-in-Case-clause-walks
right-returns-in-Case-clause-walks m c = c.split.ensures.walks (front_kept c.args.names.now.table.now c.args.position _ _ c.in-Case.is c.in-Some.ensures.1)

pub right-returns-in_default-command-clause-walks : goal.right-returns-in_default-command-clause-walks
right-returns-in_default-command-clause-walks m c =
    let t = c.args.names.now.table.now in
    let no-oper : (p : ℕ) (o : Op) (xs : List Item) → drop c.args.position (items t) ≡ an_operation p o ∷ xs → ⊥ = search rules in
    let no-nil : (p : ℕ) (x : Ident) (xs : List Item) → drop c.args.position (items t) ≡ a_nil p x ∷ xs → ⊥ = search rules in
    let no-cons : (p : ℕ) (x : Ident) (xs : List Item) → drop c.args.position (items t) ≡ a_cons p x ∷ xs → ⊥ = search rules in
    let no-call : (p : ℕ) (x : Ident) (xs : List Item) → drop c.args.position (items t) ≡ a_call p x ∷ xs → ⊥ = search rules in
    let no-if : (p : ℕ) (xs : List Item) → drop c.args.position (items t) ≡ an_if p ∷ xs → ⊥ = search rules in
    let no-region : (p : ℕ) (x : Ident) (xs : List Item) → drop c.args.position (items t) ≡ a_region p x ∷ xs → ⊥ = search rules in
    let no-case : (p : ℕ) (xs : List Item) → drop c.args.position (items t) ≡ a_case p ∷ xs → ⊥ = search rules in
    right-else t c.args.names.now.state c.args.tape.now.items c.copy.new.tape.items c.args.position c.copy.result no-oper no-nil no-cons no-call no-if no-region no-case c.copy.ensures.walks
