-- Blocks, items and right sides, each from what its parts ensure.
use Rattle.std.proofs.Common.{suc, ◌-◌, ◌∷◌, length, Some, Err, codes, sym, refl, ap, ◌∙◌, arith, rules}
use Rattle.std.proofs.lemmas.Result.{MatchResult-weaker, err_from_is_err_and}
use Rattle.lexing.specs.declared.token.Kind.TheVariants.{Mark}
use Rattle.language.specs.Syntax.{atom, test, region, split, bind, print}
use Rattle.language.specs.Reading.{then, give, mark_of, key_of, name_of, atom_of, let_of, print_of, if_of, region_of, case_of}
use Rattle.draft.specs.Items.{ident, a_print, an_if, a_case}
use Rattle.reading.specs.Cursors.{end_of, ahead, refused}
use Rattle.reading.specs.Parts.{side_of, nested_of, inside_of}
use Rattle.reading.proofs.Steps.{met, word-is}
use Rattle.reading.proofs.Stages.{start, skip, word, go, push, call, done, broken, at, name-at, atom-told, alike}
use Rattle.reading.proofs.Openers.{side_is}
use Rattle.reading.proofs.Braces.{block_refused, block-deep, block-opens, inside-let, inside-print, inside-last}
use Rattle.reading.proofs.blocks.+read_block_read_case_read_if_read_items_read_let_read_print_read_region_read_side.Goals as goal

pub read_block-returns-then-not-stands : goal.read_block-returns-then-not-stands
read_block-returns-then-not-stands t c = λ room h. block_refused room c.args.blocks c.args.cursor.now (sym c.if-not-stands.ensures) ∙ ap (λ f. Err (refused f)) (sym c.refused.ensures)

pub read_block-returns-then-blocks-eq0 : goal.read_block-returns-then-blocks-eq0
read_block-returns-then-blocks-eq0 t c = λ room h.
    block-deep room c.args.blocks c.args.cursor.now (sym c.if-not-stands.ensures) c.if-blocks-eq0.true ∙ ap (λ f. Err (refused f)) (sym c.refused-then-blocks-eq0.ensures)

pub read_block-returns : goal.read_block-returns
read_block-returns t c = λ room h.
    let x = c.args.cursor.now in
    let e = sym c.if-not-stands.ensures in
    let a = c.in_ok-advance.ensures in
    let s = go (start x) (met Mark (codes "{") e a) in
    let near = s.near in
    let q = block-opens room c.args.blocks x c.advance.new.self e a (omega arith) in
    MatchResult-weaker c.read_items.result (c.read_items.ensures room room (omega arith) (omega arith))
    (λ _ g. done g.tree (call s g) (q ∙ g.reads) (λ after. refl))
    (λ y f. q ∙ f)

pub read_items-returns-then-stands : goal.read_items-returns-then-stands
read_items-returns-then-stands t c = λ whole room h k.
    let x = c.args.cursor.now in
    alike _ _ _ _ _ _ (inside-let (end_of x) whole room _ c.args.blocks (ahead x) k (sym c.if-stands.ensures)) (c.read_let.ensures whole (room - 1) h (omega arith))

pub read_items-returns-then-stands-2 : goal.read_items-returns-then-stands-2
read_items-returns-then-stands-2 t c = λ whole room h k.
    let x = c.args.cursor.now in
    alike _ _ _ _ _ _ (inside-print (end_of x) whole room _ c.args.blocks (ahead x) k (sym c.if-stands.ensures) (sym c.if-stands-2.ensures)) (c.read_print.ensures whole (room - 1) h (omega arith))

pub read_items-returns : goal.read_items-returns
read_items-returns t c = λ whole room h k.
    let x = c.args.cursor.now in
    alike _ _ _ _ _ _ (inside-last (end_of x) whole room _ c.args.blocks (ahead x) k (sym c.if-stands.ensures) (sym c.if-stands-2.ensures)) c.read_last.ensures

pub read_let-returns-in_err-read_side : goal.read_let-returns-in_err-read_side
read_let-returns-in_err-read_side t c = λ whole room h l.
    let x = c.args.cursor.now in
    let b = c.args.blocks in
    let k = c.in_ok-advance.ensures in
    let e = c.in_ok-name.ensures in
    let name = c.in_ok-name.name in
    let s1 = word k e.0 in
    let m = c.in_ok-mark.ensures in
    let s = push (go s1 m.0) c.push.ensures in
    let near = s.near in
    let n = end_of x in
    let q = word-is x c.advance.new.self (λ _. let_of n (side_of n whole b) (inside_of n whole room b)) k in
    let v1 = name-at name_of name (skip k) refl e.1 in
    let v2 = at (λ n. mark_of n (codes "=")) s1 refl m.1 in
    let v3 = at (λ n. side_of n whole b) s (sym c.push.ensures.ahead) (c.in_err-read_side.ensures whole (omega arith)) in
    broken _ _ _ _ (err_from_is_err_and c.from_residual-in_err-read_side.result c.from_residual-in_err-read_side.ensures.1) (q ∙ search rules)

pub read_let-returns-in_err-mark-2 : goal.read_let-returns-in_err-mark-2
read_let-returns-in_err-mark-2 t c = λ whole room h l.
    let x = c.args.cursor.now in
    let b = c.args.blocks in
    let k = c.in_ok-advance.ensures in
    let e = c.in_ok-name.ensures in
    let name = c.in_ok-name.name in
    let s1 = word k e.0 in
    let m = c.in_ok-mark.ensures in
    let s = push (go s1 m.0) c.push.ensures in
    let near = s.near in
    let n = end_of x in
    let q = word-is x c.advance.new.self (λ _. let_of n (side_of n whole b) (inside_of n whole room b)) k in
    let v1 = name-at name_of name (skip k) refl e.1 in
    let v2 = at (λ n. mark_of n (codes "=")) s1 refl m.1 in
    let g = c.in_ok-read_side.ensures whole (omega arith) in
    let s2 = call s g in
    let v3 = at (λ n. side_of n whole b) s (sym c.push.ensures.ahead) g.reads in
    let v4 = at (λ n. mark_of n (codes ";")) s2 refl c.in_err-mark-2.ensures in
    broken _ _ _ _ (err_from_is_err_and c.from_residual-in_err-mark-2.result c.from_residual-in_err-mark-2.ensures.1) (q ∙ search rules)

pub read_let-read_items-requires : goal.read_let-read_items-requires
read_let-read_items-requires t c =
    let x = c.args.cursor.now in
    let b = c.args.blocks in
    let k = c.in_ok-advance.ensures in
    let e = c.in_ok-name.ensures in
    let name = c.in_ok-name.name in
    let s1 = word k e.0 in
    let m = c.in_ok-mark.ensures in
    let s = push (go s1 m.0) c.push.ensures in
    let near = s.near in
    let s2 = go (call s (c.in_ok-read_side.ensures (suc (length (ahead c.push.new.self))) (omega arith))) c.in_ok-mark-2.ensures.0 in
    let near2 = s2.near in
    omega arith

pub read_let-returns : goal.read_let-returns
read_let-returns t c = λ whole room h l.
    let x = c.args.cursor.now in
    let b = c.args.blocks in
    let k = c.in_ok-advance.ensures in
    let e = c.in_ok-name.ensures in
    let name = c.in_ok-name.name in
    let s1 = word k e.0 in
    let m = c.in_ok-mark.ensures in
    let s = push (go s1 m.0) c.push.ensures in
    let near = s.near in
    let n = end_of x in
    let q = word-is x c.advance.new.self (λ _. let_of n (side_of n whole b) (inside_of n whole room b)) k in
    let v1 = name-at name_of name (skip k) refl e.1 in
    let v2 = at (λ n. mark_of n (codes "=")) s1 refl m.1 in
    let g = c.in_ok-read_side.ensures whole (omega arith) in
    let s2 = call s g in
    let v3 = at (λ n. side_of n whole b) s (sym c.push.ensures.ahead) g.reads in
    let m2 = c.in_ok-mark-2.ensures in
    let v4 = at (λ n. mark_of n (codes ";")) s2 refl m2.1 in
    let s3 = go s2 m2.0 in
    let near3 = s3.near in
    MatchResult-weaker c.read_items.result (c.read_items.ensures whole room (omega arith) (omega arith))
    (λ _ f. let z = at (λ n. inside_of n whole room b) s3 refl f.reads in done (bind (ident x.text.now name) g.tree f.tree) (call s3 f) (q ∙ search rules) (λ after. refl))
    (λ y f. let z = at (λ n. inside_of n whole room b) s3 refl f in q ∙ search rules)

pub read_print-returns : goal.read_print-returns
read_print-returns t c = λ whole room h l.
    let x = c.args.cursor.now in
    let n = end_of x in
    let b = c.args.blocks in
    let p = x.place in
    let k = c.in_ok-advance.ensures in
    let s0 = skip k in
    let e = c.in_ok-atom.ensures in
    let s1 = word k e.0 in
    let m = c.in_ok-mark.ensures in
    let s = push (push (go s1 m.0) c.push.ensures) c.push-2.ensures in
    let near = s.near in
    let j = sym (c.push-2.ensures.ahead ∙ c.push.ensures.ahead) in
    let q = word-is x c.advance.new.self (print_of n (inside_of n whole room b)) k in
    let v1 = at atom_of s0 refl e.1.reads in
    let v2 = at (λ n. mark_of n (codes ";")) s1 refl m.1 in
    MatchResult-weaker c.read_items.result (c.read_items.ensures whole room (omega arith) (omega arith))
    (λ _ f. let z = at (λ n. inside_of n whole room b) s j f.reads in done (print p e.1.tree f.tree) (call s f) (q ∙ search rules) (λ after. ap (λ l. a_print p ∷ l) (atom-told s0 e.1 _)))
    (λ y f. let z = at (λ n. inside_of n whole room b) s j f in q ∙ search rules)

pub read_region-returns : goal.read_region-returns
read_region-returns t c = λ whole h.
    let x = c.args.cursor.now in
    let n = end_of x in
    let b = c.args.blocks in
    let k = c.in_ok-advance.ensures in
    let e = c.in_ok-name.ensures in
    let name = c.in_ok-name.name in
    let s = push (word k e.0) c.push.ensures in
    let near = s.near in
    let q = word-is x c.advance.new.self (region_of n (nested_of n whole b)) k in
    let v1 = name-at name_of name (skip k) refl e.1 in
    MatchResult-weaker c.read_block.result (c.read_block.ensures whole (omega arith))
    (λ _ f. let z = at (λ n. nested_of n whole b) s (sym c.push.ensures.ahead) f.reads in done (region x.place (ident x.text.now name) f.tree) (call s f) (q ∙ search rules) (λ after. refl))
    (λ y f. let z = at (λ n. nested_of n whole b) s (sym c.push.ensures.ahead) f in q ∙ search rules)

pub read_if-returns-in_err-read_block : goal.read_if-returns-in_err-read_block
read_if-returns-in_err-read_block t c = λ whole h.
    let x = c.args.cursor.now in
    let b = c.args.blocks in
    let k = c.in_ok-advance.ensures in
    let s0 = skip k in
    let a = c.in_ok-atom.ensures in
    let s = push (push (word k a.0) c.push.ensures) c.push-2.ensures in
    let near = s.near in
    let j = sym (c.push-2.ensures.ahead ∙ c.push.ensures.ahead) in
    let n = end_of x in
    let q = word-is x c.advance.new.self (if_of n (nested_of n whole b)) k in
    let v1 = at atom_of s0 refl a.1.reads in
    let v2 = at (λ n. nested_of n whole b) s j (c.in_err-read_block.ensures whole (omega arith)) in
    broken _ _ _ _ (err_from_is_err_and c.from_residual-in_err-read_block.result c.from_residual-in_err-read_block.ensures.1) (q ∙ search rules)

pub read_if-returns-in_err-keyword : goal.read_if-returns-in_err-keyword
read_if-returns-in_err-keyword t c = λ whole h.
    let x = c.args.cursor.now in
    let b = c.args.blocks in
    let k = c.in_ok-advance.ensures in
    let s0 = skip k in
    let a = c.in_ok-atom.ensures in
    let s = push (push (word k a.0) c.push.ensures) c.push-2.ensures in
    let near = s.near in
    let j = sym (c.push-2.ensures.ahead ∙ c.push.ensures.ahead) in
    let n = end_of x in
    let q = word-is x c.advance.new.self (if_of n (nested_of n whole b)) k in
    let v1 = at atom_of s0 refl a.1.reads in
    let g = c.in_ok-read_block.ensures whole (omega arith) in
    let s1 = call s g in
    let v2 = at (λ n. nested_of n whole b) s j g.reads in
    let v3 = at (λ n. key_of n (codes "else")) s1 refl c.in_err-keyword.ensures in
    broken _ _ _ _ (err_from_is_err_and c.from_residual-in_err-keyword.result c.from_residual-in_err-keyword.ensures.1) (q ∙ search rules)

pub read_if-read_block-requires-2 : goal.read_if-read_block-requires-2
read_if-read_block-requires-2 t c =
    let x = c.args.cursor.now in
    let b = c.args.blocks in
    let k = c.in_ok-advance.ensures in
    let s0 = skip k in
    let a = c.in_ok-atom.ensures in
    let s = push (push (word k a.0) c.push.ensures) c.push-2.ensures in
    let near = s.near in
    let j = sym (c.push-2.ensures.ahead ∙ c.push.ensures.ahead) in
    let s1 = call s (c.in_ok-read_block.ensures (suc (length (ahead c.push-2.new.self))) (omega arith)) in
    let s2 = go s1 c.in_ok-keyword.ensures.0 in
    let near2 = s2.near in
    omega arith

pub read_if-returns : goal.read_if-returns
read_if-returns t c = λ whole h.
    let x = c.args.cursor.now in
    let b = c.args.blocks in
    let k = c.in_ok-advance.ensures in
    let s0 = skip k in
    let a = c.in_ok-atom.ensures in
    let s = push (push (word k a.0) c.push.ensures) c.push-2.ensures in
    let near = s.near in
    let j = sym (c.push-2.ensures.ahead ∙ c.push.ensures.ahead) in
    let n = end_of x in
    let q = word-is x c.advance.new.self (if_of n (nested_of n whole b)) k in
    let v1 = at atom_of s0 refl a.1.reads in
    let g = c.in_ok-read_block.ensures whole (omega arith) in
    let s1 = call s g in
    let v2 = at (λ n. nested_of n whole b) s j g.reads in
    let m = c.in_ok-keyword.ensures in
    let v3 = at (λ n. key_of n (codes "else")) s1 refl m.1 in
    let s2 = go s1 m.0 in
    let near2 = s2.near in
    MatchResult-weaker c.read_block-2.result (c.read_block-2.ensures whole (omega arith))
    (λ _ f. let z = at (λ n. nested_of n whole b) s2 refl f.reads in done (test x.place a.1.tree g.tree f.tree) (call s2 f) (q ∙ search rules) (λ after. ap (λ l. an_if x.place ∷ l) (atom-told s0 a.1 _)))
    (λ y f. let z = at (λ n. nested_of n whole b) s2 refl f in q ∙ search rules)

pub read_case-returns-in_err-read_block : goal.read_case-returns-in_err-read_block
read_case-returns-in_err-read_block t c = λ whole h.
    let x = c.args.cursor.now in
    let b = c.args.blocks in
    let k = c.in_ok-advance.ensures in
    let s0 = skip k in
    let a = c.in_ok-atom.ensures in
    let s = push (push (word k a.0) c.push.ensures) c.push-2.ensures in
    let near = s.near in
    let j = sym (c.push-2.ensures.ahead ∙ c.push.ensures.ahead) in
    let n = end_of x in
    let q = word-is x c.advance.new.self (case_of n (nested_of n whole b)) k in
    let v1 = at atom_of s0 refl a.1.reads in
    let v2 = at (λ n. nested_of n whole b) s j (c.in_err-read_block.ensures whole (omega arith)) in
    broken _ _ _ _ (err_from_is_err_and c.from_residual-in_err-read_block.result c.from_residual-in_err-read_block.ensures.1) (q ∙ search rules)

pub read_case-returns-in_err-keyword : goal.read_case-returns-in_err-keyword
read_case-returns-in_err-keyword t c = λ whole h.
    let x = c.args.cursor.now in
    let b = c.args.blocks in
    let k = c.in_ok-advance.ensures in
    let s0 = skip k in
    let a = c.in_ok-atom.ensures in
    let s = push (push (word k a.0) c.push.ensures) c.push-2.ensures in
    let near = s.near in
    let j = sym (c.push-2.ensures.ahead ∙ c.push.ensures.ahead) in
    let n = end_of x in
    let q = word-is x c.advance.new.self (case_of n (nested_of n whole b)) k in
    let v1 = at atom_of s0 refl a.1.reads in
    let g = c.in_ok-read_block.ensures whole (omega arith) in
    let s1 = call s g in
    let v2 = at (λ n. nested_of n whole b) s j g.reads in
    let v3 = at (λ n. key_of n (codes "else")) s1 refl c.in_err-keyword.ensures in
    broken _ _ _ _ (err_from_is_err_and c.from_residual-in_err-keyword.result c.from_residual-in_err-keyword.ensures.1) (q ∙ search rules)

pub read_case-returns-in_err-head : goal.read_case-returns-in_err-head
read_case-returns-in_err-head t c = λ whole h.
    let x = c.args.cursor.now in
    let b = c.args.blocks in
    let k = c.in_ok-advance.ensures in
    let s0 = skip k in
    let a = c.in_ok-atom.ensures in
    let s = push (push (word k a.0) c.push.ensures) c.push-2.ensures in
    let near = s.near in
    let j = sym (c.push-2.ensures.ahead ∙ c.push.ensures.ahead) in
    let n = end_of x in
    let q = word-is x c.advance.new.self (case_of n (nested_of n whole b)) k in
    let v1 = at atom_of s0 refl a.1.reads in
    let g = c.in_ok-read_block.ensures whole (omega arith) in
    let s1 = call s g in
    let v2 = at (λ n. nested_of n whole b) s j g.reads in
    let m = c.in_ok-keyword.ensures in
    let v3 = at (λ n. key_of n (codes "else")) s1 refl m.1 in
    let s2 = go s1 m.0 in
    let v4 = at name_of s2 refl c.in_err-head.ensures in
    broken _ _ _ _ (err_from_is_err_and c.from_residual-in_err-head.result c.from_residual-in_err-head.ensures.1) (q ∙ search rules)

pub read_case-returns-in_err-tail : goal.read_case-returns-in_err-tail
read_case-returns-in_err-tail t c = λ whole h.
    let x = c.args.cursor.now in
    let b = c.args.blocks in
    let k = c.in_ok-advance.ensures in
    let s0 = skip k in
    let a = c.in_ok-atom.ensures in
    let s = push (push (word k a.0) c.push.ensures) c.push-2.ensures in
    let near = s.near in
    let j = sym (c.push-2.ensures.ahead ∙ c.push.ensures.ahead) in
    let n = end_of x in
    let q = word-is x c.advance.new.self (case_of n (nested_of n whole b)) k in
    let v1 = at atom_of s0 refl a.1.reads in
    let g = c.in_ok-read_block.ensures whole (omega arith) in
    let s1 = call s g in
    let v2 = at (λ n. nested_of n whole b) s j g.reads in
    let m = c.in_ok-keyword.ensures in
    let v3 = at (λ n. key_of n (codes "else")) s1 refl m.1 in
    let s2 = go s1 m.0 in
    let e1 = c.in_ok-head.ensures in
    let v4 = name-at name_of c.in_ok-head.head s2 refl e1.1 in
    let s3 = go s2 e1.0 in
    let v5 = at name_of s3 refl c.in_err-tail.ensures in
    broken _ _ _ _ (err_from_is_err_and c.from_residual-in_err-tail.result c.from_residual-in_err-tail.ensures.1) (q ∙ search rules)

pub read_case-read_block-requires-2 : goal.read_case-read_block-requires-2
read_case-read_block-requires-2 t c =
    let x = c.args.cursor.now in
    let b = c.args.blocks in
    let k = c.in_ok-advance.ensures in
    let s0 = skip k in
    let a = c.in_ok-atom.ensures in
    let s = push (push (word k a.0) c.push.ensures) c.push-2.ensures in
    let near = s.near in
    let j = sym (c.push-2.ensures.ahead ∙ c.push.ensures.ahead) in
    let s1 = call s (c.in_ok-read_block.ensures (suc (length (ahead c.push-2.new.self))) (omega arith)) in
    let s2 = push (go (go (go s1 c.in_ok-keyword.ensures.0) c.in_ok-head.ensures.0) c.in_ok-tail.ensures.0) c.push-3.ensures in
    let near2 = s2.near in
    omega arith

pub read_case-returns : goal.read_case-returns
read_case-returns t c = λ whole h.
    let x = c.args.cursor.now in
    let b = c.args.blocks in
    let k = c.in_ok-advance.ensures in
    let s0 = skip k in
    let a = c.in_ok-atom.ensures in
    let s = push (push (word k a.0) c.push.ensures) c.push-2.ensures in
    let near = s.near in
    let j = sym (c.push-2.ensures.ahead ∙ c.push.ensures.ahead) in
    let n = end_of x in
    let q = word-is x c.advance.new.self (case_of n (nested_of n whole b)) k in
    let v1 = at atom_of s0 refl a.1.reads in
    let g = c.in_ok-read_block.ensures whole (omega arith) in
    let s1 = call s g in
    let v2 = at (λ n. nested_of n whole b) s j g.reads in
    let m = c.in_ok-keyword.ensures in
    let v3 = at (λ n. key_of n (codes "else")) s1 refl m.1 in
    let s2 = go s1 m.0 in
    let e1 = c.in_ok-head.ensures in
    let v4 = name-at name_of c.in_ok-head.head s2 refl e1.1 in
    let s3 = go s2 e1.0 in
    let e2 = c.in_ok-tail.ensures in
    let v5 = name-at name_of c.in_ok-tail.tail s3 refl e2.1 in
    let s4 = push (go s3 e2.0) c.push-3.ensures in
    let near4 = s4.near in
    let text = x.text.now in
    MatchResult-weaker c.read_block-2.result (c.read_block-2.ensures whole (omega arith))
    (λ _ f. let z = at (λ n. nested_of n whole b) s4 (sym c.push-3.ensures.ahead) f.reads in done (split x.place a.1.tree g.tree (ident text c.in_ok-head.head) (ident text c.in_ok-tail.tail) f.tree) (call s4 f) (q ∙ search rules) (λ after. ap (λ l. a_case x.place ∷ l) (atom-told s0 a.1 _)))
    (λ y f. let z = at (λ n. nested_of n whole b) s4 (sym c.push-3.ensures.ahead) f in q ∙ search rules)

pub read_side-returns-in-Some-Operation : goal.read_side-returns-in-Some-Operation
read_side-returns-in-Some-Operation t c = λ whole h. alike _ _ _ _ _ _ (side_is c.args.cursor.now whole c.args.blocks _ (sym c.head.ensures ∙ c.in-Some-Operation.is ∙ ap Some c.in-Some-Operation.field-0-is)) c.read_operation.ensures

pub read_side-returns-in-Some-Nil : goal.read_side-returns-in-Some-Nil
read_side-returns-in-Some-Nil t c = λ whole h. alike _ _ _ _ _ _ (side_is c.args.cursor.now whole c.args.blocks _ (sym c.head.ensures ∙ c.in-Some-Nil.is ∙ ap Some c.in-Some-Nil.field-0-is)) c.read_nil.ensures

pub read_side-returns-in-Some-Cons : goal.read_side-returns-in-Some-Cons
read_side-returns-in-Some-Cons t c = λ whole h. alike _ _ _ _ _ _ (side_is c.args.cursor.now whole c.args.blocks _ (sym c.head.ensures ∙ c.in-Some-Cons.is ∙ ap Some c.in-Some-Cons.field-0-is)) c.read_cons.ensures

pub read_side-returns-in-Some-Call : goal.read_side-returns-in-Some-Call
read_side-returns-in-Some-Call t c = λ whole h. alike _ _ _ _ _ _ (side_is c.args.cursor.now whole c.args.blocks _ (sym c.head.ensures ∙ c.in-Some-Call.is ∙ ap Some c.in-Some-Call.field-0-is)) (c.read_call.ensures whole h)

pub read_side-returns-in-Some-If : goal.read_side-returns-in-Some-If
read_side-returns-in-Some-If t c = λ whole h. alike _ _ _ _ _ _ (side_is c.args.cursor.now whole c.args.blocks _ (sym c.head.ensures ∙ c.in-Some-If.is ∙ ap Some c.in-Some-If.field-0-is)) (c.read_if.ensures whole h)

pub read_side-returns-in-Some-Region : goal.read_side-returns-in-Some-Region
read_side-returns-in-Some-Region t c = λ whole h. alike _ _ _ _ _ _ (side_is c.args.cursor.now whole c.args.blocks _ (sym c.head.ensures ∙ c.in-Some-Region.is ∙ ap Some c.in-Some-Region.field-0-is)) (c.read_region.ensures whole h)

pub read_side-returns-in-Some-Case : goal.read_side-returns-in-Some-Case
read_side-returns-in-Some-Case t c = λ whole h. alike _ _ _ _ _ _ (side_is c.args.cursor.now whole c.args.blocks _ (sym c.head.ensures ∙ c.in-Some-Case.is ∙ ap Some c.in-Some-Case.field-0-is)) (c.read_case.ensures whole h)

pub read_side-returns-in-None : goal.read_side-returns-in-None
read_side-returns-in-None t c = λ whole h.
    let x = c.args.cursor.now in
    let q = side_is x whole c.args.blocks _ (sym c.head.ensures ∙ c.in-None.is) in
    MatchResult-weaker c.read.result c.read.ensures
    (λ _ g. done (atom g.tree) (call (start x) g) (q ∙ ap (λ v. then v (λ a. give (atom a))) g.reads) (λ after. refl))
    (λ y f. q ∙ ap (λ v. then v (λ a. give (atom a))) f)
