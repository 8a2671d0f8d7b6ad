-- The function's name, the regions handed over, and the arguments.
use Rattle.std.proofs.Common.{sym, refl, ◌∙◌, arith, rules}
use Rattle.std.proofs.lemmas.Result.{MatchResult-weaker, err_from_is_err_and}
use Rattle.language.specs.Syntax.{call as a-call-of}
use Rattle.language.specs.Reading.{name_of, regions, elements, atom_of, call_of}
use Rattle.draft.specs.Items.{ident}
use Rattle.reading.specs.Cursors.{end_of}
use Rattle.reading.proofs.Steps.{word-is}
use Rattle.reading.proofs.Stages.{skip, word, push, call, done, broken, at, name-at}
use Rattle.reading.proofs.sides.read_call.Goals as goal

pub returns-in_err-read_regions : goal.returns-in_err-read_regions
returns-in_err-read_regions c = λ room h.
    let x = c.args.cursor.now in
    let n = end_of x in
    let k = c.in_ok-advance.ensures in
    let e = c.in_ok-name.ensures in
    let name = c.in_ok-name.name in
    let s = push (word k e.0) c.push.ensures in
    let near = s.near in
    let q = word-is x c.advance.new.self (call_of n room) k in
    let v = name-at name_of name (skip k) refl e.1 in
    let r = at (λ n. regions n room) s (sym c.push.ensures.ahead) (c.in_err-read_regions.ensures room (omega arith)) in
    broken _ _ _ _ (err_from_is_err_and c.from_residual-in_err-read_regions.result c.from_residual-in_err-read_regions.ensures.1) (q ∙ search rules)

pub returns : goal.returns
returns c = λ room h.
    let x = c.args.cursor.now in
    let n = end_of x in
    let k = c.in_ok-advance.ensures in
    let e = c.in_ok-name.ensures in
    let name = c.in_ok-name.name in
    let s = push (word k e.0) c.push.ensures in
    let near = s.near in
    let q = word-is x c.advance.new.self (call_of n room) k in
    let v = name-at name_of name (skip k) refl e.1 in
    let g = c.in_ok-read_regions.ensures room (omega arith) in
    let r = at (λ n. regions n room) s (sym c.push.ensures.ahead) g.reads in
    let s2 = call s g in
    let near2 = s2.near in
    MatchResult-weaker c.read_elements.result (c.read_elements.ensures room (omega arith))
    (λ _ f. let w = at (λ n. elements n (atom_of n) room) s2 refl f.reads in done (a-call-of x.place (ident x.text.now name) g.tree f.tree) (call s2 f) (q ∙ search rules) (λ after. refl))
    (λ y f. let w = at (λ n. elements n (atom_of n) room) s2 refl f in q ∙ search rules)
