-- A function: its name, its regions, its parameters, its result and its block.
use Rattle.std.proofs.Common.{codes, sym, refl, arith, rules}
use Rattle.std.proofs.lemmas.Result.{MatchResult-weaker, err_from_is_err_and}
use Rattle.language.specs.Nesting.{most_lists, most_blocks}
use Rattle.language.specs.Reading.{mark_of, name_of, regions, elements, param_of, type_of}
use Rattle.draft.specs.Items.{ident}
use Rattle.reading.specs.Parts.{nested_of}
use Rattle.reading.proofs.Stages.{start, go, push, call, done, broken, at, name-at}
use Rattle.reading.proofs.functions.read_function.Goals as goal

pub returns-in_err-read_elements : goal.returns-in_err-read_elements
returns-in_err-read_elements c = λ room h.
    let x = c.args.cursor.now in
    let k = c.in_ok-keyword.ensures in
    let s0 = go (start x) k.0 in
    let e = c.in_ok-name.ensures in
    let name = c.in_ok-name.name in
    let s1 = push (go s0 e.0) c.push.ensures in
    let near1 = s1.near in
    let v0 = name-at name_of name s0 refl e.1 in
    let g1 = c.in_ok-read_regions.ensures room (omega arith) in
    let s2 = call s1 g1 in
    let near2 = s2.near in
    let v1 = at (λ n. regions n room) s1 (sym c.push.ensures.ahead) g1.reads in
    let v2 = at (λ n. elements n (param_of n most_lists) room) s2 refl (c.in_err-read_elements.ensures room (omega arith)) in
    broken _ _ _ _ (err_from_is_err_and c.from_residual-in_err-read_elements.result c.from_residual-in_err-read_elements.ensures.1) (search rules)

pub returns-in_err-mark : goal.returns-in_err-mark
returns-in_err-mark c = λ room h.
    let x = c.args.cursor.now in
    let k = c.in_ok-keyword.ensures in
    let s0 = go (start x) k.0 in
    let e = c.in_ok-name.ensures in
    let name = c.in_ok-name.name in
    let s1 = push (go s0 e.0) c.push.ensures in
    let near1 = s1.near in
    let v0 = name-at name_of name s0 refl e.1 in
    let g1 = c.in_ok-read_regions.ensures room (omega arith) in
    let s2 = call s1 g1 in
    let near2 = s2.near in
    let v1 = at (λ n. regions n room) s1 (sym c.push.ensures.ahead) g1.reads in
    let g2 = c.in_ok-read_elements.ensures room (omega arith) in
    let s3 = call s2 g2 in
    let v2 = at (λ n. elements n (param_of n most_lists) room) s2 refl g2.reads in
    let v3 = at (λ n. mark_of n (codes ":")) s3 refl c.in_err-mark.ensures in
    broken _ _ _ _ (err_from_is_err_and c.from_residual-in_err-mark.result c.from_residual-in_err-mark.ensures.1) (search rules)

pub returns-in_err-read_type : goal.returns-in_err-read_type
returns-in_err-read_type c = λ room h.
    let x = c.args.cursor.now in
    let k = c.in_ok-keyword.ensures in
    let s0 = go (start x) k.0 in
    let e = c.in_ok-name.ensures in
    let name = c.in_ok-name.name in
    let s1 = push (go s0 e.0) c.push.ensures in
    let near1 = s1.near in
    let v0 = name-at name_of name s0 refl e.1 in
    let g1 = c.in_ok-read_regions.ensures room (omega arith) in
    let s2 = call s1 g1 in
    let near2 = s2.near in
    let v1 = at (λ n. regions n room) s1 (sym c.push.ensures.ahead) g1.reads in
    let g2 = c.in_ok-read_elements.ensures room (omega arith) in
    let s3 = call s2 g2 in
    let v2 = at (λ n. elements n (param_of n most_lists) room) s2 refl g2.reads in
    let m = c.in_ok-mark.ensures in
    let v3 = at (λ n. mark_of n (codes ":")) s3 refl m.1 in
    let s4 = push (go s3 m.0) c.push-2.ensures in
    let near4 = s4.near in
    let v4 = at (λ n. type_of n most_lists) s4 (sym c.push-2.ensures.ahead) c.in_err-read_type.ensures in
    broken _ _ _ _ (err_from_is_err_and c.from_residual-in_err-read_type.result c.from_residual-in_err-read_type.ensures.1) (search rules)

pub returns : goal.returns
returns c = λ room h.
    let x = c.args.cursor.now in
    let k = c.in_ok-keyword.ensures in
    let s0 = go (start x) k.0 in
    let e = c.in_ok-name.ensures in
    let name = c.in_ok-name.name in
    let s1 = push (go s0 e.0) c.push.ensures in
    let near1 = s1.near in
    let v0 = name-at name_of name s0 refl e.1 in
    let g1 = c.in_ok-read_regions.ensures room (omega arith) in
    let s2 = call s1 g1 in
    let near2 = s2.near in
    let v1 = at (λ n. regions n room) s1 (sym c.push.ensures.ahead) g1.reads in
    let g2 = c.in_ok-read_elements.ensures room (omega arith) in
    let s3 = call s2 g2 in
    let v2 = at (λ n. elements n (param_of n most_lists) room) s2 refl g2.reads in
    let m = c.in_ok-mark.ensures in
    let v3 = at (λ n. mark_of n (codes ":")) s3 refl m.1 in
    let s4 = push (go s3 m.0) c.push-2.ensures in
    let near4 = s4.near in
    let g3 = c.in_ok-read_type.ensures in
    let v4 = at (λ n. type_of n most_lists) s4 (sym c.push-2.ensures.ahead) g3.reads in
    let s5 = call s4 g3 in
    let near5 = s5.near in
    MatchResult-weaker c.read_block.result (c.read_block.ensures room (omega arith))
    (λ _ f. let v5 = at (λ n. nested_of n room most_blocks) s5 refl f.reads in done (record { name = ident x.text.now name; regions = g1.tree; params = g2.tree; result = g3.tree; body = f.tree }) (call s5 f) (search rules) (λ after. refl))
    (λ y f. let v5 = at (λ n. nested_of n room most_blocks) s5 refl f in search rules)
