-- One function, and the others up to the end.
use Rattle.std.proofs.Common.{◌-◌, [], ◌∷◌, Ok, sym, ap, ◌∙◌, arith}
use Rattle.std.proofs.lemmas.Result.{MatchResult-weaker, err_from_is_err_and}
use Rattle.lexing.specs.Texts.{behind}
use Rattle.language.specs.Reading.{funs}
use Rattle.reading.specs.Standing.{tokens_left}
use Rattle.reading.specs.Cursors.{end_of, ahead, token_of}
use Rattle.reading.specs.Parts.{function_of}
use Rattle.reading.proofs.Steps.{tokens-end, tokens-more}
use Rattle.reading.proofs.Stages.{start, call}
use Rattle.reading.proofs.Whole.{broken_all, funs-err, funs-end, funs-more}
use Rattle.reading.proofs.functions.+read_functions.Goals as goal

pub returns-in_err-read_function : goal.returns-in_err-read_function
returns-in_err-read_function t c = λ whole room h k.
    let x = c.args.cursor.now in
    broken_all whole room _ _ (err_from_is_err_and c.from_residual.result c.from_residual.ensures.1) (funs-err (end_of x) (function_of (end_of x) whole) room _ (ahead x) _ k (c.in_err-read_function.ensures whole h))

pub returns-then-at_end : goal.returns-then-at_end
returns-then-at_end t c = λ whole room h k.
    let x = c.args.cursor.now in
    let y = c.read_function.new.cursor in
    let g = c.in_ok-read_function.ensures whole h in
    record {
      tree = g.tree ∷ [];
      reads = funs-end (end_of x) (function_of (end_of x) whole) room _ (ahead x) g.tree k (g.reads ∙ ap (λ l. Ok (g.tree, l)) (tokens-end (token_of y) y.rest.now (sym c.at_end.ensures ∙ c.if-at_end.true)));
      told = g.told;
      text = g.text;
      same = g.same;
      long = g.long;
    }

pub returns : goal.returns
returns t c = λ whole room h k.
    let x = c.args.cursor.now in
    let n = end_of x in
    let y = c.read_function.new.cursor in
    let g = c.in_ok-read_function.ensures whole h in
    let s = call (start x) g in
    let near = s.near in
    let ts = tokens_left (behind (token_of y)) y.rest.now in
    let a = tokens-more (token_of y) y.rest.now (sym c.at_end.ensures ∙ c.if-at_end.false) in
    let q = funs-more n (function_of n whole) room _ (ahead x) g.tree (token_of y) ts in
    let first = g.reads ∙ ap (λ l. Ok (g.tree, l)) a in
    let others = ap (funs n (function_of n whole) (room - 1)) (sym a) ∙ ap (λ n. funs n (function_of n whole) (room - 1) (ahead y)) (sym s.end) in
    MatchResult-weaker c.read_functions.result (c.read_functions.ensures whole (room - 1) (omega arith) (omega arith))
    (λ _ f. record { tree = g.tree ∷ f.tree; reads = q _ k first (others ∙ f.reads); told = λ after. f.told after ∙ g.told _; text = f.text ∙ g.text; same = f.same ∙ g.same; long = f.long ∙ g.long })
    (λ z f. q _ k first (others ∙ f))
