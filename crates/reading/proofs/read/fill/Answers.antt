-- The tokens pass, and then the functions are read from the first one on.
use Rattle.std.proofs.Common.{suc, [], ◌++◌, length, Ok, sym, ap, ◌∙◌, subst, append-nil, arith, rules}
use Rattle.std.proofs.lemmas.Result.{MatchResult-weaker}
use Rattle.language.specs.Reading.{funs}
use Rattle.draft.specs.Items.{items, items_of}
use Rattle.reading.specs.Cursors.{ahead}
use Rattle.reading.specs.Parts.{function_of}
use Rattle.reading.specs.Answers.{Full}
use Rattle.reading.proofs.Texts.{scanned, reading-ok}
use Rattle.reading.proofs.read.fill.Goals as goal

pub new-requires-clause-room : goal.new-requires-clause-room
new-requires-clause-room c =
    let few = (scanned c.args.text.now _ c.in_ok-_count.ensures.is).few in
    let none = c.load.ensures.count in
    omega arith

pub returns : goal.returns
returns c =
    let s = c.args.text.now in
    let x = c.in_ok-cursor.cursor in
    let y = c.read_functions.new.cursor in
    let e = c.in_ok-cursor.ensures in
    let l = c.load.ensures in
    let k = scanned s _ c.in_ok-_count.ensures.is in
    let room = suc (length (ahead x)) in
    let q = reading-ok s (ahead x) (k.tokens ∙ ap Ok (sym e.1)) ∙ ap (λ n. funs n (function_of n room) room (ahead x)) (sym (ap length e.0)) in
    MatchResult-weaker c.read_functions.result (c.read_functions.ensures room room (omega arith) (omega arith))
    (λ _ f.
    let same = f.same ∙ e.2 in
    let full : Full s y.table.now = record {
      tree = f.tree;
      reads = q ∙ f.reads;
      told = sym (append-nil (items y.table.now)) ∙ f.told [] ∙ ap (λ t. items t ++ items_of f.tree) e.3 ∙ ap (λ l. l ++ items_of f.tree) l.items;
      text = y.copied ∙ f.text ∙ e.0;
      long = f.long ∙ ap (λ t. length t.text.items) e.3 ∙ l.length;
    } in
    subst (Full s) (search rules) full)
    (λ y f. q ∙ f)
