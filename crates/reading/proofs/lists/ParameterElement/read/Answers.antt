-- A name, and its type.
use Rattle.std.proofs.Common.{codes, sym, refl, rules}
use Rattle.std.proofs.lemmas.Result.{MatchResult-weaker}
use Rattle.language.specs.Nesting.{most_lists}
use Rattle.language.specs.Reading.{mark_of, type_of}
use Rattle.draft.specs.Items.{ident}
use Rattle.reading.proofs.Stages.{start, go, push, call, done, at}
use Rattle.reading.proofs.lists.ParameterElement.read.Goals as goal

pub returns : goal.returns
returns c =
    let x = c.args.cursor.now in
    let e = c.in_ok-name.ensures in
    let m = c.in_ok-mark.ensures in
    let s1 = go (start x) e.0 in
    let s = push (go s1 m.0) c.push.ensures in
    let v = at (λ n. mark_of n (codes ":")) s1 refl m.1 in
    MatchResult-weaker c.read_type.result c.read_type.ensures
    (λ _ g. let r = at (λ n. type_of n most_lists) s (sym c.push.ensures.ahead) g.reads in done (record { name = ident x.text.now c.in_ok-name.name; type = g.tree }) (call s g) (search rules) (λ after. refl))
    (λ y f. let r = at (λ n. type_of n most_lists) s (sym c.push.ensures.ahead) f in search rules)
