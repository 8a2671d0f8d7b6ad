-- What the iterator finds is the first entry of the name.
use Rattle.std.proofs.Common.{rules, tests, length, unwrap_or, sym, ap, ◌∙◌, subst, MatchOption, ◌≡◌, None}
use Rattle.std.proofs.lemmas.Iterator.{YieldsList-from_slice}
use Rattle.std.proofs.lemmas.Iterator.Search.{position_from_yields_List}
use Rattle.lexing.specs.Tokens.{same_bytes}
use Rattle.language.specs.Scope.{find}
use Rattle.draft.specs.Items.{text_of}
use Rattle.scope.specs.Words.{bytes}
use Rattle.scope.specs.Searches.{First}
use Rattle.scope.proofs.Searches.{counted, placed}
use Rattle.scope.proofs.search.first.Goals as goal

pub returns : goal.returns
returns g c =
    let text = text_of c.args.table.now in
    let n = c.args.sought.now in
    let es = c.args.entries.now in
    let e = position_from_yields_List (λ x. same_bytes (bytes text (g.E.Named.key x)) n) _ _ c.position.result c.position.ensures.ran (YieldsList-from_slice es c.iter.ensures.rest) (λ x b q k. search (rules, tests)) in
    record {
      found = subst (λ r. MatchOption r (find (λ x. bytes text (g.E.Named.key x)) n es ≡ None) (λ i. First (λ x. bytes text (g.E.Named.key x)) n es i)) (sym e) (placed (λ x. bytes text (g.E.Named.key x)) n es);
      before = ap (λ r. unwrap_or r (length es)) e ∙ counted (λ x. same_bytes (bytes text (g.E.Named.key x)) n) es;
    }
