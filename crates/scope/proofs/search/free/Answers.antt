-- An entry of the name stands there.
use Rattle.std.proofs.Common.{◌≡◌, None, MatchOption, sym, subst, arith}
use Rattle.language.specs.Scope.{find}
use Rattle.draft.specs.Items.{text_of, ident}
use Rattle.scope.specs.Words.{bytes}
use Rattle.scope.specs.Searches.{First}
use Rattle.scope.proofs.Scopes.{taken_some}
use Rattle.scope.proofs.search.free.Goals as goal

pub returns-then-is_some-clause-asked : goal.returns-then-is_some-clause-asked
returns-then-is_some-clause-asked g c =
    let text = text_of c.args.table.now in
    let es = c.args.entries.now in
    taken_some (λ e. bytes text (g.E.Named.key e)) (ident text c.args.name) es c.args.most c.first.result (omega arith) (sym c.if-is_some.ensures)
    (subst (λ n. MatchOption c.first.result (find (λ e. bytes text (g.E.Named.key e)) n es ≡ None) (λ i. First (λ e. bytes text (g.E.Named.key e)) n es i)) c.bytes_of.ensures c.first.ensures.found)
