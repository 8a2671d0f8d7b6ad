-- Found or not.
use Rattle.std.proofs.Common.{codes, rules, sym, ap, ◌∙◌}
use Rattle.language.specs.Scope.{find}
use Rattle.draft.specs.Items.{text_of}
use Rattle.scope.specs.declared.search.Function.{Function}
use Rattle.scope.specs.Words.{bytes}
use Rattle.checking.proofs.Found.{find-functions}
use Rattle.checking.proofs.function.main_function.Goals as goal

pub returns-in-None : goal.returns-in-None
returns-in-None c =
    let t = c.args.table.now in
    let h = find-functions t c.args.functions.now (codes "main") _ (ap (find (λ e. bytes (text_of t) e.name) (codes "main")) (sym c.as_slice-entries.ensures.value) ∙ c.in-None.ensures.found) in
    search (rules, h)

pub returns-in-Some : goal.returns-in-Some
returns-in-Some c =
    let d : Function = record { name = record { place = 0; length = 0 }; header = 0 } in
    let t = c.args.table.now in
    let h = find-functions t c.args.functions.now (codes "main") _ (ap (find (λ e. bytes (text_of t) e.name) (codes "main")) (sym c.as_slice-entries.ensures.value) ∙ c.in-Some.ensures.found.1 d) in
    let fits = rw (c.at.ensures.table, c.at.ensures.position) at c.main_like-fits.ensures in
    search (rules, h, fits)
