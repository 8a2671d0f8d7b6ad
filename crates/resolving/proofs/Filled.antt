-- The whole table: what all functions lay down and list is what the script is resolved to.
use Rattle.std.proofs.Common.{◌+◌, ◌≤◌, ◌≡◌, ℕ, [], ◌++◌, length, Ok, codes, ap, ◌∙◌, arith}
use Rattle.std.proofs.ByRecursion.{all_has_itself}
use Rattle.language.specs.Syntax.{Script}
use Rattle.language.specs.Checking.{checking}
use Rattle.language.proofs.Passing.{passed_is}
use Rattle.language.proofs.Limits.{scopes_keep_limits}
use Rattle.draft.specs.declared.table.Table.{Table}
use Rattle.draft.specs.Items.{items, items_of}
use Rattle.program.specs.declared.code.Code.{Code}
use Rattle.program.proofs.Sizes.{from_length}
use Rattle.resolving.proofs.Lengths.{funs-items}
use Rattle.program.specs.Compiled.{compiled_from, listed_from}
use Rattle.program.specs.Held.{commands, functions, Holds}
use Rattle.resolving.specs.Walks.{functions_before}
use Rattle.resolving.specs.Whole.{FunctionsWalk}
use Rattle.resolving.proofs.Scanning.{scanned}

pub filled : (t : Table) (before after : Code) (main end : ℕ) (s : Script) → length (items t) ≤ 4096 → commands before ≡ [] → functions before ≡ [] →
    FunctionsWalk t before after 0 → main ≡ 0 + functions_before (codes "main") (items t) → items t ≡ items_of s → checking end s ≡ Ok s →
    Holds (record { commands = after.commands; functions = after.functions; main = main }) s
filled t before after main end s small none nothing walk main_is e k =
    let typed = (passed_is end s s k).0 in
    let (f, found, m) = typed.main_is in
    let few = (scopes_keep_limits s typed).0.0 in
    let fit = from_length s (length (commands before)) s in
    let items-fit = funs-items s in
    let main_at : main ≡ functions_before (codes "main") (items t) = omega (arith, main_is) in
    let zero : length (commands before) ≡ 0 = ap length none in
    let (g, l) = walk s s e typed (all_has_itself s) e (omega (arith, fit, items-fit, ap length e)) (omega (arith, few, ap length nothing)) in (
      g.is ∙ ap (λ x. x ++ compiled_from s (length (commands before)) s) none ∙ ap (λ j. compiled_from s j s) zero,
      l.is ∙ ap (λ x. x ++ listed_from (length (commands before)) s) nothing ∙ ap (λ j. listed_from j s) zero,
      main_at ∙ ap (functions_before (codes "main")) e ∙ (scanned s (codes "main") f found).index,
    )
