-- One more, or none.
use Rattle.std.proofs.Common.{◌≡◌, ℕ, List, ◌∷◌, drop, rules}
use Rattle.language.specs.Syntax.{Ident, Atom}
use Rattle.draft.specs.Items.{Item, a_let, a_print, a_last, items, items_atom}
use Rattle.resolving.proofs.Calling.{argue_more, argue_none}
use Rattle.resolving.proofs.Defaults.{no_block}
use Rattle.resolving.proofs.calls.+argue.Goals as goal

pub returns-in-Some-Variable-clause-walks : goal.returns-in-Some-Variable-clause-walks
returns-in-Some-Variable-clause-walks m c =
    let t = c.args.names.now.table.now in
    let no-let : (x : Ident) (xs : List Item) → drop c.args.position (items t) ≡ a_let x ∷ xs → ⊥ = search rules in
    let no-print : (p : ℕ) (xs : List Item) → drop c.args.position (items t) ≡ a_print p ∷ xs → ⊥ = search rules in
    let no-last : (xs : List Item) → drop c.args.position (items t) ≡ a_last ∷ xs → ⊥ = search rules in
    argue_more t c.args.names.now.state c.args.tape.now.items c.push.new.self.items _ c.args.position c.argue.result c.atom-known.result (no_block _ no-let no-print no-last) c.atom-known.ensures c.push.ensures.room c.argue.ensures.walks

pub returns-in_default-clause-walks : goal.returns-in_default-clause-walks
returns-in_default-clause-walks m c =
    let t = c.args.names.now.table.now in
    let never : (a : Atom) (rest : List Item) → drop c.args.position (items t) ≡ items_atom a rest → ⊥ = search rules in
    argue_none t c.args.names.now.state c.args.tape.now.items c.args.position never
