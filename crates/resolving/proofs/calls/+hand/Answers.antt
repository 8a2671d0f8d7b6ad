-- One more, or none.
use Rattle.std.proofs.Common.{◌≡◌, List, ◌∷◌, drop, rules}
use Rattle.language.specs.Syntax.{Ident}
use Rattle.draft.specs.Items.{Item, a_handed, items}
use Rattle.resolving.proofs.Calling.{hand_more, hand_none}
use Rattle.resolving.proofs.Fronts.{front_kept}
use Rattle.resolving.proofs.calls.+hand.Goals as goal

pub returns-in-Some-Handed-clause-walks : goal.returns-in-Some-Handed-clause-walks
returns-in-Some-Handed-clause-walks m c =
    let t = c.args.names.now.table.now in
    hand_more t c.args.names.now.state c.args.tape.now.items c.push.new.self.items _ c.args.position c.hand.result c.region.result c.in-Some-Handed.name
    (front_kept t c.args.position _ _ c.in-Some-Handed.field-0-is c.in-Some-Handed.ensures.1) c.region.ensures c.push.ensures.room c.hand.ensures.walks

pub returns-in_default-clause-walks : goal.returns-in_default-clause-walks
returns-in_default-clause-walks m c =
    let t = c.args.names.now.table.now in
    let never : (r : Ident) (xs : List Item) → drop c.args.position (items t) ≡ a_handed r ∷ xs → ⊥ = search rules in
    hand_none t c.args.names.now.state c.args.tape.now.items c.args.position never

pub returns-in_default-2-clause-walks : goal.returns-in_default-2-clause-walks
returns-in_default-2-clause-walks m c =
    let t = c.args.names.now.table.now in
    let never : (r : Ident) (xs : List Item) → drop c.args.position (items t) ≡ a_handed r ∷ xs → ⊥ = search rules in
    hand_none t c.args.names.now.state c.args.tape.now.items c.args.position never
