-- One more, or none.
use Rattle.std.proofs.Common.{◌≡◌, List, ◌∷◌, drop, rules}
use Rattle.language.specs.Syntax.{Ident}
use Rattle.draft.specs.Items.{Item, a_parameter, items}
use Rattle.resolving.proofs.Heading.{params_more, params_none}
use Rattle.resolving.proofs.Fronts.{front_kept}
use Rattle.resolving.proofs.headers.+params.Goals as goal

pub returns-in-Some-Parameter : goal.returns-in-Some-Parameter
returns-in-Some-Parameter m c =
    let t = c.args.table.now in
    params_more t c.args.state.now c.add_variable.new.self c.params.new.state c.args.position c.type_end.result c.params.result c.in-Some-Parameter.name
    (front_kept t c.args.position _ _ c.in-Some-Parameter.field-0-is c.in-Some-Parameter.ensures.1) c.add_variable.ensures.added c.type_end.ensures.walks c.params.ensures

pub returns-in_default : goal.returns-in_default
returns-in_default m c =
    let t = c.args.table.now in
    let never : (x : Ident) (xs : List Item) → drop c.args.position (items t) ≡ a_parameter x ∷ xs → ⊥ = search rules in
    params_none t c.args.state.now c.args.position never

pub returns-in_default-2 : goal.returns-in_default-2
returns-in_default-2 m c =
    let t = c.args.table.now in
    let never : (x : Ident) (xs : List Item) → drop c.args.position (items t) ≡ a_parameter x ∷ xs → ⊥ = search rules in
    params_none t c.args.state.now c.args.position never
