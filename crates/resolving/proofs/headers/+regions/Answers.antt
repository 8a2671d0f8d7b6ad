-- One more, or none.
use Rattle.std.proofs.Common.{◌≡◌, List, ◌∷◌, drop, rules}
use Rattle.language.specs.Syntax.{Ident}
use Rattle.draft.specs.Items.{Item, a_header_region, items}
use Rattle.resolving.proofs.Heading.{regions-more, regions-none}
use Rattle.resolving.proofs.Fronts.{front_kept}
use Rattle.resolving.proofs.headers.+regions.Goals as goal

pub returns-in-Some-HeaderRegion : goal.returns-in-Some-HeaderRegion
returns-in-Some-HeaderRegion m c =
    let t = c.args.table.now in
    regions-more t c.args.state.now c.add_region.new.self c.regions.new.state c.args.position c.regions.result c.in-Some-HeaderRegion.name
    (front_kept t c.args.position _ _ c.in-Some-HeaderRegion.field-0-is c.in-Some-HeaderRegion.ensures.1) c.add_region.ensures.added c.regions.ensures

pub returns-in_default : goal.returns-in_default
returns-in_default m c =
    let t = c.args.table.now in
    let never : (x : Ident) (xs : List Item) → drop c.args.position (items t) ≡ a_header_region x ∷ xs → ⊥ = search rules in
    regions-none t c.args.state.now c.args.position never

pub returns-in_default-2 : goal.returns-in_default-2
returns-in_default-2 m c =
    let t = c.args.table.now in
    let never : (x : Ident) (xs : List Item) → drop c.args.position (items t) ≡ a_header_region x ∷ xs → ⊥ = search rules in
    regions-none t c.args.state.now c.args.position never
