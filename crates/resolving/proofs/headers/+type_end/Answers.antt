-- A type is words in a row and a last one.
use Rattle.std.proofs.Common.{◌≡◌, rules}
use Rattle.language.specs.Syntax.{Ident}
use Rattle.draft.specs.Items.{a_list, item, text_of}
use Rattle.resolving.proofs.Heading.{type-more, type-last, type-none}
use Rattle.resolving.proofs.Fronts.{front_kept}
use Rattle.resolving.proofs.headers.+type_end.Goals as goal

pub returns-in-Some-List-clause-walks : goal.returns-in-Some-List-clause-walks
returns-in-Some-List-clause-walks m c =
    let t = c.args.table.now in
    type-more t c.args.position c.type_end.result _ (front_kept t c.args.position _ _ c.in-Some-List.field-0-is c.in-Some-List.ensures.1) c.type_end.ensures.walks

pub returns-in-Some-clause-walks : goal.returns-in-Some-clause-walks
returns-in-Some-clause-walks m c =
    let t = c.args.table.now in
    let never : (x : Ident) → item (text_of t) c.in-Some.field-0 ≡ a_list x → ⊥ = search rules in
    type-last t c.args.position (item (text_of t) c.in-Some.field-0) c.in-Some.ensures.1 never

pub returns-in-None-clause-walks : goal.returns-in-None-clause-walks
returns-in-None-clause-walks m c = type-none c.args.table.now c.args.position c.in-None.ensures
