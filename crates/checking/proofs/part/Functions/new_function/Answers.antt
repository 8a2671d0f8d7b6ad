-- By the first entry of that name, and by room.
use Rattle.std.proofs.Common.{rules}
use Rattle.draft.specs.Items.{text_of, ident}
use Rattle.checking.proofs.Found.{new-function_by}
use Rattle.checking.proofs.part.Functions.new_function.Goals as goal

pub returns-in_err-ask-clause-asked : goal.returns-in_err-ask-clause-asked
returns-in_err-ask-clause-asked c =
    let t = c.args.table.now in
    let h = new-function_by t c.args.self.now (ident (text_of t) c.args.name) _ _ c.first-known.result c.as_slice.ensures.value c.bytes_of.ensures c.first-known.ensures.found in
    search (rules, h)

pub returns-clause-asked : goal.returns-clause-asked
returns-clause-asked c =
    let t = c.args.table.now in
    let h = new-function_by t c.args.self.now (ident (text_of t) c.args.name) _ _ c.first-known.result c.as_slice.ensures.value c.bytes_of.ensures c.first-known.ensures.found in
    search (rules, h)
