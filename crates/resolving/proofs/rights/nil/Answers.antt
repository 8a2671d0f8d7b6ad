use Rattle.draft.specs.Items.{text_of, ident}
use Rattle.resolving.proofs.Laying.{nil-laid}
use Rattle.resolving.proofs.rights.nil.Goals as goal

pub returns-clause-walks : goal.returns-clause-walks
returns-clause-walks c =
    let t = c.args.names.now.table.now in
    nil-laid t c.args.names.now.state c.args.tape.now.items c.push.new.self.items c.args.start.position c.len-slot.result c.type_end.result c.args.place (ident (text_of t) c.args.region)
    c.len-slot.ensures.value c.push.ensures.room c.type_end.ensures.walks
