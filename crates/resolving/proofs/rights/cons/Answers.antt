use Rattle.draft.specs.Items.{text_of, ident}
use Rattle.resolving.proofs.Laying.{cons-laid}
use Rattle.resolving.proofs.rights.cons.Goals as goal

pub returns-clause-walks : goal.returns-clause-walks
returns-clause-walks c =
    let t = c.args.names.now.table.now in
    cons-laid t c.args.names.now.state c.args.tape.now.items c.push.new.self.items c.args.start.position c.len-slot.result c.args.place c.region-target.result (ident (text_of t) c.args.region)
    c.atom-head.result c.atom-tail.result c.atom-head.ensures c.atom-tail.ensures c.region-target.ensures c.len-slot.ensures.value c.push.ensures.room
