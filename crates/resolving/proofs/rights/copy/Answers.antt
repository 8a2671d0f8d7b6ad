use Rattle.resolving.proofs.Laying.{copied}
use Rattle.resolving.proofs.rights.copy.Goals as goal

pub returns-clause-walks : goal.returns-clause-walks
returns-clause-walks c =
    copied c.args.names.now.table.now c.args.names.now.state c.args.tape.now.items c.push.new.self.items c.args.start.position c.len-slot.result c.atom-known.result c.atom-known.ensures c.len-slot.ensures.value c.push.ensures.room
