use Rattle.resolving.proofs.Laying.{operated}
use Rattle.resolving.proofs.rights.operate.Goals as goal

pub returns-clause-walks : goal.returns-clause-walks
returns-clause-walks c =
    operated c.args.names.now.table.now c.args.names.now.state c.args.tape.now.items c.push.new.self.items c.args.start.position c.len-slot.result c.args.place c.args.operator
    c.atom-first.result c.atom-second.result c.atom-first.ensures c.atom-second.ensures c.len-slot.ensures.value c.push.ensures.room
