use Rattle.std.proofs.Common.{subst}
use Rattle.resolving.specs.Walks.{Sought}
use Rattle.resolving.proofs.Laying.{call-laid}
use Rattle.resolving.proofs.rights.call.Goals as goal

pub returns-clause-walks : goal.returns-clause-walks
returns-clause-walks c =
    let t = c.args.names.now.table.now in
    call-laid t c.args.names.now.state c.args.tape.now.items c.push.new.self.items c.hand-handed.new.tape.items c.argue-end.new.tape.items c.args.start.position c.len-slot.result c.args.place
    c.behind-declared.result c.hand-handed.result c.argue-end.result c.args.name c.seek_function-callee.result c.read_header-header.result
    (subst (λ n. Sought t n 0 0 c.seek_function-callee.result) c.bytes_of.ensures c.seek_function-callee.ensures) c.read_header-header.ensures c.behind-declared.ensures.walks c.len-slot.ensures.value c.push.ensures.room c.hand-handed.ensures.walks c.argue-end.ensures.walks
