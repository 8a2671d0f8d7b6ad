-- One function and the others, or none.
use Rattle.std.proofs.Common.{arith}
use Rattle.program.specs.declared.code.Code.{Code}
use Rattle.resolving.proofs.Wholes.{functions-none, functions_more, functions-stop}
use Rattle.resolving.proofs.functions.+functions.Goals as goal

pub returns-then-position-len-clause-walks : goal.returns-then-position-len-clause-walks
returns-then-position-len-clause-walks m c = functions-none c.args.table.now c.args.code.now c.args.position (omega arith)

pub returns-then-end-position-clause-walks : goal.returns-then-end-position-clause-walks
returns-then-end-position-clause-walks m c =
    let mid : Code = record { commands = c.block-end.new.tape; functions = c.push.new.self; main = c.args.code.now.main } in
    functions_more c.args.table.now c.args.code.now mid c.functions.new.code c.args.position c.len-2.result c.len-3.result c.len-4.result c.read_header-header.result c.block-end.result (omega arith)
    c.read_header-header.ensures c.len-2.ensures.value c.len-3.ensures.value c.len-4.ensures.value c.push.ensures.room c.block-end.ensures.walks c.functions.ensures.walks

pub returns-else-end-position-clause-walks : goal.returns-else-end-position-clause-walks
returns-else-end-position-clause-walks m c =
    let mid : Code = record { commands = c.block-end.new.tape; functions = c.push.new.self; main = c.args.code.now.main } in
    functions-stop c.args.table.now c.args.code.now mid mid c.args.position c.read_header-header.result c.block-end.result (omega arith)
    c.read_header-header.ensures c.block-end.ensures.walks (omega arith)
