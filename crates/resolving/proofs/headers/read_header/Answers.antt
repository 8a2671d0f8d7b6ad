-- The parts of the header together.
use Rattle.resolving.proofs.Heading.{header_whole}
use Rattle.resolving.proofs.headers.read_header.Goals as goal

pub returns : goal.returns
returns c =
    let t = c.args.table.now in
    header_whole t c.args.position c.behind.result c.regions-opened.result c.params-bound.result c.behind-result.result c.type_end.result c.new-state.result
    c.regions-opened.new.state c.params-bound.new.state (c.new-state.ensures t) c.behind.ensures.walks c.regions-opened.ensures c.params-bound.ensures c.behind-result.ensures.walks c.type_end.ensures.walks
