-- The index among the entries is the index among the names that they stand for.
use Rattle.std.proofs.Common.{sym, ap, ◌∙◌}
use Rattle.draft.specs.Items.{text_of}
use Rattle.scope.specs.Words.{bytes}
use Rattle.program.specs.Compiled.{index}
use Rattle.resolving.proofs.Indices.{index-map}
use Rattle.resolving.proofs.names.Names.region.Goals as goal

pub returns : goal.returns
returns c =
    let text = text_of c.args.self.now.table.now in
    c.index_of.ensures ∙ ap (λ n. index (bytes text) n c.as_slice.result.now) c.bytes_of.ensures ∙ ap (index (bytes text) (bytes text c.args.name)) c.as_slice.ensures.value ∙
    sym (index-map (bytes text) (λ n. n) (bytes text c.args.name) c.args.self.now.state.regions.items)
