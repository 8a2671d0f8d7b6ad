-- As many stand before the first as are counted before it.
use Rattle.std.proofs.Common.{sym, ◌∙◌}
use Rattle.draft.specs.Items.{text_of}
use Rattle.scope.specs.Words.{bytes}
use Rattle.resolving.proofs.Indices.{index-counts}
use Rattle.resolving.proofs.names.index_of.Goals as goal

pub returns : goal.returns
returns g c =
    c.unwrap_or.ensures ∙ c.first.ensures.before ∙ sym (index-counts (λ e. bytes (text_of c.args.table.now) (g.E.Named.key e)) c.args.sought.now c.args.entries.now)
