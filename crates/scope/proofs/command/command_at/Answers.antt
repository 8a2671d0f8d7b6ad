-- What the row of commands holds at a position, told as items.
use Rattle.draft.specs.Items.{item, text_of}
use Rattle.scope.proofs.Fronts.{at}
use Rattle.scope.proofs.command.command_at.Goals as goal

pub returns : goal.returns
returns c =
    let t = c.args.table.now in
    at (item (text_of t)) t.commands.items c.args.position _ c.item.ensures.value c.item.ensures.fits
