-- Less is left of the text.
use Rattle.std.proofs.Common.{length}
use Rattle.reading.specs.Cursors.{ahead}
use Rattle.reading.proofs.lists.+read_commas.Given as goal

abbrev pub decreases-read_commas : goal.decreases-read_commas
decreases-read_commas g l = length (ahead l.cursor.now)
