-- Less is left of the text.
use Rattle.std.proofs.Common.{length}
use Rattle.reading.specs.Cursors.{ahead}
use Rattle.reading.proofs.functions.+read_functions.Given as goal

abbrev pub decreases-read_functions : goal.decreases-read_functions
decreases-read_functions l = length (ahead l.cursor.now)
