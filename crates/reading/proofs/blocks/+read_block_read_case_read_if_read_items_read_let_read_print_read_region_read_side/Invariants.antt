-- Less is left of the text, and a right side goes before the form that its word names.
use Rattle.std.proofs.Common.{◌+◌, ◌*◌, length}
use Rattle.reading.specs.Cursors.{ahead}
use Rattle.reading.proofs.blocks.+read_block_read_case_read_if_read_items_read_let_read_print_read_region_read_side.Given as goal

abbrev pub decreases-read_block : goal.decreases-read_block
decreases-read_block l = 2 * length (ahead l.cursor.now)

abbrev pub decreases-read_case : goal.decreases-read_case
decreases-read_case l = 2 * length (ahead l.cursor.now)

abbrev pub decreases-read_if : goal.decreases-read_if
decreases-read_if l = 2 * length (ahead l.cursor.now)

abbrev pub decreases-read_items : goal.decreases-read_items
decreases-read_items l = 2 * length (ahead l.cursor.now) + 1

abbrev pub decreases-read_let : goal.decreases-read_let
decreases-read_let l = 2 * length (ahead l.cursor.now)

abbrev pub decreases-read_print : goal.decreases-read_print
decreases-read_print l = 2 * length (ahead l.cursor.now)

abbrev pub decreases-read_region : goal.decreases-read_region
decreases-read_region l = 2 * length (ahead l.cursor.now)

abbrev pub decreases-read_side : goal.decreases-read_side
decreases-read_side l = 2 * length (ahead l.cursor.now) + 1
