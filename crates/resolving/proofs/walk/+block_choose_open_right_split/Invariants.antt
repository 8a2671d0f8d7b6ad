use Rattle.std.proofs.Common.{◌+◌, ◌-◌, ◌*◌}
use Rattle.resolving.proofs.walk.+block_choose_open_right_split.Given as goal

abbrev pub decreases-block : goal.decreases-block
decreases-block l = 2 * (4096 - l.position)

abbrev pub decreases-choose : goal.decreases-choose
decreases-choose l = 2 * (4096 - l.start.position)

abbrev pub decreases-open : goal.decreases-open
decreases-open l = 2 * (4096 - l.start.position)

abbrev pub decreases-split : goal.decreases-split
decreases-split l = 2 * (4096 - l.start.position)

abbrev pub decreases-right : goal.decreases-right
decreases-right l = 2 * (4096 - l.position) + 1
