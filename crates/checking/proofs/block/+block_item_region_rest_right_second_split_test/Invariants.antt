-- The steps fall at each item, and between items the parts go inwards.
use Rattle.std.proofs.Common.{◌+◌, ◌*◌}
use Rattle.checking.proofs.block.+block_item_region_rest_right_second_split_test.Given as goal

abbrev pub decreases-block : goal.decreases-block
decreases-block l = 6 * l.walk.steps + 1

abbrev pub decreases-item : goal.decreases-item
decreases-item l = 6 * l.walk.steps + 5

abbrev pub decreases-region : goal.decreases-region
decreases-region l = 6 * l.walk.steps + 3

abbrev pub decreases-rest : goal.decreases-rest
decreases-rest l = 6 * l.walk.steps + 0

abbrev pub decreases-right : goal.decreases-right
decreases-right l = 6 * l.walk.steps + 4

abbrev pub decreases-second : goal.decreases-second
decreases-second l = 6 * l.walk.steps + 2

abbrev pub decreases-split : goal.decreases-split
decreases-split l = 6 * l.walk.steps + 3

abbrev pub decreases-test : goal.decreases-test
decreases-test l = 6 * l.walk.steps + 3
