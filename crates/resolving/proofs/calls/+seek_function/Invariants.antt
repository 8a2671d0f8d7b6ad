use Rattle.std.proofs.Common.{◌-◌}
use Rattle.resolving.proofs.calls.+seek_function.Given as goal

abbrev pub decreases-seek_function : goal.decreases-seek_function
decreases-seek_function l = 4096 - l.position
