-- The table has the class of every byte, by one test computed over all of it.
use Rattle.std.proofs.Common.{rules}
use Rattle.lexing.proofs.Table.{classes}
use Rattle.lexing.proofs.class.Class.of.Goals as goal

pub returns : goal.returns
returns c = search (rules, classes)
