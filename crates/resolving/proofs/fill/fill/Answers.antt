-- What the functions lay down is the script's code, and so sound.
use Rattle.std.proofs.Common.{sym, subst, inr}
use mathlib.Core.Logic.{∥∥₁_map}
use Rattle.program.specs.declared.code.Code.{Code}
use Rattle.program.specs.Held.{Holds, Sound}
use Rattle.resolving.proofs.Filled.{filled}
use Rattle.resolving.proofs.fill.fill.Goals as goal

pub of-requires : goal.of-requires
of-requires c =
    let after = c.functions.new.code in
    let code : Code = record { commands = after.commands; functions = after.functions; main = c.seek_function.result.index } in
    ∥∥₁_map {B = Sound code} c.requires
    (λ p. inr (p.0, p.1, p.3, filled c.args.table.now c.new-code.result after c.seek_function.result.index p.0 p.1 c.functions.ensures.fits c.new-code.ensures.commands c.new-code.ensures.functions c.functions.ensures.walks c.seek_function.ensures.0 p.2 p.3, p.4))

pub returns : goal.returns
returns c end s e k =
    subst (λ (x : Code). Holds x s) (sym c.of.ensures)
    (filled c.args.table.now c.new-code.result c.functions.new.code c.seek_function.result.index end s c.functions.ensures.fits c.new-code.ensures.commands c.new-code.ensures.functions c.functions.ensures.walks c.seek_function.ensures.0 e k)
