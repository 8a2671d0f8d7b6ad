-- The table that was filled, or the empty one.
use Rattle.std.proofs.Common.{Ok, sym, ap, ◌∙◌, rules}
use Rattle.reading.specs.Answers.{answered, held_then}
use Rattle.reading.proofs.read.refill.Goals as goal

pub returns-in-Ok : goal.returns-in-Ok
returns-in-Ok c =
    let f = c.in-Ok.ensures in
    record { answer = ap Ok f.told ∙ sym (ap answered f.reads); items = f.told ∙ sym (ap held_then f.reads); text = f.text; length = f.long }

pub returns-in-Err : goal.returns-in-Err
returns-in-Err c =
    let e = c.in-Err.ensures in
    let h = sym (ap held_then e) in
    record { answer = sym (ap answered e); items = search rules; text = search rules; length = search rules }
