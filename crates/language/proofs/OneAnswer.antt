-- A resume that is not refused answers by the stop that its run comes to.
use Rattle.std.proofs.Common.{◌≡◌, ℕ, ◌+◌, ◌≤◌, true, leb, sym, ap, arith}
use Rattle.std.proofs.lemmas.Bool.Decides.{nat_tests}
use Rattle.language.specs.PlainSession.{stopped, resumed, resume_call}
use Rattle.language.specs.RunLaws.{OneAnswer}
use Rattle.language.proofs.Turns.{one_stop}
use Rattle.language.proofs.OneStop.{comes}

allowed : (m n : ℕ) → m ≤ n → leb m n ≡ true
allowed m n h = grind (arith, nat_tests)

pub proof : OneAnswer
proof grants units entries s c e r h k =
    let same = one_stop k (comes grants (resumed c units entries)) in
    rw (r, allowed (c.used + units) 4294967295 h, resume_call) (ap (λ d. stopped d c entries s) (sym same))
