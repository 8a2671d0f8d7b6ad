-- The typing rules hold exactly of the scripts that checking passes: both directions together.
use Rattle.language.specs.TypingLaws.{PassesExactlyTheTyped}
use Rattle.language.proofs.Passing.{passed_is}
use Rattle.language.proofs.WellTyped.{typed-passes}

pub passes_exactly_the_typed : PassesExactlyTheTyped
passes_exactly_the_typed end F G = (passed_is end F G, λ h. rw h.1 (typed-passes end F h.0))
