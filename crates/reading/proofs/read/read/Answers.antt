-- The draft holds the script that was read, or the empty one.
use Rattle.std.proofs.Common.{refl, ◌∙◌}
use Rattle.language.specs.Reading.{reading}
use Rattle.language.proofs.Readings.{reads_spelled, refuses_rightly}
use Rattle.reading.proofs.Texts.{holds-some}
use Rattle.reading.proofs.read.read.Goals as goal

pub invariant_of-draft : goal.invariant_of-draft
invariant_of-draft c =
    let text = c.args.text.now in
    let h = holds-some text (reading text) refl in
    record { held = ∣ (h.0, c.refill.ensures.items ∙ h.1, h.2) ∣₁ }

pub returns : goal.returns
returns c = record { answer = c.refill.ensures.answer; items = c.refill.ensures.items; text = c.refill.ensures.text; length = c.refill.ensures.length; spelled = reads_spelled; rightly = refuses_rightly }
