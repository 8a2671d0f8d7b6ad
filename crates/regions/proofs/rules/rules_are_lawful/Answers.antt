use Rattle.regions.specs.Lawfuls.{arena_lawful, pages_lawful, quota_lawful}
use Rattle.regions.proofs.rules.rules_are_lawful.Goals as goal

pub returns : goal.returns
returns c = record { arena = arena_lawful; pages = pages_lawful; quota = quota_lawful }
