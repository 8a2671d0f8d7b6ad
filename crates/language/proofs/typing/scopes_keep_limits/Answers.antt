use Rattle.std.proofs.Common.{refl}
use Rattle.language.proofs.typing.scopes_keep_limits.Goals as goal
use Rattle.language.proofs.Limits.{scopes_keep_limits}

pub returns : goal.returns
returns c = record { is = refl; law = scopes_keep_limits }
