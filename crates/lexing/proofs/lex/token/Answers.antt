-- A whole text stands at offset 0, and its length fits 64 bits.
use Rattle.std.proofs.Common.{◌∙◌, arith}
use Rattle.lexing.proofs.FirstToken.{first-law}
use Rattle.lexing.proofs.Offsets.{shifted-is}
use Rattle.lexing.proofs.lex.token.Goals as goal

pub returns : goal.returns
returns c =
    let s = c.args.text.now in
    let e = c.token_at.ensures ∙ shifted-is 0 s (omega arith) in record { is = e; law = first-law 0 s _ e }
