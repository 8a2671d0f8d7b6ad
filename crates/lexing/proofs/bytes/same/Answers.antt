-- The test of slices is the test of the definitions.
use Rattle.std.proofs.Common.{rules}
use Rattle.std.proofs.lemmas.Bool.Decides.{Decides-eqb, same_from_decides}
use Rattle.std.proofs.lemmas.Slice.Eq.{IsBytesEq, compares_Decides, slice_eq-Decides}
use Rattle.lexing.specs.Tokens.{same_bytes}
use Rattle.lexing.proofs.bytes.same.Goals as goal

pub returns : goal.returns
returns c =
    let h : IsBytesEq same_bytes = search rules in
    let d = slice_eq-Decides Decides-eqb c.args.left.now c.args.right.now _ c.eq.ensures in
    let e = compares_Decides same_bytes h c.args.left.now c.args.right.now in
    same_from_decides _ _ d e
