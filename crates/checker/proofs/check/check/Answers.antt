-- The verdict, and the program of a script that has passed.
use Rattle.std.proofs.Common.{◌≡◌, ℕ, length, Ok}
use mathlib.Core.Logic.{∥∥₁_map}
use Rattle.std.proofs.lemmas.Result.{err_from_is_err_and}
use Rattle.language.specs.Syntax.{Script}
use Rattle.language.specs.Checking.{checking}
use Rattle.language.proofs.Exactly.{passes_exactly_the_typed}
use Rattle.draft.specs.Origin.{WasRead}
use Rattle.draft.specs.Items.{items, items_of, text_of}
use Rattle.checker.proofs.Verdicts.{passes, carried-up, no-success, kept}
use Rattle.checker.proofs.check.check.Goals as goal

pub fill-requires : goal.fill-requires
fill-requires c =
    let t = c.args.draft.table in
    let end = length (text_of t) in
    ∥∥₁_map {B = (end : ℕ) × (s : Script) × (items t ≡ items_of s) × (checking end s ≡ Ok s) × WasRead s} c.args.draft.held
    (λ p. (end, p.0, p.1, passes end p.0 (c.in_ok-verify.ensures p.0 p.1), p.2))

pub returns-in_err-verify : goal.returns-in_err-verify
returns-in_err-verify c =
    let p = err_from_is_err_and c.from_residual.result c.from_residual.ensures.1 in
    record {
      answer = carried-up c.args.draft.table c.from_residual.result _ _ p.1 p.2 c.in_err-verify.ensures;
      holds = λ s e k. no-success c.from_residual.result _ p.1 k;
      keeps = kept c.from_residual.result _;
      law = passes_exactly_the_typed;
    }

pub returns : goal.returns
returns c = record {
  answer = c.in_ok-verify.ensures;
  holds = λ s e k. let end = length (text_of c.args.draft.table) in c.fill.ensures end s e (passes end s (c.in_ok-verify.ensures s e));
  keeps = tt;
  law = passes_exactly_the_typed;
}
