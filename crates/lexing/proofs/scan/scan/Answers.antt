-- The law at each way out, and the loop's step.
use Rattle.std.proofs.Common.{◌≡◌, ◌∷◌, Ok, sym, ap, ◌∙◌, arith, rules}
use Rattle.std.proofs.lemmas.Map.Iter.{rest_more}
use Rattle.lexing.specs.Answers.{item, lexeme, count_told, counted}
use Rattle.lexing.specs.Texts.{tokens_of}
use Rattle.lexing.proofs.Counts.{too_long}
use Rattle.lexing.proofs.Streams.{taken-all, taken-more}
use Rattle.lexing.proofs.WholeText.{scanned_law}
use Rattle.lexing.proofs.scan.scan.Goals as goal

pub returns-then-text-gt-LONGEST_TEXT : goal.returns-then-text-gt-LONGEST_TEXT
returns-then-text-gt-LONGEST_TEXT c =
    let r = sym (too_long c.args.text.now (omega arith)) in record { is = r; law = scanned_law c.args.text.now _ r }

pub loop-token-init : goal.loop-token-init
loop-token-init c =
    (tt, tt, omega arith, taken-all c.args.text.now _ (omega arith) (c.into_iter-token-iterator.ensures.into_iter_gives ∙ c.new-token-items.ensures.is))

pub returns-in_err-token-clause-law : goal.returns-in_err-token-clause-law
returns-in_err-token-clause-law c =
    let r : count_told c.from_residual.result ≡ counted (tokens_of c.args.text.now) = search rules in scanned_law _ _ r

pub returns-then-count-eq-MOST_TOKENS-clause-law : goal.returns-then-count-eq-MOST_TOKENS-clause-law
returns-then-count-eq-MOST_TOKENS-clause-law c = scanned_law _ _ (search rules)

pub loop-token-preserved : goal.loop-token-preserved
loop-token-preserved c =
    let k = rest_more item c.loop-token.token-iterator c.next.new.self _ _ c.in-Some.is c.next.ensures.steps in
    let i : item c.in-Some.token ≡ Ok (lexeme c.in_ok-token.token) = search rules in
    (tt, tt, omega arith, taken-more _ c.loop-token.count (lexeme c.in_ok-token.token) _ _ (omega arith) (k ∙ ap (λ x. x ∷ c.next.new.self) i) c.loop-token.invariant.3)

pub returns-clause-law : goal.returns-clause-law
returns-clause-law c = scanned_law _ _ (search rules)
