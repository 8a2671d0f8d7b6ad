-- A token comes, a refusal comes, or the end.
use Rattle.std.proofs.Common.{◌≡◌, ◌≤◌, ◌∷◌, length, false, Ok, sym, ap, ◌∙◌, arith, rules}
use borrow.Author.Tests.{tests}
use Rattle.lexing.specs.Answers.{lexeme}
use Rattle.lexing.specs.Texts.{at_end}
use Rattle.lexing.specs.Streams.{stream_at}
use Rattle.lexing.proofs.Offsets.{token-held}
use Rattle.lexing.proofs.Walks.{token-rest, not_at_end}
use Rattle.lexing.proofs.Streams.{stream-refused, stream-token}
use Rattle.lexing.proofs.tokens.TokensIterator.next.Goals as goal

pub overflow_sub-self : goal.overflow_sub-self
overflow_sub-self c =
    let e = token-held c.self.inside.offset c.self.inside.rest.now _ c.self.invariant c.in-Ok.ensures in (token-rest _ _ _ _ e).0

pub invariant_of-self : goal.invariant_of-self
invariant_of-self c =
    let s = c.self.inside.rest.now in
    let rest = c.in-Ok.behind.now in
    let i = c.self.invariant in
    let e = token-held c.self.inside.offset s _ i c.in-Ok.ensures in
    let l : length rest ≤ length s = (token-rest _ _ _ _ e).0 in
    omega arith

pub returns-else-eq : goal.returns-else-eq
returns-else-eq c =
    let s = c.self.inside.rest.now in
    let o = c.self.inside.offset in
    let t = lexeme c.in-Ok.token in
    let rest = c.in-Ok.behind.now in
    let e = token-held o s _ c.self.invariant c.in-Ok.ensures in
    let k : at_end t.kind ≡ false = not_at_end t.kind (search (rules, tests)) in
    let n = sym c.self.view_is ∙ stream-token o s t rest e k ∙ ap (λ n. Ok t ∷ stream_at n rest) (token-rest o s t rest e).1 in
    let l = ap length n in
    record { steps = n; goes = record { on = λ f. (tt, tt, omega arith); keeps = tt; rests = λ f. tt } }

pub returns-in-Err-clause-steps : goal.returns-in-Err-clause-steps
returns-in-Err-clause-steps c =
    let s = c.self.inside.rest.now in
    let o = c.self.inside.offset in
    sym c.self.view_is ∙ stream-refused o s _ (token-held o s _ c.self.invariant c.in-Err.ensures)
