-- No word stands at the end; before it the kind is told first, and then the bytes.
use Rattle.std.proofs.Common.{◌≡◌, rules, tests, sym, ap, ◌∙◌}
use Rattle.lexing.specs.Numbers.{kind_number}
use Rattle.reading.proofs.Steps.{starts-end, one_kind, stands-met, stands-not}
use Rattle.reading.proofs.cursor.Cursor.stands.Goals as goal

pub returns-then-at_end : goal.returns-then-at_end
returns-then-at_end c = sym (starts-end c.args.kind c.args.word.now c.args.self.now (sym c.at_end.ensures ∙ c.if-at_end.true))

pub returns-then-eq : goal.returns-then-eq
returns-then-eq c =
    let e : c.args.self.now.kind ≡ c.args.kind = search (rules, tests) in
    stands-met c.args.kind c.args.word.now c.args.self.now _ (sym c.at_end.ensures ∙ c.if-at_end.false) (ap kind_number e) c.same.ensures

pub returns-else-eq : goal.returns-else-eq
returns-else-eq c =
    let h : c.args.self.now.kind ≡ c.args.kind → ⊥ = search (rules, tests) in
    c.if-eq.false ∙ stands-not c.args.kind c.args.word.now c.args.self.now (sym c.at_end.ensures ∙ c.if-at_end.false) (λ e. h (one_kind _ _ e))
