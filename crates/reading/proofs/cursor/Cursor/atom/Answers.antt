-- The atom that the token is.
use Rattle.std.proofs.Common.{Err, sym, ap, ◌∙◌}
use Rattle.language.specs.Reading.{atom_in}
use Rattle.reading.specs.Cursors.{token_of, refused}
use Rattle.reading.proofs.Steps.{step, one-some, one_none, atom-more}
use Rattle.reading.proofs.cursor.Cursor.atom.Goals as goal

pub returns-in_default : goal.returns-in_default
returns-in_default c = one_none atom_in c.args.self.now c.in_default.ensures ∙ ap (λ f. Err (refused f)) (sym c.refused.ensures)

pub returns : goal.returns
returns c =
    let x = c.args.self.now in
    let a = c.in-Some.ensures in
    let k = atom-more (token_of x) a.tree a.is in
    let s = c.in_ok-advance.ensures in
    (step k s, record { tree = a.tree; reads = one-some atom_in x c.advance.new.self a.tree k s a.is; told = a.told })
