-- A name, or a numeral with its number.
use Rattle.std.proofs.Common.{◌∷◌, refl, ap}
use Rattle.language.specs.Syntax.{var}
use Rattle.draft.specs.Items.{a_variable}
use Rattle.reading.specs.Cursors.{token_of}
use Rattle.reading.proofs.Steps.{named, atom-by_is}
use Rattle.reading.proofs.cursor.Cursor.as_atom.Goals as goal

pub returns-in-Name : goal.returns-in-Name
returns-in-Name c =
    let t = token_of c.args.self.now in
    record {
      tree = var (record { place = t.place; name = t.bytes });
      is = atom-by_is t _ _ (named t c.in-Name.is) refl;
      told = λ after. ap (λ x. a_variable x ∷ after) c.as_name.ensures;
    }
