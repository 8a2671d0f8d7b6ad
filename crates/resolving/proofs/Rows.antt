-- Regions in a row: those that a header declares, those that a call hands over.
use Rattle.std.proofs.Common.{◌≡◌, List, [], ◌∷◌, refl, ap}
use Rattle.language.specs.Syntax.{Ident, Atom, var, num, Block, last, bind, print, Param}
use Rattle.language.specs.Scope.{names}
use Rattle.draft.specs.Items.{Item, an_outcome, items_atom, items_each, items_handed, items_header_region, items_param, items_block}
use Rattle.scope.specs.Words.{row, declared, handed}

pub declared-row : (rs : List Ident) (qs : List Param) (rest : List Item) → row declared (items_each items_header_region rs (items_each items_param qs (an_outcome ∷ rest))) ≡ names rs
declared-row [] [] rest = refl
declared-row [] (q ∷ qs) rest = refl
declared-row (r ∷ rs) qs rest = ap (λ l. r.name ∷ l) (declared-row rs qs rest)

pub handed-row : (rs : List Ident) (args : List Atom) (d : Block) (rest : List Item) → row handed (items_each items_handed rs (items_each items_atom args (items_block d rest))) ≡ names rs
handed-row [] [] (last a) rest = refl
handed-row [] [] (bind x r b) rest = refl
handed-row [] [] (print p a b) rest = refl
handed-row [] (var x ∷ args) d rest = refl
handed-row [] (num p n ∷ args) d rest = refl
handed-row (r ∷ rs) args d rest = ap (λ l. r.name ∷ l) (handed-row rs args d rest)
