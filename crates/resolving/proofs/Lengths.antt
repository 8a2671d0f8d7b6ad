-- A part has at least as many items as commands.
use Rattle.std.proofs.Common.{◌≡◌, ◌+◌, ◌≤◌, List, [], ◌∷◌, length, arith}
use Rattle.language.specs.Syntax.{Ident, Ty, int, list, Atom, var, num, Right, atom, oper, nil, cons, call, test, region, split, Block, last, bind, print, Param, Fun}
use Rattle.draft.specs.Items.{Item, an_outcome, case_names, items_type, items_atom, items_each, items_handed, items_header_region, items_right, items_block, items_param, items_fun}
use Rattle.program.proofs.Sizes.{bodies-size}
use Rattle.program.specs.Compiled.{right_size, block_size}

type-length : (T : Ty) (rest : List Item) → length rest ≤ length (items_type T rest)
type-length int rest = omega arith
type-length (list r T) rest = omega (arith, type-length T rest)

atom-length : (a : Atom) (rest : List Item) → length (items_atom a rest) ≡ 1 + length rest
atom-length (var x) rest = omega arith
atom-length (num p n) rest = omega arith

handed-length : (rs : List Ident) (rest : List Item) → length (items_each items_handed rs rest) ≡ length rs + length rest
handed-length [] rest = omega arith
handed-length (r ∷ rs) rest = omega (arith, handed-length rs rest)

atoms_length : (args : List Atom) (rest : List Item) → length (items_each items_atom args rest) ≡ length args + length rest
atoms_length [] rest = omega arith
atoms_length (a ∷ args) rest = omega (arith, atom-length a (items_each items_atom args rest), atoms_length args rest)

mutual
  right_items : (r : Right) (rest : List Item) → right_size r + length rest ≤ length (items_right r rest)
  right_items (atom a) rest = omega (arith, atom-length a rest)
  right_items (oper p o a b) rest = omega (arith, atom-length a (items_atom b rest), atom-length b rest)
  right_items (nil p r T) rest = omega (arith, type-length T rest)
  right_items (cons p r a b) rest = omega (arith, atom-length a (items_atom b rest), atom-length b rest)
  right_items (call p f rs args) rest = omega (arith, handed-length rs (items_each items_atom args rest), atoms_length args rest)
  right_items (test p a b c) rest = omega (arith, atom-length a (items_block b (items_block c rest)), block_items b (items_block c rest), block_items c rest)
  right_items (region p r b) rest = omega (arith, block_items b rest)
  right_items (split p a b x y c) rest =
      omega (arith, atom-length a (items_block b (case_names x y ∷ items_block c rest)), block_items b (case_names x y ∷ items_block c rest), block_items c rest)

  pub block_items : (b : Block) (rest : List Item) → block_size b + length rest ≤ length (items_block b rest)
  block_items (last a) rest = omega (arith, atom-length a rest)
  block_items (bind x r b) rest = omega (arith, right_items r (items_block b rest), block_items b rest)
  block_items (print p a b) rest = omega (arith, atom-length a (items_block b rest), block_items b rest)

regions-length : (rs : List Ident) (rest : List Item) → length rest ≤ length (items_each items_header_region rs rest)
regions-length [] rest = omega arith
regions-length (r ∷ rs) rest = omega (arith, regions-length rs rest)

params-length : (qs : List Param) (rest : List Item) → length rest ≤ length (items_each items_param qs rest)
params-length [] rest = omega arith
params-length (q ∷ qs) rest = omega (arith, type-length q.type (items_each items_param qs rest), params-length qs rest)

pub fun_items : (f : Fun) (rest : List Item) → 1 + (block_size f.body + length rest) ≤ length (items_fun f rest)
fun_items f rest =
    let body = items_block f.body rest in
    let result = an_outcome ∷ items_type f.result body in
    omega (arith, regions-length f.regions (items_each items_param f.params result), params-length f.params result, type-length f.result body, block_items f.body rest)

pub funs-items : (fs : List Fun) → bodies-size fs ≤ length (items_each items_fun fs [])
funs-items [] = omega arith
funs-items (f ∷ fs) = omega (arith, fun_items f (items_each items_fun fs []), funs-items fs)
