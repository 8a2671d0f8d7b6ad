-- What follows a part is no longer than the part with it.
use Rattle.std.proofs.Common.{◌≤◌, List, [], ◌∷◌, length, arith}
use Rattle.language.specs.Syntax.{Ident, Ty, Atom, var, num, Right, atom, oper, nil, cons, call, test, region, split, Block, last, bind, print}
use Rattle.draft.specs.Items.{Item, items_type, items_atom, items_each, items_handed, items_right, items_block}

pub longer-type : (t : Ty) (after : List Item) → length after ≤ length (items_type t after)
longer-type Ty.int after = omega arith
longer-type (Ty.list r t) after = let h = longer-type t after in omega arith

pub longer-atom : (a : Atom) (after : List Item) → length after ≤ length (items_atom a after)
longer-atom (var x) after = omega arith
longer-atom (num p z) after = omega arith

longer-atoms : (args : List Atom) (after : List Item) → length after ≤ length (items_each items_atom args after)
longer-atoms [] after = omega arith
longer-atoms (a ∷ args) after = let h = longer-atoms args after in let k = longer-atom a (items_each items_atom args after) in omega arith

longer-handed : (rs : List Ident) (after : List Item) → length after ≤ length (items_each items_handed rs after)
longer-handed [] after = omega arith
longer-handed (r ∷ rs) after = let h = longer-handed rs after in omega arith

mutual
  pub longer_right : (r : Right) (after : List Item) → length after ≤ length (items_right r after)
  longer_right (atom a) after = longer-atom a after
  longer_right (oper p o a b) after = let h = longer-atom b after in let k = longer-atom a (items_atom b after) in omega arith
  longer_right (nil p r t) after = let h = longer-type t after in omega arith
  longer_right (cons p r a b) after = let h = longer-atom b after in let k = longer-atom a (items_atom b after) in omega arith
  longer_right (call p g rs args) after = let h = longer-atoms args after in let k = longer-handed rs (items_each items_atom args after) in omega arith
  longer_right (test p a b c) after = let h = longer_block c after in let k = longer_block b (items_block c after) in let l = longer-atom a (items_block b (items_block c after)) in omega arith
  longer_right (region p r b) after = let h = longer_block b after in omega arith
  longer_right (split p a b x y c) after =
      let h = longer_block c after in
      let k = longer_block b (Item.case_names x y ∷ items_block c after) in
      let l = longer-atom a (items_block b (Item.case_names x y ∷ items_block c after)) in
      omega arith

  pub longer_block : (b : Block) (after : List Item) → length after ≤ length (items_block b after)
  longer_block (last a) after = let h = longer-atom a after in omega arith
  longer_block (bind x r b) after = let h = longer_block b after in let k = longer_right r (items_block b after) in omega arith
  longer_block (print p a b) after = let h = longer_block b after in let k = longer-atom a (items_block b after) in omega arith
