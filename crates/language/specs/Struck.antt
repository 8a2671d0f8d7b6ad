-- The script with its region words struck out, at the places of the text: no `@` with its name, no bracketed list of regions, and of `region a { .. }` its block.
use Rattle.std.specs.Prelude.{ℕ, List, map}
use Rattle.language.specs.Syntax.{Ident, Ty, Atom, Op, Right, Block, Param, Fun, Script}

-- int, or list(T)
pub data BareType : Type 0 where
  int : BareType
  list : BareType → BareType

-- right sides and blocks without region words; a block can stand as a right side
mutual
  pub data BareRight : Type 0 where
    atom : Atom → BareRight
    oper : ℕ → Op → Atom → Atom → BareRight
    nil : ℕ → BareType → BareRight
    cons : ℕ → Atom → Atom → BareRight
    call : ℕ → Ident → List Atom → BareRight
    test : ℕ → Atom → BareBlock → BareBlock → BareRight
    block : BareBlock → BareRight
    split : ℕ → Atom → BareBlock → Ident → Ident → BareBlock → BareRight

  pub data BareBlock : Type 0 where
    last : Atom → BareBlock
    bind : Ident → BareRight → BareBlock → BareBlock
    print : ℕ → Atom → BareBlock → BareBlock

pub record BareParam : Type 0 where
  pub name : Ident
  pub type : BareType

pub record BareFun : Type 0 where
  pub name : Ident
  pub params : List BareParam
  pub result : BareType
  pub body : BareBlock

abbrev pub BareScript : Type 0
BareScript = List BareFun

abbrev pub struck_type : Ty → BareType
struck_type Ty.int = int
struck_type (Ty.list r T) = list (struck_type T)

abbrev mutual
  pub struck_block : Block → BareBlock
  struck_block (Block.last a) = last a
  struck_block (Block.bind x r b) = bind x (struck_right r) (struck_block b)
  struck_block (Block.print p a b) = print p a (struck_block b)

  pub struck_right : Right → BareRight
  struck_right (Right.atom a) = atom a
  struck_right (Right.oper p o a b) = oper p o a b
  struck_right (Right.nil p r T) = nil p (struck_type T)
  struck_right (Right.cons p r a b) = cons p a b
  struck_right (Right.call p f rs xs) = call p f xs
  struck_right (Right.test p a b c) = test p a (struck_block b) (struck_block c)
  struck_right (Right.region p r b) = block (struck_block b)
  struck_right (Right.split p a b h t c) = split p a (struck_block b) h t (struck_block c)

abbrev pub struck_param : Param → BareParam
struck_param q = record { name = q.name; type = struck_type q.type }

abbrev pub struck_fun : Fun → BareFun
struck_fun g = record { name = g.name; params = map struck_param g.params; result = struck_type g.result; body = struck_block g.body }

abbrev pub struck_script : Script → BareScript
struck_script F = map struck_fun F
