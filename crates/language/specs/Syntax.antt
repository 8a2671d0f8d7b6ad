-- The script as a tree: names and numbers as the text has them, with the places that refusals and endings speak of.
use Rattle.std.specs.Prelude.{ℕ, List, ℤ}

-- a name where it stands in the text
pub record Ident : Type 0 where
  pub place : ℕ
  pub name : List ℕ

-- int, or list@r(T)
pub data Ty : Type 0 where
  int : Ty
  list : Ident → Ty → Ty

-- a variable, or a numeral at its place
pub data Atom : Type 0 where
  var : Ident → Atom
  num : ℕ → ℤ → Atom

pub data Op : Type 0 where
  add : Op
  sub : Op
  mul : Op
  div : Op
  rem : Op
  eq : Op
  lt : Op

-- right sides, each with the place of its first word, and blocks: the items in order and the last atom
mutual
  pub data Right : Type 0 where
    atom : Atom → Right
    oper : ℕ → Op → Atom → Atom → Right
    nil : ℕ → Ident → Ty → Right
    cons : ℕ → Ident → Atom → Atom → Right
    call : ℕ → Ident → List Ident → List Atom → Right
    test : ℕ → Atom → Block → Block → Right
    region : ℕ → Ident → Block → Right
    split : ℕ → Atom → Block → Ident → Ident → Block → Right

  pub data Block : Type 0 where
    last : Atom → Block
    bind : Ident → Right → Block → Block
    print : ℕ → Atom → Block → Block

-- a parameter: its name and its type
pub record Param : Type 0 where
  pub name : Ident
  pub type : Ty

-- a function: its name, its regions, its parameters, its result type and its block
pub record Fun : Type 0 where
  pub name : Ident
  pub regions : List Ident
  pub params : List Param
  pub result : Ty
  pub body : Block

-- a script: its functions in the order of the text
abbrev pub Script : Type 0
Script = List Fun
