-- What a draft's commands say: the items of a script, each with its names as the text has them, and the script that they are the items of.
use Rattle.std.specs.Prelude.{ℕ, List, [], ◌∷◌, map, take, drop, ℤ}
use Rattle.language.specs.Syntax.{Ident, Ty, int, list, Atom, var, num, Op, add, sub, mul, div, rem, eq, lt, Right, atom, oper, nil, cons, call, test, region, split, Block, last, bind, print, Param, Fun, Script}
use Rattle.draft.specs.declared.command.Name.{Name}
use Rattle.draft.specs.declared.command.Operator.{Operator}
use Rattle.draft.specs.declared.command.Operator.TheVariants.{Add, Sub, Mul, Div, Rem, Eq, Lt}
use Rattle.draft.specs.declared.command.Command.{Command}
use Rattle.draft.specs.declared.command.Command.TheVariants.{Function, HeaderRegion, Parameter, Outcome, Int, List as ListCommand, Let, Print, Last, Variable, Number, Operate, Nil, Cons, Call, Handed, If, Region, Case, CaseNames}
use Rattle.draft.specs.declared.table.Table.{Table}

-- the items that a script is told in, each before what belongs to it
pub data Item : Type 0 where
  a_function : Ident → Item
  a_header_region : Ident → Item
  a_parameter : Ident → Item
  an_outcome : Item
  an_int : Item
  a_list : Ident → Item
  a_let : Ident → Item
  a_print : ℕ → Item
  a_last : Item
  a_variable : Ident → Item
  a_number : ℕ → ℤ → Item
  an_operation : ℕ → Op → Item
  a_nil : ℕ → Ident → Item
  a_cons : ℕ → Ident → Item
  a_call : ℕ → Ident → Item
  a_handed : Ident → Item
  an_if : ℕ → Item
  a_region : ℕ → Ident → Item
  a_case : ℕ → Item
  case_names : Ident → Ident → Item

-- the name with its bytes, as they stand in a text
abbrev pub ident : List ℕ → Name → Ident
ident text n = record { place = n.place; name = take n.length (drop n.place text) }

abbrev pub operator : Operator → Op
operator Add = add
operator Sub = sub
operator Mul = mul
operator Div = div
operator Rem = rem
operator Eq = eq
operator Lt = lt

-- what a command says of a text
abbrev pub item : List ℕ → Command → Item
item text (Function n) = a_function (ident text n)
item text (HeaderRegion n) = a_header_region (ident text n)
item text (Parameter n) = a_parameter (ident text n)
item text Outcome = an_outcome
item text Int = an_int
item text (ListCommand n) = a_list (ident text n)
item text (Let n) = a_let (ident text n)
item text (Print p) = a_print p
item text Last = a_last
item text (Variable n) = a_variable (ident text n)
item text (Number p n) = a_number p n
item text (Operate p o) = an_operation p (operator o)
item text (Nil p n) = a_nil p (ident text n)
item text (Cons p n) = a_cons p (ident text n)
item text (Call p n) = a_call p (ident text n)
item text (Handed n) = a_handed (ident text n)
item text (If p) = an_if p
item text (Region p n) = a_region p (ident text n)
item text (Case p) = a_case p
item text (CaseNames n m) = case_names (ident text n) (ident text m)

-- the text that a table keeps
abbrev pub text_of : Table → List ℕ
text_of t = t.text.items

-- what a table's commands say
abbrev pub items : Table → List Item
items t = map (item (text_of t)) t.commands.items

-- the items of each part of a script are told with the items that follow them

abbrev pub items_type : Ty → List Item → List Item
items_type int after = an_int ∷ after
items_type (list r T) after = a_list r ∷ items_type T after

abbrev pub items_atom : Atom → List Item → List Item
items_atom (var x) after = a_variable x ∷ after
items_atom (num p n) after = a_number p n ∷ after

-- the items of several parts, one after the other
abbrev pub items_each : {A : Type 0} → (A → List Item → List Item) → List A → List Item → List Item
items_each one [] after = after
items_each one (x ∷ xs) after = one x (items_each one xs after)

abbrev pub items_handed : Ident → List Item → List Item
items_handed r after = a_handed r ∷ after

abbrev pub items_header_region : Ident → List Item → List Item
items_header_region r after = a_header_region r ∷ after

abbrev mutual
  pub items_right : Right → List Item → List Item
  items_right (atom a) after = items_atom a after
  items_right (oper p o a b) after = an_operation p o ∷ items_atom a (items_atom b after)
  items_right (nil p r T) after = a_nil p r ∷ items_type T after
  items_right (cons p r a b) after = a_cons p r ∷ items_atom a (items_atom b after)
  items_right (call p f rs args) after = a_call p f ∷ items_each items_handed rs (items_each items_atom args after)
  items_right (test p a b c) after = an_if p ∷ items_atom a (items_block b (items_block c after))
  items_right (region p r b) after = a_region p r ∷ items_block b after
  items_right (split p a b h t c) after = a_case p ∷ items_atom a (items_block b (case_names h t ∷ items_block c after))

  pub items_block : Block → List Item → List Item
  items_block (last a) after = a_last ∷ items_atom a after
  items_block (bind x r b) after = a_let x ∷ items_right r (items_block b after)
  items_block (print p a b) after = a_print p ∷ items_atom a (items_block b after)

abbrev pub items_param : Param → List Item → List Item
items_param p after = a_parameter p.name ∷ items_type p.type after

abbrev pub items_fun : Fun → List Item → List Item
items_fun f after = a_function f.name ∷ items_each items_header_region f.regions (items_each items_param f.params (an_outcome ∷ items_type f.result (items_block f.body after)))

-- the items of a whole script
abbrev pub items_of : Script → List Item
items_of s = items_each items_fun s []
