-- Which right side, which block begins with an item.
use Rattle.std.proofs.Common.{◌≡◌, ℕ, List, ◌∷◌}
use Rattle.language.specs.Syntax.{Ident, Ty, Atom, var, num, Op, Right, atom, oper, nil, cons, call, test, region, split, Block, last, bind, print}
use Rattle.draft.specs.Items.{Item, a_let, a_print, a_last, an_operation, a_nil, a_cons, a_call, an_if, a_region, a_case, case_names, items_type, items_atom, items_each, items_handed, items_right, items_block}

pub oper-front : (p : ℕ) (o : Op) (xs rest : List Item) (r : Right) → an_operation p o ∷ xs ≡ items_right r rest → (a b : Atom) × (r ≡ oper p o a b) × (xs ≡ items_atom a (items_atom b rest))
oper-front p o xs rest (atom (var y')) e = absurd (cc)
oper-front p o xs rest (atom (num q' n')) e = absurd (cc)
oper-front p o xs rest (oper p' o' a b) e = (a, b, cc, cc)
oper-front p o xs rest r e = absurd (cc)

pub nil-front : (p : ℕ) (x : Ident) (xs rest : List Item) (r : Right) → a_nil p x ∷ xs ≡ items_right r rest → (t : Ty) × (r ≡ nil p x t) × (xs ≡ items_type t rest)
nil-front p x xs rest (atom (var y')) e = absurd (cc)
nil-front p x xs rest (atom (num q' n')) e = absurd (cc)
nil-front p x xs rest (nil p' x' t) e = (t, cc, cc)
nil-front p x xs rest r e = absurd (cc)

pub cons-front : (p : ℕ) (x : Ident) (xs rest : List Item) (r : Right) → a_cons p x ∷ xs ≡ items_right r rest → (a b : Atom) × (r ≡ cons p x a b) × (xs ≡ items_atom a (items_atom b rest))
cons-front p x xs rest (atom (var y')) e = absurd (cc)
cons-front p x xs rest (atom (num q' n')) e = absurd (cc)
cons-front p x xs rest (cons p' x' a b) e = (a, b, cc, cc)
cons-front p x xs rest r e = absurd (cc)

pub call-front : (p : ℕ) (x : Ident) (xs rest : List Item) (r : Right) → a_call p x ∷ xs ≡ items_right r rest → (rs : List Ident) × (args : List Atom) × (r ≡ call p x rs args) × (xs ≡ items_each items_handed rs (items_each items_atom args rest))
call-front p x xs rest (atom (var y')) e = absurd (cc)
call-front p x xs rest (atom (num q' n')) e = absurd (cc)
call-front p x xs rest (call p' x' rs args) e = (rs, args, cc, cc)
call-front p x xs rest r e = absurd (cc)

pub test-front : (p : ℕ) (xs rest : List Item) (r : Right) → an_if p ∷ xs ≡ items_right r rest → (a : Atom) × (b c : Block) × (r ≡ test p a b c) × (xs ≡ items_atom a (items_block b (items_block c rest)))
test-front p xs rest (atom (var y')) e = absurd (cc)
test-front p xs rest (atom (num q' n')) e = absurd (cc)
test-front p xs rest (test p' a b c) e = (a, b, c, cc, cc)
test-front p xs rest r e = absurd (cc)

pub region-front : (p : ℕ) (x : Ident) (xs rest : List Item) (r : Right) → a_region p x ∷ xs ≡ items_right r rest → (b : Block) × (r ≡ region p x b) × (xs ≡ items_block b rest)
region-front p x xs rest (atom (var y')) e = absurd (cc)
region-front p x xs rest (atom (num q' n')) e = absurd (cc)
region-front p x xs rest (region p' x' b) e = (b, cc, cc)
region-front p x xs rest r e = absurd (cc)

pub split-front : (p : ℕ) (xs rest : List Item) (r : Right) → a_case p ∷ xs ≡ items_right r rest → (a : Atom) × (b : Block) × (x y : Ident) × (c : Block) × (r ≡ split p a b x y c) × (xs ≡ items_atom a (items_block b (case_names x y ∷ items_block c rest)))
split-front p xs rest (atom (var y')) e = absurd (cc)
split-front p xs rest (atom (num q' n')) e = absurd (cc)
split-front p xs rest (split p' a b h' t' c) e = (a, b, h', t', c, cc, cc)
split-front p xs rest r e = absurd (cc)

pub let_block : (x : Ident) (xs rest : List Item) (b : Block) → a_let x ∷ xs ≡ items_block b rest → (q : Right) × (d : Block) × (b ≡ bind x q d) × (xs ≡ items_right q (items_block d rest))
let_block x xs rest (bind y q d) e = (q, d, cc, cc)
let_block x xs rest b e = absurd (cc)

pub print-block : (p : ℕ) (xs rest : List Item) (b : Block) → a_print p ∷ xs ≡ items_block b rest → (a : Atom) × (d : Block) × (b ≡ print p a d) × (xs ≡ items_atom a (items_block d rest))
print-block p xs rest (print p' a d) e = (a, d, cc, cc)
print-block p xs rest b e = absurd (cc)

pub last_block : (xs rest : List Item) (b : Block) → a_last ∷ xs ≡ items_block b rest → (a : Atom) × (b ≡ last a) × (xs ≡ items_atom a rest)
last_block xs rest (last a) e = (a, cc, cc)
last_block xs rest b e = absurd (cc)
