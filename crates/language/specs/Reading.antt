-- The answer of reading, for every text: its script, or the first question that fails and its place.
use Rattle.std.specs.Prelude.{ℕ, zero, suc, Bool, true, false, List, [], ◌∷◌, length, ℤ, Some, None, Ok, Err, codes, Option, Result, ◌==◌}
use Rattle.lexing.specs.declared.token.Kind.{Kind}
use Rattle.lexing.specs.declared.token.Kind.TheVariants.{Name, Keyword, Numeral, Mark}
use Rattle.lexing.specs.Tokens.{Lexeme, same_bytes}
use Rattle.lexing.specs.Texts.{tokens_of}
use Rattle.lexing.specs.Numerals.{number_of}
use Rattle.lexing.specs.Numbers.{kind_number, question_number}
use Rattle.language.specs.Syntax.{Ident, Ty, int, list, Atom, var, num, Op, add, sub, mul, div, rem, eq, lt, Right, atom, oper, nil, cons, call, test, region, split, Block, last, bind, print, Param, Fun, Script}
use Rattle.language.specs.Verdict.{Refused}
use Rattle.language.specs.Nesting.{most_blocks, most_lists}

-- a part of the tree with the tokens behind it, or the refusal
abbrev pub Answer : Type 0 → Type 0
Answer A = Result (A × List Lexeme) Refused

-- what is read from the tokens left
abbrev pub Reader : Type 0 → Type 0
Reader A = List Lexeme → Answer A

-- the place of the next token, or the text's length where none is left
abbrev pub here : ℕ → List Lexeme → ℕ
here end [] = end
here end (t ∷ ts) = t.place

abbrev pub rest : List Lexeme → List Lexeme
rest [] = []
rest (t ∷ ts) = ts

-- the question of that number fails at the next token
abbrev pub refuse : {A : Type 0} → ℕ → ℕ → Reader A
refuse end number ts = Err (record { number = number; place = here end ts })

-- what is read behind a part that was read
abbrev pub then : {A B : Type 0} → Answer A → (A → Reader B) → Answer B
then (Ok (x, ts)) next = next x ts
then (Err e) next = Err e

abbrev pub give : {A : Type 0} → A → Reader A
give x ts = Ok (x, ts)

abbrev pub is_kind : Kind → Lexeme → Bool
is_kind k t = kind_number t.kind == kind_number k

-- whether the next token is of a kind and has these bytes
abbrev pub starts : Kind → List ℕ → List Lexeme → Bool
starts k w [] = false
starts k w (t ∷ ts) = elim (is_kind k t) [ true ↦ same_bytes t.bytes w | false ↦ false ]

-- one way behind that word, with its place, and another where it does not stand
abbrev pub on : {A : Type 0} → ℕ → Kind → List ℕ → (ℕ → Reader A) → Reader A → Reader A
on end k w met other ts = elim (starts k w ts) [ true ↦ met (here end ts) (rest ts) | false ↦ other ts ]

-- the keyword or the mark that has to stand there
abbrev pub key_of : ℕ → List ℕ → Reader ℕ
key_of end w = on end Keyword w give (refuse end 6)

abbrev pub mark_of : ℕ → List ℕ → Reader ℕ
mark_of end w = on end Mark w give (refuse end 6)

-- the name that a token is, and the atom
abbrev pub name_in : Lexeme → Option Ident
name_in t = elim (is_kind Name t) [ true ↦ Some (record { place = t.place; name = t.bytes }) | false ↦ None ]

abbrev pub number_in : Lexeme → Option ℤ
number_in t = elim (is_kind Numeral t) [ true ↦ number_of t.bytes | false ↦ None ]

abbrev pub atom_in : Lexeme → Option Atom
atom_in t = elim (name_in t) [ Some x ↦ Some (var x) | None ↦ elim (number_in t) [ Some n ↦ Some (num t.place n) | None ↦ None ] ]

-- the next token, if it is one that is wanted
abbrev pub one : {A : Type 0} → ℕ → (Lexeme → Option A) → Reader A
one end wanted [] = refuse end 6 []
one end wanted (t ∷ ts) = elim (wanted t) [ Some x ↦ Ok (x, ts) | None ↦ refuse end 6 (t ∷ ts) ]

abbrev pub name_of : ℕ → Reader Ident
name_of end = one end name_in

abbrev pub atom_of : ℕ → Reader Atom
atom_of end = one end atom_in

-- an element before others, or as the last with the closing mark behind it
abbrev pub before : {A : Type 0} → A → Reader (List A) → Reader (List A)
before x others ts = then (others ts) λ xs. give (x ∷ xs)

abbrev pub closed : {A : Type 0} → ℕ → List ℕ → A → Reader (List A)
closed end close x ts = then (mark_of end close ts) λ _. give (x ∷ [])

-- one element or more with commas between them, and the closing mark; `room` is no limit where it is above the number of tokens
abbrev pub commas : {A : Type 0} → ℕ → List ℕ → Reader A → ℕ → Reader (List A)
commas end close element zero ts = refuse end 0 ts
commas end close element (suc room) ts = then (element ts) λ x. on end Mark (codes ",") (λ _. before x (commas end close element room)) (closed end close x)

-- the regions in brackets, if any, and the opening parenthesis
abbrev pub bracketed : ℕ → ℕ → Reader (List Ident)
bracketed end room ts = then (commas end (codes "]") (name_of end) room ts) λ rs ts. then (mark_of end (codes "(") ts) λ _. give rs

abbrev pub regions : ℕ → ℕ → Reader (List Ident)
regions end room = on end Mark (codes "[") (λ _. bracketed end room) (λ ts. then (mark_of end (codes "(") ts) λ _. give [])

-- the elements behind an opening parenthesis, if any, and the closing one
abbrev pub elements : {A : Type 0} → ℕ → Reader A → ℕ → Reader (List A)
elements end element room = on end Mark (codes ")") (λ _. give []) (commas end (codes ")") element room)

-- behind `list`, its region and the type inside
abbrev pub list_of : ℕ → Reader Ty → Reader Ty
list_of end type ts =
    then (mark_of end (codes "@") ts) λ _ ts. then (name_of end ts) λ r ts. then (mark_of end (codes "(") ts) λ _ ts.
    then (type ts) λ T ts. then (mark_of end (codes ")") ts) λ _. give (list r T)

-- the block or the list that opens at that place is nested too deep
abbrev pub too_deep : {A : Type 0} → ℕ → Reader A
too_deep p ts = Err (record { number = 7; place = p })

-- a type in which `lists` may be nested
abbrev pub type_of : ℕ → ℕ → Reader Ty
type_of end zero = on end Keyword (codes "int") (λ _. give int) (on end Keyword (codes "list") too_deep (refuse end 6))
type_of end (suc lists) = on end Keyword (codes "int") (λ _. give int) (on end Keyword (codes "list") (λ _. list_of end (type_of end lists)) (refuse end 6))

-- behind the word of an operator, its two atoms
abbrev pub operands : ℕ → Op → ℕ → Reader Right
operands end o p ts = then (atom_of end ts) λ a ts. then (atom_of end ts) λ b. give (oper p o a b)

-- behind `nil`, `cons`, `call`, `if`, `region` and `case` at a place; blocks and types are read as handed over
abbrev pub nil_of : ℕ → Reader Ty → ℕ → Reader Right
nil_of end type p ts =
    then (mark_of end (codes "@") ts) λ _ ts. then (name_of end ts) λ r ts. then (mark_of end (codes "(") ts) λ _ ts.
    then (type ts) λ T ts. then (mark_of end (codes ")") ts) λ _. give (nil p r T)

abbrev pub cons_of : ℕ → ℕ → Reader Right
cons_of end p ts =
    then (mark_of end (codes "@") ts) λ _ ts. then (name_of end ts) λ r ts. then (mark_of end (codes "(") ts) λ _ ts.
    then (atom_of end ts) λ a ts. then (mark_of end (codes ",") ts) λ _ ts. then (atom_of end ts) λ b ts. then (mark_of end (codes ")") ts) λ _. give (cons p r a b)

abbrev pub call_of : ℕ → ℕ → ℕ → Reader Right
call_of end room p ts =
    then (name_of end ts) λ f ts. then (regions end room ts) λ rs ts. then (elements end (atom_of end) room ts) λ args. give (call p f rs args)

abbrev pub if_of : ℕ → Reader Block → ℕ → Reader Right
if_of end block p ts =
    then (atom_of end ts) λ a ts. then (block ts) λ b ts. then (key_of end (codes "else") ts) λ _ ts. then (block ts) λ c. give (test p a b c)

abbrev pub region_of : ℕ → Reader Block → ℕ → Reader Right
region_of end block p ts = then (name_of end ts) λ r ts. then (block ts) λ b. give (region p r b)

abbrev pub case_of : ℕ → Reader Block → ℕ → Reader Right
case_of end block p ts =
    then (atom_of end ts) λ a ts. then (block ts) λ b ts. then (key_of end (codes "else") ts) λ _ ts.
    then (name_of end ts) λ h ts. then (name_of end ts) λ t ts. then (block ts) λ c. give (split p a b h t c)

-- a right side
abbrev pub right_of : ℕ → ℕ → Reader Ty → Reader Block → Reader Right
right_of end room type block =
    on end Keyword (codes "add") (operands end add)
    (on end Keyword (codes "sub") (operands end sub)
    (on end Keyword (codes "mul") (operands end mul)
    (on end Keyword (codes "div") (operands end div)
    (on end Keyword (codes "rem") (operands end rem)
    (on end Keyword (codes "eq") (operands end eq)
    (on end Keyword (codes "lt") (operands end lt)
    (on end Keyword (codes "nil") (nil_of end type)
    (on end Keyword (codes "cons") (cons_of end)
    (on end Keyword (codes "call") (call_of end room)
    (on end Keyword (codes "if") (if_of end block)
    (on end Keyword (codes "region") (region_of end block)
    (on end Keyword (codes "case") (case_of end block)
    (λ ts. then (atom_of end ts) λ a. give (atom a))))))))))))))

-- behind `let` and `print`, with the rest of the block
abbrev pub let_of : ℕ → Reader Right → Reader Block → Reader Block
let_of end right others ts =
    then (name_of end ts) λ x ts. then (mark_of end (codes "=") ts) λ _ ts. then (right ts) λ r ts. then (mark_of end (codes ";") ts) λ _ ts. then (others ts) λ b. give (bind x r b)

abbrev pub print_of : ℕ → Reader Block → ℕ → Reader Block
print_of end others p ts = then (atom_of end ts) λ a ts. then (mark_of end (codes ";") ts) λ _ ts. then (others ts) λ b. give (print p a b)

abbrev pub last_of : ℕ → Reader Block
last_of end ts = then (atom_of end ts) λ a ts. then (mark_of end (codes "}") ts) λ _. give (last a)

-- the items and the last atom behind an opening brace, and the closing one; `room` as above
abbrev pub inside : ℕ → Reader Right → ℕ → Reader Block
inside end right zero ts = refuse end 0 ts
inside end right (suc room) ts =
    on end Keyword (codes "let") (λ _. let_of end right (inside end right room))
    (on end Keyword (codes "print") (print_of end (inside end right room)) (last_of end)) ts

-- a block in which `blocks` may be nested, itself counted
abbrev pub block_of : ℕ → ℕ → ℕ → ℕ → Reader Block
block_of end room lists zero = on end Mark (codes "{") too_deep (refuse end 6)
block_of end room lists (suc blocks) = on end Mark (codes "{") (λ _. inside end (right_of end room (type_of end lists) (block_of end room lists blocks)) room) (refuse end 6)

abbrev pub param_of : ℕ → ℕ → Reader Param
param_of end lists ts = then (name_of end ts) λ x ts. then (mark_of end (codes ":") ts) λ _ ts. then (type_of end lists ts) λ T. give (record { name = x; type = T })

abbrev pub fun_of : ℕ → ℕ → ℕ → ℕ → Reader Fun
fun_of end room lists blocks ts =
    then (key_of end (codes "fun") ts) λ _ ts. then (name_of end ts) λ f ts. then (regions end room ts) λ rs ts.
    then (elements end (param_of end lists) room ts) λ ps ts. then (mark_of end (codes ":") ts) λ _ ts.
    then (type_of end lists ts) λ T ts. then (block_of end room lists blocks ts) λ b. give (record { name = f; regions = rs; params = ps; result = T; body = b })

-- one function or more, up to the end; `room` as above
abbrev pub funs : {A : Type 0} → ℕ → Reader A → ℕ → List Lexeme → Result (List A) Refused
funs end function zero ts = Err (record { number = 0; place = here end ts })
funs end function (suc room) ts = elim (function ts) [
  | Err e ↦ Err e
  | Ok (f, left) ↦ elim left [
    | [] ↦ Ok (f ∷ [])
    | t ∷ more ↦ elim (funs end function room (t ∷ more)) [ Ok fs ↦ Ok (f ∷ fs) | Err e ↦ Err e ]
  ]
]

-- the script of tokens, with limits for lists and blocks
abbrev pub script_of : ℕ → ℕ → ℕ → ℕ → List Lexeme → Result Script Refused
script_of end room lists blocks ts = funs end (fun_of end room lists blocks) room ts

-- the answer of reading a text: questions 1 to 5 of its tokens, then 6 and 7
abbrev pub reading : List ℕ → Result Script Refused
reading s = elim (tokens_of s) [
  | Err e ↦ Err (record { number = question_number e.question; place = e.place })
  | Ok ts ↦ script_of (length s) (suc (length ts)) most_lists most_blocks ts
]
