-- Names in a row: the words of a type, the regions that a header declares, the regions that a call hands over.
use Rattle.std.specs.Prelude.{ℕ, ◌-◌, List, [], ◌∷◌, drop, Some, None, Option}
use Rattle.draft.specs.declared.command.Name.{Name}
use Rattle.language.specs.Types.{RegionType, int, list, replaced}
use Rattle.scope.specs.declared.types.Sort.{Sort}
use Rattle.scope.specs.declared.types.Sort.TheVariants.{Int, Written, Called}
use Rattle.draft.specs.Items.{Item, a_function, a_header_region, a_parameter, an_outcome, an_int, a_list, a_let, a_print, a_last, a_variable, a_number, an_operation, a_nil, a_cons, a_call, a_handed, an_if, a_region, a_case, case_names, ident}

-- a name's bytes, as they stand in a text
abbrev pub bytes : List ℕ → Name → List ℕ
bytes text n = (ident text n).name

-- what stands at the front in a row
abbrev pub row : {A : Type 0} → (Item → Option A) → List Item → List A
row view [] = []
row view (i ∷ is) = elim (view i) [ Some a ↦ a ∷ row view is | None ↦ [] ]

-- the region of a type's word: of `list@r`, and of `nil@r`, which writes the type list@r(..)
abbrev pub word : Item → Option (List ℕ)
word (a_function p) = None
word (a_header_region p) = None
word (a_parameter p) = None
word an_outcome = None
word an_int = None
word (a_list r) = Some r.name
word (a_let p) = None
word (a_print p) = None
word a_last = None
word (a_variable p) = None
word (a_number p q) = None
word (an_operation p q) = None
word (a_nil p r) = Some r.name
word (a_cons p q) = None
word (a_call p q) = None
word (a_handed p) = None
word (an_if p) = None
word (a_region p q) = None
word (a_case p) = None
word (case_names p q) = None

-- the region that a header declares
abbrev pub declared : Item → Option (List ℕ)
declared (a_function p) = None
declared (a_header_region r) = Some r.name
declared (a_parameter p) = None
declared an_outcome = None
declared an_int = None
declared (a_list p) = None
declared (a_let p) = None
declared (a_print p) = None
declared a_last = None
declared (a_variable p) = None
declared (a_number p q) = None
declared (an_operation p q) = None
declared (a_nil p q) = None
declared (a_cons p q) = None
declared (a_call p q) = None
declared (a_handed p) = None
declared (an_if p) = None
declared (a_region p q) = None
declared (a_case p) = None
declared (case_names p q) = None

-- the region that a call hands over
abbrev pub handed : Item → Option (List ℕ)
handed (a_function p) = None
handed (a_header_region p) = None
handed (a_parameter p) = None
handed an_outcome = None
handed an_int = None
handed (a_list p) = None
handed (a_let p) = None
handed (a_print p) = None
handed a_last = None
handed (a_variable p) = None
handed (a_number p q) = None
handed (an_operation p q) = None
handed (a_nil p q) = None
handed (a_cons p q) = None
handed (a_call p q) = None
handed (a_handed r) = Some r.name
handed (an_if p) = None
handed (a_region p q) = None
handed (a_case p) = None
handed (case_names p q) = None

-- the type that words in a row write
abbrev pub of_words : List (List ℕ) → RegionType
of_words [] = int
of_words (r ∷ rs) = list r (of_words rs)

-- the type that is written at the front of items
abbrev pub type_at : List Item → RegionType
type_at is = of_words (row word is)

-- the type that a value of the checker stands for, over the items of its table
abbrev pub type_of : List Item → Sort → RegionType
type_of is Int = int
type_of is (Written p) = type_at (drop p is)
type_of is (Called p d h) = replaced (row declared (drop d is)) (row handed (drop h is)) (type_at (drop p is))

-- how many more words it can have
abbrev pub left : Sort → ℕ
left Int = 0
left (Written p) = 4096 - p
left (Called p d h) = 4096 - p
