-- Checking told over items: the questions of a script's parts, in their order, put to the items that tell the parts.
use Rattle.std.specs.Prelude.{ℕ, zero, suc, Bool, false, not, ◌&&◌, List, [], ◌∷◌, ◌++◌, length, drop, is_some, Some, None, Ok, Err, codes, Option, Result, ◌==◌, nat_le, nat_lt}
use Rattle.language.specs.Verdict.{Refused}
use Rattle.language.specs.Syntax.{Ident, var}
use Rattle.language.specs.Types.{Name, RegionType, int, list, same_type, mentions, depth, replaced}
use Rattle.language.specs.Scope.{Scope, find, with_variable, with_region, empty_scope}
use Rattle.language.specs.Checking.{◌>>=◌, ◌>>◌, ask, found, new_region, new_variable, type_atom, element}
use Rattle.draft.specs.Items.{Item, a_function, a_header_region, a_parameter, an_outcome, an_int, a_list, a_let, a_print, a_last, a_variable, a_number, an_operation, a_nil, a_cons, a_call, a_handed, an_if, a_region, a_case, case_names}
use Rattle.scope.specs.Words.{row, declared, handed, type_at}
use Rattle.scope.specs.Verdicts.{known}

-- the answer for items that tell no such part: no script has them
abbrev pub misplaced : {A : Type 0} → Result A Refused
misplaced = Err (record { number = 6; place = 0 })

-- a type, the place of the last atom, and the items behind
abbrev pub Answer : Type 0
Answer = RegionType × ℕ × List Item

-- a function's name, and the items of its header and what follows
abbrev pub Functions : Type 0
Functions = List (Ident × List Item)

-- an atom
abbrev pub atom_item : Scope → List Item → Item → Result Answer Refused
atom_item Γ is (a_function p) = misplaced
atom_item Γ is (a_header_region p) = misplaced
atom_item Γ is (a_parameter p) = misplaced
atom_item Γ is an_outcome = misplaced
atom_item Γ is an_int = misplaced
atom_item Γ is (a_list p) = misplaced
atom_item Γ is (a_let p) = misplaced
atom_item Γ is (a_print p) = misplaced
atom_item Γ is a_last = misplaced
atom_item Γ is (a_variable x) = type_atom Γ (var x) >>= (λ T. Ok (T, x.place, is))
atom_item Γ is (a_number p z) = Ok (int, p, is)
atom_item Γ is (an_operation p q) = misplaced
atom_item Γ is (a_nil p q) = misplaced
atom_item Γ is (a_cons p q) = misplaced
atom_item Γ is (a_call p q) = misplaced
atom_item Γ is (a_handed p) = misplaced
atom_item Γ is (an_if p) = misplaced
atom_item Γ is (a_region p q) = misplaced
atom_item Γ is (a_case p) = misplaced
atom_item Γ is (case_names p q) = misplaced

abbrev pub walk_atom : Scope → List Item → Result Answer Refused
walk_atom Γ [] = misplaced
walk_atom Γ (i ∷ is) = atom_item Γ is i

-- an answer of a type that it needs
abbrev pub needed : Answer → RegionType → Result (List Item) Refused
needed a T = ask (same_type a.0 T) 13 a.1 >> Ok a.2

-- an atom of a type that it needs
abbrev pub walk_need : Scope → RegionType → List Item → Result (List Item) Refused
walk_need Γ T is = walk_atom Γ is >>= (λ a. needed a T)

-- a written type, its regions known
abbrev pub walk_type : Scope → List Item → Result (List Item) Refused
walk_type Γ [] = misplaced
walk_type Γ ((a_function p) ∷ is) = misplaced
walk_type Γ ((a_header_region p) ∷ is) = misplaced
walk_type Γ ((a_parameter p) ∷ is) = misplaced
walk_type Γ (an_outcome ∷ is) = misplaced
walk_type Γ (an_int ∷ is) = Ok is
walk_type Γ ((a_list r) ∷ is) = known Γ r >> walk_type Γ is
walk_type Γ ((a_let p) ∷ is) = misplaced
walk_type Γ ((a_print p) ∷ is) = misplaced
walk_type Γ (a_last ∷ is) = misplaced
walk_type Γ ((a_variable p) ∷ is) = misplaced
walk_type Γ ((a_number p q) ∷ is) = misplaced
walk_type Γ ((an_operation p q) ∷ is) = misplaced
walk_type Γ ((a_nil p q) ∷ is) = misplaced
walk_type Γ ((a_cons p q) ∷ is) = misplaced
walk_type Γ ((a_call p q) ∷ is) = misplaced
walk_type Γ ((a_handed p) ∷ is) = misplaced
walk_type Γ ((an_if p) ∷ is) = misplaced
walk_type Γ ((a_region p q) ∷ is) = misplaced
walk_type Γ ((a_case p) ∷ is) = misplaced
walk_type Γ ((case_names p q) ∷ is) = misplaced

-- the two names of a case
abbrev pub walk_names : List Item → Result (Ident × Ident × List Item) Refused
walk_names [] = misplaced
walk_names ((a_function p) ∷ is) = misplaced
walk_names ((a_header_region p) ∷ is) = misplaced
walk_names ((a_parameter p) ∷ is) = misplaced
walk_names (an_outcome ∷ is) = misplaced
walk_names (an_int ∷ is) = misplaced
walk_names ((a_list p) ∷ is) = misplaced
walk_names ((a_let p) ∷ is) = misplaced
walk_names ((a_print p) ∷ is) = misplaced
walk_names (a_last ∷ is) = misplaced
walk_names ((a_variable p) ∷ is) = misplaced
walk_names ((a_number p q) ∷ is) = misplaced
walk_names ((an_operation p q) ∷ is) = misplaced
walk_names ((a_nil p q) ∷ is) = misplaced
walk_names ((a_cons p q) ∷ is) = misplaced
walk_names ((a_call p q) ∷ is) = misplaced
walk_names ((a_handed p) ∷ is) = misplaced
walk_names ((an_if p) ∷ is) = misplaced
walk_names ((a_region p q) ∷ is) = misplaced
walk_names ((a_case p) ∷ is) = misplaced
walk_names ((case_names x y) ∷ is) = Ok (x, y, is)

-- the types of a header's parameters, each with the items behind it
abbrev pub parameters : List Item → List (List Item)
parameters [] = []
parameters ((a_function p) ∷ is) = []
parameters ((a_header_region r) ∷ is) = parameters is
parameters ((a_parameter x) ∷ is) = is ∷ parameters is
parameters (an_outcome ∷ is) = []
parameters (an_int ∷ is) = parameters is
parameters ((a_list r) ∷ is) = parameters is
parameters ((a_let p) ∷ is) = []
parameters ((a_print p) ∷ is) = []
parameters (a_last ∷ is) = []
parameters ((a_variable p) ∷ is) = []
parameters ((a_number p q) ∷ is) = []
parameters ((an_operation p q) ∷ is) = []
parameters ((a_nil p q) ∷ is) = []
parameters ((a_cons p q) ∷ is) = []
parameters ((a_call p q) ∷ is) = []
parameters ((a_handed p) ∷ is) = []
parameters ((an_if p) ∷ is) = []
parameters ((a_region p q) ∷ is) = []
parameters ((a_case p) ∷ is) = []
parameters ((case_names p q) ∷ is) = []

-- the items of a header's result type
abbrev pub outcome : List Item → Option (List Item)
outcome [] = None
outcome ((a_function p) ∷ is) = None
outcome ((a_header_region r) ∷ is) = outcome is
outcome ((a_parameter x) ∷ is) = outcome is
outcome (an_outcome ∷ is) = Some is
outcome (an_int ∷ is) = outcome is
outcome ((a_list r) ∷ is) = outcome is
outcome ((a_let p) ∷ is) = None
outcome ((a_print p) ∷ is) = None
outcome (a_last ∷ is) = None
outcome ((a_variable p) ∷ is) = None
outcome ((a_number p q) ∷ is) = None
outcome ((an_operation p q) ∷ is) = None
outcome ((a_nil p q) ∷ is) = None
outcome ((a_cons p q) ∷ is) = None
outcome ((a_call p q) ∷ is) = None
outcome ((a_handed p) ∷ is) = None
outcome ((an_if p) ∷ is) = None
outcome ((a_region p q) ∷ is) = None
outcome ((a_case p) ∷ is) = None
outcome ((case_names p q) ∷ is) = None

-- the type that a header gives its result
abbrev pub result_type : List Item → RegionType
result_type is = elim (outcome is) [ Some more ↦ type_at more | None ↦ int ]

-- the regions that a call hands over are known
abbrev pub walk_handed : Scope → List Item → Result (List Item) Refused
walk_handed Γ [] = Ok []
walk_handed Γ ((a_function p) ∷ is) = Ok ((a_function p) ∷ is)
walk_handed Γ ((a_header_region p) ∷ is) = Ok ((a_header_region p) ∷ is)
walk_handed Γ ((a_parameter p) ∷ is) = Ok ((a_parameter p) ∷ is)
walk_handed Γ (an_outcome ∷ is) = Ok (an_outcome ∷ is)
walk_handed Γ (an_int ∷ is) = Ok (an_int ∷ is)
walk_handed Γ ((a_list p) ∷ is) = Ok ((a_list p) ∷ is)
walk_handed Γ ((a_let p) ∷ is) = Ok ((a_let p) ∷ is)
walk_handed Γ ((a_print p) ∷ is) = Ok ((a_print p) ∷ is)
walk_handed Γ (a_last ∷ is) = Ok (a_last ∷ is)
walk_handed Γ ((a_variable p) ∷ is) = Ok ((a_variable p) ∷ is)
walk_handed Γ ((a_number p q) ∷ is) = Ok ((a_number p q) ∷ is)
walk_handed Γ ((an_operation p q) ∷ is) = Ok ((an_operation p q) ∷ is)
walk_handed Γ ((a_nil p q) ∷ is) = Ok ((a_nil p q) ∷ is)
walk_handed Γ ((a_cons p q) ∷ is) = Ok ((a_cons p q) ∷ is)
walk_handed Γ ((a_call p q) ∷ is) = Ok ((a_call p q) ∷ is)
walk_handed Γ (a_handed r ∷ is) = known Γ r >> walk_handed Γ is
walk_handed Γ ((an_if p) ∷ is) = Ok ((an_if p) ∷ is)
walk_handed Γ ((a_region p q) ∷ is) = Ok ((a_region p q) ∷ is)
walk_handed Γ ((a_case p) ∷ is) = Ok ((a_case p) ∷ is)
walk_handed Γ ((case_names p q) ∷ is) = Ok ((case_names p q) ∷ is)

-- an atom that a call hands over
abbrev pub argument : Item → Option (Unit {0})
argument (a_function p) = None
argument (a_header_region p) = None
argument (a_parameter p) = None
argument an_outcome = None
argument an_int = None
argument (a_list p) = None
argument (a_let p) = None
argument (a_print p) = None
argument a_last = None
argument (a_variable x) = Some tt
argument (a_number p z) = Some tt
argument (an_operation p q) = None
argument (a_nil p q) = None
argument (a_cons p q) = None
argument (a_call p q) = None
argument (a_handed p) = None
argument (an_if p) = None
argument (a_region p q) = None
argument (a_case p) = None
argument (case_names p q) = None

-- each atom has the type of its parameter, seen from the call
abbrev pub walk_arguments : Scope → List Name → List Name → List (List Item) → List Item → Result (List Item) Refused
walk_arguments Γ olds news [] is = Ok is
walk_arguments Γ olds news (q ∷ qs) is = walk_need Γ (replaced olds news (type_at q)) is >>= (λ more. walk_arguments Γ olds news qs more)

-- a call that hands over regions and atoms to a function
abbrev pub called : Scope → Ident → List Item → List Item → Result (RegionType × List Item) Refused
called Γ g is h =
    ask (length (row handed is) == length (row declared h) && length (row argument (drop (length (row handed is)) is)) == length (parameters h)) 16 g.place
    >> (walk_handed Γ is >>= (λ more. walk_arguments Γ (row declared h) (row handed is) (parameters h) more >>= (λ after. Ok (replaced (row declared h) (row handed is) (result_type h), after))))

abbrev pub walk_call : Functions → Scope → Ident → List Item → Result (RegionType × List Item) Refused
walk_call G Γ g is = found (find (λ h. h.0.name) g.name G) g.place >>= (λ h. called Γ g is h.1)

abbrev pub walk_operation : Scope → List Item → Result (RegionType × List Item) Refused
walk_operation Γ is = walk_need Γ int is >>= (λ more. walk_need Γ int more >>= (λ after. Ok (int, after)))

abbrev pub walk_nil : Scope → ℕ → Ident → List Item → Result (RegionType × List Item) Refused
walk_nil Γ p r is = known Γ r >> (walk_type Γ is >>= (λ after. ask (nat_le (depth (list r.name (type_at is))) 5) 15 p >> Ok (list r.name (type_at is), after)))

abbrev pub walk_cons : Scope → Ident → List Item → Result (RegionType × List Item) Refused
walk_cons Γ r is = known Γ r >> (walk_atom Γ is >>= (λ a. walk_atom Γ a.2 >>= (λ b. ask (same_type b.0 (list r.name a.0)) 13 b.1 >> Ok (b.0, b.2))))

-- both blocks of a test; `block` walks a block
abbrev pub walk_test : (Scope → List Item → Result Answer Refused) → Scope → List Item → Result (RegionType × List Item) Refused
walk_test block Γ is = walk_need Γ int is >>= (λ more. block Γ more >>= (λ b. block Γ b.2 >>= (λ c. ask (same_type c.0 b.0) 13 c.1 >> Ok (b.0, c.2))))

abbrev pub walk_region : (Scope → List Item → Result Answer Refused) → Scope → Ident → List Item → Result (RegionType × List Item) Refused
walk_region block Γ r is = new_region Γ r >> (block (with_region Γ r) is >>= (λ b. ask (not (mentions r.name b.0)) 14 b.1 >> Ok (b.0, b.2)))

-- the second block of a case, behind its names
abbrev pub walk_second : (Scope → List Item → Result Answer Refused) → Scope → RegionType → RegionType → List Item → Result Answer Refused
walk_second block Γ S L is = walk_names is >>= (λ n. new_variable 32 Γ n.0 >> (new_variable 32 (with_variable Γ n.0 S) n.1 >> block (with_variable (with_variable Γ n.0 S) n.1 L) n.2))

abbrev pub walk_case : (Scope → List Item → Result Answer Refused) → Scope → List Item → Result (RegionType × List Item) Refused
walk_case block Γ is =
    walk_atom Γ is >>= (λ a. element a.0 a.1 >>= (λ e. block Γ a.2 >>= (λ b. walk_second block Γ e.1 a.0 b.2 >>= (λ c. ask (same_type c.0 b.0) 13 c.1 >> Ok (b.0, c.2)))))

-- a right side
abbrev pub right_item : (Scope → List Item → Result Answer Refused) → Functions → Scope → List Item → Item → Result (RegionType × List Item) Refused
right_item block G Γ is (a_function p) = misplaced
right_item block G Γ is (a_header_region p) = misplaced
right_item block G Γ is (a_parameter p) = misplaced
right_item block G Γ is an_outcome = misplaced
right_item block G Γ is an_int = misplaced
right_item block G Γ is (a_list p) = misplaced
right_item block G Γ is (a_let p) = misplaced
right_item block G Γ is (a_print p) = misplaced
right_item block G Γ is a_last = misplaced
right_item block G Γ is (a_variable x) = type_atom Γ (var x) >>= (λ T. Ok (T, is))
right_item block G Γ is (a_number p z) = Ok (int, is)
right_item block G Γ is (an_operation p o) = walk_operation Γ is
right_item block G Γ is (a_nil p r) = walk_nil Γ p r is
right_item block G Γ is (a_cons p r) = walk_cons Γ r is
right_item block G Γ is (a_call p g) = walk_call G Γ g is
right_item block G Γ is (a_handed p) = misplaced
right_item block G Γ is (an_if p) = walk_test block Γ is
right_item block G Γ is (a_region p r) = walk_region block Γ r is
right_item block G Γ is (a_case p) = walk_case block Γ is
right_item block G Γ is (case_names p q) = misplaced

abbrev pub walk_right : (Scope → List Item → Result Answer Refused) → Functions → Scope → List Item → Result (RegionType × List Item) Refused
walk_right block G Γ [] = misplaced
walk_right block G Γ (i ∷ is) = right_item block G Γ is i

-- the first item of a block, and what follows it
abbrev pub block_item : (Scope → List Item → Result Answer Refused) → Functions → Scope → List Item → Item → Result Answer Refused
block_item block G Γ is (a_function p) = misplaced
block_item block G Γ is (a_header_region p) = misplaced
block_item block G Γ is (a_parameter p) = misplaced
block_item block G Γ is an_outcome = misplaced
block_item block G Γ is an_int = misplaced
block_item block G Γ is (a_list p) = misplaced
block_item block G Γ is (a_let x) = new_variable 32 Γ x >> (walk_right block G Γ is >>= (λ a. block (with_variable Γ x a.0) a.1))
block_item block G Γ is (a_print p) = walk_need Γ int is >>= (λ more. block Γ more)
block_item block G Γ is a_last = walk_atom Γ is
block_item block G Γ is (a_variable p) = misplaced
block_item block G Γ is (a_number p q) = misplaced
block_item block G Γ is (an_operation p q) = misplaced
block_item block G Γ is (a_nil p q) = misplaced
block_item block G Γ is (a_cons p q) = misplaced
block_item block G Γ is (a_call p q) = misplaced
block_item block G Γ is (a_handed p) = misplaced
block_item block G Γ is (an_if p) = misplaced
block_item block G Γ is (a_region p q) = misplaced
block_item block G Γ is (a_case p) = misplaced
block_item block G Γ is (case_names p q) = misplaced

abbrev pub block_front : (Scope → List Item → Result Answer Refused) → Functions → Scope → List Item → Result Answer Refused
block_front block G Γ [] = misplaced
block_front block G Γ (i ∷ is) = block_item block G Γ is i

-- a block, in at most so many steps
abbrev pub walk_block : ℕ → Functions → Scope → List Item → Result Answer Refused
walk_block zero G Γ is = misplaced
walk_block (suc n) G Γ is = block_front (walk_block n G) G Γ is

-- the regions of a header come into scope one after the other
abbrev pub walk_regions : Scope → List Item → Result (Scope × List Item) Refused
walk_regions Γ [] = Ok (Γ, [])
walk_regions Γ ((a_function p) ∷ is) = Ok (Γ, (a_function p) ∷ is)
walk_regions Γ ((a_header_region r) ∷ is) = new_region Γ r >> walk_regions (with_region Γ r) is
walk_regions Γ ((a_parameter p) ∷ is) = Ok (Γ, (a_parameter p) ∷ is)
walk_regions Γ (an_outcome ∷ is) = Ok (Γ, an_outcome ∷ is)
walk_regions Γ (an_int ∷ is) = Ok (Γ, an_int ∷ is)
walk_regions Γ ((a_list p) ∷ is) = Ok (Γ, (a_list p) ∷ is)
walk_regions Γ ((a_let p) ∷ is) = Ok (Γ, (a_let p) ∷ is)
walk_regions Γ ((a_print p) ∷ is) = Ok (Γ, (a_print p) ∷ is)
walk_regions Γ (a_last ∷ is) = Ok (Γ, a_last ∷ is)
walk_regions Γ ((a_variable p) ∷ is) = Ok (Γ, (a_variable p) ∷ is)
walk_regions Γ ((a_number p q) ∷ is) = Ok (Γ, (a_number p q) ∷ is)
walk_regions Γ ((an_operation p q) ∷ is) = Ok (Γ, (an_operation p q) ∷ is)
walk_regions Γ ((a_nil p q) ∷ is) = Ok (Γ, (a_nil p q) ∷ is)
walk_regions Γ ((a_cons p q) ∷ is) = Ok (Γ, (a_cons p q) ∷ is)
walk_regions Γ ((a_call p q) ∷ is) = Ok (Γ, (a_call p q) ∷ is)
walk_regions Γ ((a_handed p) ∷ is) = Ok (Γ, (a_handed p) ∷ is)
walk_regions Γ ((an_if p) ∷ is) = Ok (Γ, (an_if p) ∷ is)
walk_regions Γ ((a_region p q) ∷ is) = Ok (Γ, (a_region p q) ∷ is)
walk_regions Γ ((a_case p) ∷ is) = Ok (Γ, (a_case p) ∷ is)
walk_regions Γ ((case_names p q) ∷ is) = Ok (Γ, (case_names p q) ∷ is)

-- the parameters of a header come into scope one after the other, each behind its type; `next` walks the others
abbrev pub params_front : (Scope → List Item → Result (Scope × List Item) Refused) → Scope → List Item → Result (Scope × List Item) Refused
params_front next Γ [] = Ok (Γ, [])
params_front next Γ ((a_function p) ∷ is) = Ok (Γ, (a_function p) ∷ is)
params_front next Γ ((a_header_region p) ∷ is) = Ok (Γ, (a_header_region p) ∷ is)
params_front next Γ ((a_parameter x) ∷ is) = new_variable 8 Γ x >> (walk_type Γ is >>= (λ more. next (with_variable Γ x (type_at is)) more))
params_front next Γ (an_outcome ∷ is) = Ok (Γ, an_outcome ∷ is)
params_front next Γ (an_int ∷ is) = Ok (Γ, an_int ∷ is)
params_front next Γ ((a_list p) ∷ is) = Ok (Γ, (a_list p) ∷ is)
params_front next Γ ((a_let p) ∷ is) = Ok (Γ, (a_let p) ∷ is)
params_front next Γ ((a_print p) ∷ is) = Ok (Γ, (a_print p) ∷ is)
params_front next Γ (a_last ∷ is) = Ok (Γ, a_last ∷ is)
params_front next Γ ((a_variable p) ∷ is) = Ok (Γ, (a_variable p) ∷ is)
params_front next Γ ((a_number p q) ∷ is) = Ok (Γ, (a_number p q) ∷ is)
params_front next Γ ((an_operation p q) ∷ is) = Ok (Γ, (an_operation p q) ∷ is)
params_front next Γ ((a_nil p q) ∷ is) = Ok (Γ, (a_nil p q) ∷ is)
params_front next Γ ((a_cons p q) ∷ is) = Ok (Γ, (a_cons p q) ∷ is)
params_front next Γ ((a_call p q) ∷ is) = Ok (Γ, (a_call p q) ∷ is)
params_front next Γ ((a_handed p) ∷ is) = Ok (Γ, (a_handed p) ∷ is)
params_front next Γ ((an_if p) ∷ is) = Ok (Γ, (an_if p) ∷ is)
params_front next Γ ((a_region p q) ∷ is) = Ok (Γ, (a_region p q) ∷ is)
params_front next Γ ((a_case p) ∷ is) = Ok (Γ, (a_case p) ∷ is)
params_front next Γ ((case_names p q) ∷ is) = Ok (Γ, (case_names p q) ∷ is)

abbrev pub walk_params : ℕ → Scope → List Item → Result (Scope × List Item) Refused
walk_params zero Γ is = misplaced
walk_params (suc n) Γ is = params_front (walk_params n) Γ is

-- where the result type of a header stands
abbrev pub walk_outcome : List Item → Result (List Item) Refused
walk_outcome [] = misplaced
walk_outcome ((a_function p) ∷ is) = misplaced
walk_outcome ((a_header_region p) ∷ is) = misplaced
walk_outcome ((a_parameter p) ∷ is) = misplaced
walk_outcome (an_outcome ∷ is) = Ok is
walk_outcome (an_int ∷ is) = misplaced
walk_outcome ((a_list p) ∷ is) = misplaced
walk_outcome ((a_let p) ∷ is) = misplaced
walk_outcome ((a_print p) ∷ is) = misplaced
walk_outcome (a_last ∷ is) = misplaced
walk_outcome ((a_variable p) ∷ is) = misplaced
walk_outcome ((a_number p q) ∷ is) = misplaced
walk_outcome ((an_operation p q) ∷ is) = misplaced
walk_outcome ((a_nil p q) ∷ is) = misplaced
walk_outcome ((a_cons p q) ∷ is) = misplaced
walk_outcome ((a_call p q) ∷ is) = misplaced
walk_outcome ((a_handed p) ∷ is) = misplaced
walk_outcome ((an_if p) ∷ is) = misplaced
walk_outcome ((a_region p q) ∷ is) = misplaced
walk_outcome ((a_case p) ∷ is) = misplaced
walk_outcome ((case_names p q) ∷ is) = misplaced

-- a header: the scope of its block, the items of its result type, and the items of its block
abbrev pub walk_header : ℕ → Scope → List Item → Result (Scope × List Item × List Item) Refused
walk_header n Γ is = walk_regions Γ is >>= (λ a. walk_params n a.0 a.1 >>= (λ b. walk_outcome b.1 >>= (λ o. walk_type b.0 o >>= (λ after. Ok (b.0, o, after)))))

-- what stands behind a header
abbrev pub behind_header : Result (Scope × List Item × List Item) Refused → Result (List Item) Refused
behind_header r = r >>= (λ h. Ok h.2)

-- from the next function on
abbrev pub next_function : List Item → List Item
next_function [] = []
next_function ((a_function f) ∷ is) = a_function f ∷ is
next_function ((a_header_region p) ∷ is) = next_function is
next_function ((a_parameter p) ∷ is) = next_function is
next_function (an_outcome ∷ is) = next_function is
next_function (an_int ∷ is) = next_function is
next_function ((a_list p) ∷ is) = next_function is
next_function ((a_let p) ∷ is) = next_function is
next_function ((a_print p) ∷ is) = next_function is
next_function (a_last ∷ is) = next_function is
next_function ((a_variable p) ∷ is) = next_function is
next_function ((a_number p q) ∷ is) = next_function is
next_function ((an_operation p q) ∷ is) = next_function is
next_function ((a_nil p q) ∷ is) = next_function is
next_function ((a_cons p q) ∷ is) = next_function is
next_function ((a_call p q) ∷ is) = next_function is
next_function ((a_handed p) ∷ is) = next_function is
next_function ((an_if p) ∷ is) = next_function is
next_function ((a_region p q) ∷ is) = next_function is
next_function ((a_case p) ∷ is) = next_function is
next_function ((case_names p q) ∷ is) = next_function is

-- a function may take that name
abbrev pub new_function : Functions → Ident → Result (Unit {0}) Refused
new_function G f = ask (not (is_some (find (λ h. h.0.name) f.name G))) 8 f.place >> ask (nat_lt (length G) 64) 10 f.place

-- all headers from the left: the functions that they are of
abbrev pub headers_front : (Functions → List Item → Result Functions Refused) → ℕ → Functions → List Item → Result Functions Refused
headers_front next n G [] = Ok G
headers_front next n G ((a_function f) ∷ is) = new_function G f >> (behind_header (walk_header n empty_scope is) >>= (λ after. next (G ++ ((f, is) ∷ [])) (next_function after)))
headers_front next n G ((a_header_region p) ∷ is) = misplaced
headers_front next n G ((a_parameter p) ∷ is) = misplaced
headers_front next n G (an_outcome ∷ is) = misplaced
headers_front next n G (an_int ∷ is) = misplaced
headers_front next n G ((a_list p) ∷ is) = misplaced
headers_front next n G ((a_let p) ∷ is) = misplaced
headers_front next n G ((a_print p) ∷ is) = misplaced
headers_front next n G (a_last ∷ is) = misplaced
headers_front next n G ((a_variable p) ∷ is) = misplaced
headers_front next n G ((a_number p q) ∷ is) = misplaced
headers_front next n G ((an_operation p q) ∷ is) = misplaced
headers_front next n G ((a_nil p q) ∷ is) = misplaced
headers_front next n G ((a_cons p q) ∷ is) = misplaced
headers_front next n G ((a_call p q) ∷ is) = misplaced
headers_front next n G ((a_handed p) ∷ is) = misplaced
headers_front next n G ((an_if p) ∷ is) = misplaced
headers_front next n G ((a_region p q) ∷ is) = misplaced
headers_front next n G ((a_case p) ∷ is) = misplaced
headers_front next n G ((case_names p q) ∷ is) = misplaced

abbrev pub walk_headers : ℕ → Functions → List Item → Result Functions Refused
walk_headers zero G is = misplaced
walk_headers (suc n) G is = headers_front (walk_headers n) n G is

-- whether the parameters are one int
abbrev pub one_int_items : List (List Item) → Bool
one_int_items [] = false
one_int_items (q ∷ []) = same_type (type_at q) int
one_int_items (q ∷ (r ∷ qs)) = false

-- whether a header has no region, one int parameter and an int result
abbrev pub main_items : List Item → Bool
main_items h = length (row declared h) == 0 && (one_int_items (parameters h) && same_type (result_type h) int)

-- there is a main; where it is lacking, the place is the text's length
abbrev pub walk_main : ℕ → Option (Ident × List Item) → Result (Unit {0}) Refused
walk_main end (Some h) = ask (main_items h.1) 9 h.0.place
walk_main end None = Err (record { number = 9; place = end })

-- a function's block has the declared result type
abbrev pub walk_body : ℕ → Functions → List Item → Result (List Item) Refused
walk_body n G is = walk_header n empty_scope is >>= (λ h. walk_block n G h.0 h.2 >>= (λ b. ask (same_type b.0 (type_at h.1)) 13 b.1 >> Ok b.2))

-- all blocks from the left
abbrev pub bodies_front : (List Item → Result (Unit {0}) Refused) → ℕ → Functions → List Item → Result (Unit {0}) Refused
bodies_front next n G [] = Ok tt
bodies_front next n G ((a_function f) ∷ is) = walk_body n G is >>= (λ after. next after)
bodies_front next n G ((a_header_region p) ∷ is) = misplaced
bodies_front next n G ((a_parameter p) ∷ is) = misplaced
bodies_front next n G (an_outcome ∷ is) = misplaced
bodies_front next n G (an_int ∷ is) = misplaced
bodies_front next n G ((a_list p) ∷ is) = misplaced
bodies_front next n G ((a_let p) ∷ is) = misplaced
bodies_front next n G ((a_print p) ∷ is) = misplaced
bodies_front next n G (a_last ∷ is) = misplaced
bodies_front next n G ((a_variable p) ∷ is) = misplaced
bodies_front next n G ((a_number p q) ∷ is) = misplaced
bodies_front next n G ((an_operation p q) ∷ is) = misplaced
bodies_front next n G ((a_nil p q) ∷ is) = misplaced
bodies_front next n G ((a_cons p q) ∷ is) = misplaced
bodies_front next n G ((a_call p q) ∷ is) = misplaced
bodies_front next n G ((a_handed p) ∷ is) = misplaced
bodies_front next n G ((an_if p) ∷ is) = misplaced
bodies_front next n G ((a_region p q) ∷ is) = misplaced
bodies_front next n G ((a_case p) ∷ is) = misplaced
bodies_front next n G ((case_names p q) ∷ is) = misplaced

abbrev pub walk_bodies : ℕ → Functions → List Item → Result (Unit {0}) Refused
walk_bodies zero G is = misplaced
walk_bodies (suc n) G is = bodies_front (walk_bodies n G) n G is

-- the headers, question 9, the blocks
abbrev pub walk_script : ℕ → ℕ → List Item → Result (Unit {0}) Refused
walk_script n end is = walk_headers n [] is >>= (λ G. walk_main end (find (λ h. h.0.name) (codes "main") G) >> walk_bodies n G is)
