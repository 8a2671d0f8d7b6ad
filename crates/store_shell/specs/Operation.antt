-- What an operation on a store answers, and what the store holds then. Assumes nothing.
use Rattle.std.specs.Prelude.{ℕ, List, [], ◌∷◌, Ok, Err, Result, codes}
use Rattle.regions.specs.declared.refusal.Refusal.{Refusal}
use Rattle.regions.specs.Model.{Regions, Rule, open_answer, open_after, put_answer, put_after, get_answer, close_answer, close_after, clear_after}
use Rattle.store_shell.specs.declared.operation.Operation.{Operation}
use Rattle.store_shell.specs.declared.operation.Operation.TheVariants.{Open, Put, Get, Close, Clear}
use Rattle.store_shell.specs.declared.operation.Answer.{Answer}
use Rattle.store_shell.specs.declared.operation.Answer.TheVariants.{Done, Length, Word}

-- an operation by its name
abbrev pub called : Operation → List ℕ
called Open = codes "open"
called (Put p a b) = codes "put"
called (Get p i) = codes "get"
called Close = codes "close"
called Clear = codes "clear"

-- a refusal as it is, and any other answer told by f
abbrev pub told : {A : Type 0} → (A → Answer) → Result A Refusal → Result Answer Refusal
told f (Ok a) = Ok (f a)
told f (Err e) = Err e

-- the answer of each operation
abbrev pub answered : Rule → Regions → Operation → Result Answer Refusal
answered g rs Open = told (λ _. Done) (open_answer g rs)
answered g rs (Put p a b) = told Length (put_answer g rs p (a ∷ b ∷ []))
answered g rs (Get p i) = told Word (get_answer rs p i)
answered g rs Close = told (λ _. Done) (close_answer rs)
answered g rs Clear = Ok Done

-- what the store holds after each
abbrev pub afterwards : Rule → Regions → Operation → Regions
afterwards g rs Open = open_after g rs
afterwards g rs (Put p a b) = put_after g rs p (a ∷ b ∷ [])
afterwards g rs (Get p i) = rs
afterwards g rs Close = close_after rs
afterwards g rs Clear = clear_after rs
