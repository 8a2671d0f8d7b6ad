-- The answer of reading a text, and what the draft holds then.
use Rattle.std.specs.Prelude.{◌≡◌, ℕ, List, [], length, Ok, Err, Result, MatchResult}
use Rattle.lexing.specs.declared.fault.Fault.{Fault}
use Rattle.language.specs.Verdict.{Refused}
use Rattle.language.specs.Syntax.{Script}
use Rattle.language.specs.Reading.{reading}
use Rattle.draft.specs.declared.table.Table.{Table}
use Rattle.draft.specs.Items.{Item, text_of, items, items_of}
use Rattle.reading.specs.Cursors.{refused}

-- what the call answers: the items of the table, or the question's number and its place
abbrev pub said : Result (Unit {0}) Fault → Table → Result (List Item) Refused
said (Ok u) t = Ok (items t)
said (Err e) t = Err (refused e)

-- what it has to answer: the items of the script, or the refusal
abbrev pub answered : Result Script Refused → Result (List Item) Refused
answered (Ok s) = Ok (items_of s)
answered (Err e) = Err e

-- the script that the table holds then: none's after a refusal
abbrev pub held_then : Result Script Refused → List Item
held_then (Ok s) = items_of s
held_then (Err e) = []

-- the text that the table keeps
abbrev pub kept : Result (Unit {0}) Fault → List ℕ → List ℕ
kept (Ok u) text = text
kept (Err e) text = []

-- a table that was filled with the script of a text, or the refusal
pub record Full (source : List ℕ) (t : Table) : Type 0 where
  pub tree : Script
  pub reads : reading source ≡ Ok tree
  pub told : items t ≡ items_of tree
  pub text : text_of t ≡ source
  pub long : length t.text.items ≡ length source

abbrev pub Filled : List ℕ → Result (Unit {0}) Fault → Table → Type 0
Filled text r t = MatchResult r (λ _. Full text t) (λ e. reading text ≡ Err (refused e))
