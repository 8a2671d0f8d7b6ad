-- The plain session: what each of the calls load, start, resume and stop answers, and what the session holds then.
use Rattle.std.specs.Prelude.{ℕ, ◌+◌, true, false, List, [], ◌∷◌, ◌++◌, length, drop, ℤ, Some, None, Option, nat_le}
use Rattle.regions.specs.Model.{Rule}
use Rattle.language.specs.Syntax.{Script}
use Rattle.language.specs.Questions.{Ending, goes_on, Stint, Stop, begun}
use Rattle.language.specs.Plain.{State, started}
use Rattle.language.specs.Carried.{carried}

-- the refusals of the calls
pub data Refusal : Type 0 where
  under_way : Refusal
  not_loaded : Refusal
  not_under_way : Refusal
  too_many_units : Refusal

-- the number of each refusal
abbrev pub refusal_number : Refusal → ℕ
refusal_number under_way = 20
refusal_number not_loaded = 21
refusal_number not_under_way = 22
refusal_number too_many_units = 24

-- a run under way: where it stands, with its own script, and the units used since its start
pub record Run : Type 0 where
  pub at : State
  pub used : ℕ

-- the loaded program, which is a script or none, and the run under way, if any
pub record Session : Type 0 where
  pub loaded : Option Script
  pub run : Option Run

-- a new one holds nothing
abbrev pub new : Session
new = record { loaded = None; run = None }

-- the calls: a program, where the empty one is none; a number for `main`; units, and the list to be filled as it is before
pub data Call : Type 0 where
  load : Option Script → Call
  start : ℤ → Call
  resume : ℕ → List ℤ → Call
  stop : Call

-- what a resume tells: how it ended, the counts of units and prints in it, and the list as it is then
pub record Told : Type 0 where
  pub ending : Ending
  pub result : ℤ
  pub place : ℕ
  pub units : ℕ
  pub prints : ℕ
  pub entries : List ℤ

pub data Answer : Type 0 where
  done : Answer
  told : Told → Answer
  refused : Refusal → Answer

-- printed numbers fill the list from its first entry, and the rest stays
abbrev pub written : List ℤ → List ℤ → List ℤ
written printed entries = printed ++ drop (length printed) entries

-- what a stop tells
abbrev pub telling : Stop State → List ℤ → Told
telling e entries = record {
  ending = e.ending;
  result = e.result;
  place = e.place;
  units = e.stint.used;
  prints = length e.stint.printed;
  entries = written e.stint.printed entries;
}

-- the run after a stop: still under way, or over
abbrev pub run_after : Stop State → ℕ → Option Run
run_after e used = elim (goes_on e.ending) [ true ↦ Some (record { at = e.stint.run; used = used + e.stint.used }) | false ↦ None ]

-- a refusal changes nothing
abbrev pub refusing : Refusal → Session → Answer × Session
refusing r s = (refused r, s)

-- load: is no run under way?
abbrev pub load_call : Option Script → Session → Answer × Session
load_call p s = elim s.run [ Some c ↦ refusing under_way s | None ↦ (done, record { loaded = p; run = None }) ]

-- start: is no run under way, and is a program loaded?
abbrev pub start_call : ℤ → Session → Answer × Session
start_call n s = elim s.run [
  | Some c ↦ refusing under_way s
  | None ↦ elim s.loaded [ None ↦ refusing not_loaded s | Some F ↦ (done, record { loaded = s.loaded; run = Some (record { at = started F n; used = 0 }) }) ]
]

-- what a resume that is not refused answers, and the session after it, where the run has come to a stop
abbrev pub stopped : Stop State → Run → List ℤ → Session → Answer × Session
stopped e c entries s = (told (telling e entries), record { loaded = s.loaded; run = run_after e c.used })

-- the run of a session, resumed with units and a list
abbrev pub resumed : Run → ℕ → List ℤ → Stint State
resumed c units entries = begun c.at units (length entries)

-- resume: is a run under way, and are the units used since the start, plus these, at most 4,294,967,295?
abbrev pub resume_call : Rule → ℕ → List ℤ → Session → Answer × Session
resume_call grants units entries s = elim s.run [
  | None ↦ refusing not_under_way s
  | Some c ↦ elim (nat_le (c.used + units) 4294967295) [ true ↦ stopped (carried grants (resumed c units entries)) c entries s | false ↦ refusing too_many_units s ]
]

-- stop: is a run under way? then it is dropped
abbrev pub stop_call : Session → Answer × Session
stop_call s = elim s.run [ None ↦ refusing not_under_way s | Some c ↦ (done, record { loaded = s.loaded; run = None }) ]

-- a call, its answer and the session after it
abbrev pub answered : Rule → Call → Session → Answer × Session
answered grants (load p) s = load_call p s
answered grants (start n) s = start_call n s
answered grants (resume units entries) s = resume_call grants units entries s
answered grants stop s = stop_call s

-- calls one by one, with all answers in order
abbrev pub feed : Rule → List Call → Session → List Answer × Session
feed grants [] s = ([], s)
feed grants (c ∷ cs) s =
    let a = answered grants c s in
    let r = feed grants cs a.1 in
    (a.0 ∷ r.0, r.1)
