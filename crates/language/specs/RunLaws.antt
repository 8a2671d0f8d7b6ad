-- Laws that hold the plain run, the striking out and the reading of lists to the subject.
use Rattle.std.specs.Prelude.{◌≡◌, ℕ, ◌+◌, ◌<◌, ◌≤◌, false, ◌⊎◌, ◌↔◌, List, ◌++◌, length, ℤ, Some, None, ◌≢◌}
use Rattle.regions.specs.Model.{Rule, Regions}
use Rattle.language.specs.Syntax.{Script}
use Rattle.language.specs.Types.{RegionType}
use Rattle.language.specs.Values.{Value}
use Rattle.language.specs.Questions.{Ending, spent, full, exhausted, grows, Stint, Stop, Reaches, ComesTo, begun}
use Rattle.language.specs.Plain.{State, Placed, next, started}
use Rattle.language.specs.Carried.{carried}
use Rattle.language.specs.PlainSession.{Session, Run, Refusal, Call, resume, Told, told, refused, answered, stopped, resumed}
use Rattle.language.specs.Spelling.{spell}
use Rattle.language.specs.Struck.{struck_script}
use Rattle.language.specs.Striking.{struck_tokens, bare_spell}
use Rattle.language.specs.StruckRun.{bare_next, bare_started, struck_state, struck_stint, struck_stop}
use Rattle.language.specs.Reads.{Reads, reference, region_of, place_of}

-- Every stint comes to a stop, the one that `carried` computes, and to no other.
abbrev pub OneStop : Type 0
OneStop = (grants : Rule) (t : Stint State) → ComesTo next grants t (carried grants t) × ((e : Stop State) → ComesTo next grants t e → e ≡ carried grants t)

-- So every call has one answer: a resume that is not refused answers by the one stop that its run comes to.
abbrev pub OneAnswer : Type 0
OneAnswer = (grants : Rule) (units : ℕ) (entries : List ℤ) (s : Session) (c : Run) (e : Stop State) → s.run ≡ Some c → c.used + units ≤ 4294967295 →
    ComesTo next grants (resumed c units entries) e → answered grants (resume units entries) s ≡ stopped e c entries s

-- A refusal changes no session, and a resume fills its list without lengthening or shortening it.
pub record CallsKeep : Type 0 where
  pub refused_session : (grants : Rule) (c : Call) (s : Session) (r : Refusal) → (answered grants c s).0 ≡ refused r → (answered grants c s).1 ≡ s
  pub list_length : (grants : Rule) (units : ℕ) (entries : List ℤ) (s : Session) (t : Told) → (answered grants (resume units entries) s).0 ≡ told t →
      length t.entries ≡ length entries

-- the endings after which a run can be resumed
abbrev pub Pauses : Ending → Type 0
Pauses e = (e ≡ spent) ⊎ (e ≡ full)

-- After a resume that is told, the run is over exactly unless it ended so.
abbrev pub RunOver : Type 0
RunOver = (grants : Rule) (units : ℕ) (entries : List ℤ) (s : Session) (t : Told) → (answered grants (resume units entries) s).0 ≡ told t →
    ((answered grants (resume units entries) s).1.run ≡ None) ↔ (Pauses t.ending → ⊥)

-- Striking out the region words in the tokens of a script leaves the tokens of the struck-out script, each at its place.
abbrev pub StruckSpelling : Type 0
StruckSpelling = (F : Script) → struck_tokens (spell F) ≡ bare_spell (struck_script F)

-- Striking out, as long as nothing is denied: whatever a stint reaches, the script without region words reaches too, over whatever rule, with the same
-- values, numbers printed and units used; and it comes to the same stop, unless the rule has denied the account.
pub record StruckAlike : Type 0 where
  pub starts : (F : Script) (n : ℤ) → struck_state (started F n) ≡ bare_started (struck_script F) n
  pub reaches : (grants any : Rule) (t u : Stint State) → Reaches next grants t u → Reaches bare_next any (struck_stint t) (struck_stint u)
  pub stops : (grants any : Rule) (t : Stint State) (e : Stop State) → ComesTo next grants t e → (e.ending ≢ exhausted) →
      ComesTo bare_next any (struck_stint t) (struck_stop e)
  pub denied : (grants any : Rule) (t : Stint State) (e : Stop State) → ComesTo next grants t e → e.ending ≡ exhausted →
      Reaches bare_next any (struck_stint t) (struck_stint e.stint)

-- What a resume counts: units used and units left are those given, and so for prints and entries; spent has no unit left, and list full no entry.
pub record ResumeCounts : Type 0 where
  pub units : (grants : Rule) (s : State) (n l : ℕ) (e : Stop State) → ComesTo next grants (begun s n l) e → e.stint.used + e.stint.units ≡ n
  pub prints : (grants : Rule) (s : State) (n l : ℕ) (e : Stop State) → ComesTo next grants (begun s n l) e → length e.stint.printed + e.stint.entries ≡ l
  pub at_spent : (grants : Rule) (s : State) (n l : ℕ) (e : Stop State) → ComesTo next grants (begun s n l) e → e.ending ≡ spent → e.stint.units ≡ 0
  pub at_full : (grants : Rule) (s : State) (n l : ℕ) (e : Stop State) → ComesTo next grants (begun s n l) e → e.ending ≡ full → e.stint.entries ≡ 0

-- two resumes as one: the second's ending, with the counts and the numbers printed added up
abbrev pub joined : Stop State → Stop State → Stop State
joined d e = record {
  ending = e.ending;
  result = e.result;
  place = e.place;
  stint = record {
    run = e.stint.run;
    units = e.stint.units;
    entries = e.stint.entries;
    used = d.stint.used + e.stint.used;
    printed = d.stint.printed ++ e.stint.printed;
  };
}

-- A run that stopped goes on at the same word: resumed with what was left and some more, it does what it would have done with that from the first.
abbrev pub GoesOn : Type 0
GoesOn = (grants : Rule) (s : State) (n l more_units more_entries : ℕ) (d e : Stop State) → ComesTo next grants (begun s n l) d →
    ComesTo next grants (begun d.stint.run (d.stint.units + more_units) (d.stint.entries + more_entries)) e →
    ComesTo next grants (begun s (n + more_units) (l + more_entries)) (joined d e)

-- the stint comes to a word that would open a region or add words, and the rule denies the account after it
pub record Denial (grants : Rule) (t : Stint State) : Type 0 where
  pub stint : Stint State
  pub reached : Reaches next grants t stint
  pub place : ℕ
  pub after : State
  pub word : next stint.run ≡ grows place after.account after
  pub denied : grants after.account ≡ false

-- A resume answers exhausted exactly then.
abbrev pub ExhaustedExactly : Type 0
ExhaustedExactly = (grants : Rule) (t : Stint State) →
    ((carried grants t).ending ≡ exhausted → Denial grants t) × (Denial grants t → (carried grants t).ending ≡ exhausted)

-- A reference says its position and its place, in a word of 32 bits that is not 0, for all regions and words that a rule can grant.
pub record ReferenceSays : Type 0 where
  pub position : (p i : ℕ) → i < 65536 → region_of (reference p i) ≡ p
  pub place : (p i : ℕ) → i < 65536 → place_of (reference p i) ≡ i
  pub fits : (p i : ℕ) → p < 64 → i < 65536 → reference p i < 4294967296
  pub some : (p i : ℕ) → 0 < reference p i

-- From a word, its type and what its region names mean, at most one value is read.
abbrev pub ReadsOnce : Type 0
ReadsOnce = (rs : Regions) (ρ : List Placed) (T : RegionType) (w : ℕ) (v v' : Value) → Reads rs ρ T w v → Reads rs ρ T w v' → v ≡ v'
