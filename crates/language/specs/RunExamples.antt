-- The worked examples: texts, runs, arithmetic and the reading of a list, by computation.
use Rattle.std.specs.Prelude.{◌≡◌, ℕ, List, [], ◌∷◌, map, ℤ, pos, negsuc, None, codes, Option}
use Rattle.language.specs.Syntax.{Script, sub, div, rem, eq}
use Rattle.language.specs.Types.{list, int}
use Rattle.language.specs.Arithmetic.{calculated}
use Rattle.language.specs.Values.{number, empty, link}
use Rattle.regions.specs.Model.{Rule}
use Rattle.regions.specs.Rules.{arena_rule, quota_rule}
use Rattle.language.specs.CheckingExamples.{outcome}
use Rattle.language.specs.CheckingExamples as checked
use Rattle.language.specs.Questions.{ending_number}
use Rattle.language.specs.PlainSession.{new, Call, load, start, resume, stop, Answer, done, told, refused, feed, refusal_number}
use Rattle.language.specs.Reads.{Reads, reference}
use Rattle.language.specs.RunScripts.{sum_program, deep_program, handing_program, cut_program, twice_program, opening_program, pick_program}

-- an answer by its numbers: the refusal; or the ending, the result, the place, the units, the prints, and the list
pub data Shown : Type 0 where
  ok : Shown
  no : ℕ → Shown
  ends : ℕ → ℤ → ℕ → ℕ → ℕ → List ℤ → Shown

abbrev pub shown : Answer → Shown
shown done = ok
shown (refused r) = no (refusal_number r)
shown (told t) = ends (ending_number t.ending) t.result t.place t.units t.prints t.entries

-- what a new session answers to calls
abbrev pub answers : Rule → List Call → List Shown
answers grants cs = map shown (feed grants cs new).0

-- a script loaded, started on a number, and resumed once
abbrev pub run : Rule → Option Script → ℤ → ℕ → List ℤ → List Shown
run grants F n units entries = answers grants (load F ∷ (start n ∷ (resume units entries ∷ [])))

abbrev pub one : List ℤ
one = pos 0 ∷ []

abbrev pub two : List ℤ
two = pos 0 ∷ (pos 0 ∷ [])

pub record Worked : Type 0 where
  -- 3 units suffice from 4, and 2 do not; the run then goes on with one more
  pub sum_ends : run (arena_rule 4) sum_program (pos 4) 3 one ≡ ok ∷ (ok ∷ (ends 0 (pos 7) 0 3 1 (pos 4 ∷ []) ∷ []))
  pub sum_spent : run (arena_rule 4) sum_program (pos 4) 2 one ≡ ok ∷ (ok ∷ (ends 1 (pos 0) 74 2 1 (pos 4 ∷ []) ∷ []))
  pub sum_goes_on : answers (arena_rule 4) (load sum_program ∷ (start (pos 4) ∷ (resume 2 one ∷ (resume 1 one ∷ [])))) ≡
      ok ∷ (ok ∷ (ends 1 (pos 0) 74 2 1 (pos 4 ∷ []) ∷ (ends 0 (pos 7) 0 1 0 (pos 0 ∷ []) ∷ [])))
  -- 4 words suffice; with 3, and with a quota of 2, the second `cons` is denied, and then the run is over
  pub sum_exhausted : run (arena_rule 3) sum_program (pos 4) 3 one ≡ ok ∷ (ok ∷ (ends 3 (pos 0) 209 0 0 (pos 0 ∷ []) ∷ []))
  pub sum_exhausted_over : answers (arena_rule 3) (load sum_program ∷ (start (pos 4) ∷ (resume 3 one ∷ (stop ∷ (start (pos 4) ∷ []))))) ≡
      ok ∷ (ok ∷ (ends 3 (pos 0) 209 0 0 (pos 0 ∷ []) ∷ (no 22 ∷ (ok ∷ []))))
  pub sum_over_quota : run (quota_rule 2 (arena_rule 4)) sum_program (pos 4) 3 one ≡ ok ∷ (ok ∷ (ends 3 (pos 0) 209 0 0 (pos 0 ∷ []) ∷ []))
  -- 64 calls can be unfinished, `main` counted
  pub deep_spent : run (arena_rule 0) deep_program (pos 1) 62 one ≡ ok ∷ (ok ∷ (ends 1 (pos 0) 32 62 0 (pos 0 ∷ []) ∷ []))
  pub deep_too_deep : run (arena_rule 0) deep_program (pos 1) 63 one ≡ ok ∷ (ok ∷ (ends 4 (pos 0) 32 63 0 (pos 0 ∷ []) ∷ []))
  -- 64 regions can be open: the 65th is denied at its `region`
  pub regions_exhausted : run (arena_rule 0) opening_program (pos 1) 63 [] ≡ ok ∷ (ok ∷ (ends 3 (pos 0) 29 33 0 [] ∷ []))
  -- a callee's region name means the position handed over, and not that of a like name
  pub handed_over : run (quota_rule 2 (arena_rule 4)) handing_program (pos 4) 1 one ≡ ok ∷ (ok ∷ (ends 0 (pos 0) 0 1 0 (pos 0 ∷ []) ∷ []))
  -- a region that was left is out of the account
  pub one_by_one : run (arena_rule 2) twice_program (pos 4) 0 one ≡ ok ∷ (ok ∷ (ends 0 (pos 4) 0 0 0 (pos 0 ∷ []) ∷ []))
  pub not_even_one : run (arena_rule 1) twice_program (pos 4) 0 one ≡ ok ∷ (ok ∷ (ends 3 (pos 0) 71 0 0 (pos 0 ∷ []) ∷ []))
  -- -7 by 2 gives -3 and -1, by 0 nothing, and 2147483647 plus 1 is -2147483648
  pub cut_ends : run (arena_rule 0) cut_program (pos 2) 0 two ≡ ok ∷ (ok ∷ (ends 0 (negsuc 2147483647) 0 0 2 (negsuc 2 ∷ (negsuc 0 ∷ [])) ∷ []))
  pub cut_by_zero : run (arena_rule 0) cut_program (pos 0) 0 two ≡ ok ∷ (ok ∷ (ends 5 (pos 0) 32 0 0 two ∷ []))
  pub cut_by_zero_over : answers (arena_rule 0) (load cut_program ∷ (start (pos 0) ∷ (resume 0 two ∷ (stop ∷ (start (pos 0) ∷ []))))) ≡
      ok ∷ (ok ∷ (ends 5 (pos 0) 32 0 0 two ∷ (no 22 ∷ (ok ∷ []))))
  -- 3 is below 65536 and they are subtracted; 65536 is not, and its square is 0 in 32 bits; and 0 divides nothing, behind two prints
  pub pick_less : run (arena_rule 0) pick_program (pos 3) 1 two ≡ ok ∷ (ok ∷ (ends 0 (negsuc 0) 0 1 2 (negsuc 65532 ∷ (pos 0 ∷ [])) ∷ []))
  pub pick_equal : run (arena_rule 0) pick_program (pos 65536) 1 two ≡ ok ∷ (ok ∷ (ends 0 (pos 0) 0 1 2 two ∷ []))
  pub pick_zero : run (arena_rule 0) pick_program (pos 0) 1 two ≡ ok ∷ (ok ∷ (ends 5 (pos 0) 212 1 2 (negsuc 65535 ∷ (pos 0 ∷ [])) ∷ []))
  -- a number equals itself, and not its negative; -2147483648 minus 1 is 2147483647; 7 by -2 gives -3 and 1
  pub equal : calculated eq (negsuc 4) (negsuc 4) ≡ pos 1
  pub not_equal : calculated eq (pos 5) (negsuc 4) ≡ pos 0
  pub difference_corner : calculated sub (negsuc 2147483647) (pos 1) ≡ pos 2147483647
  pub quotient_by_negative : calculated div (pos 7) (negsuc 1) ≡ negsuc 2
  pub remainder_by_negative : calculated rem (pos 7) (negsuc 1) ≡ pos 1
  pub quotient_corner : calculated div (negsuc 2147483647) (negsuc 0) ≡ negsuc 2147483647
  pub remainder_corner : calculated rem (negsuc 2147483647) (negsuc 0) ≡ pos 0
  -- the calls' own questions, and a list that is full
  pub refusals : answers (arena_rule 4)
      (start (pos 4) ∷ (resume 1 one ∷ (stop ∷ (load sum_program ∷ (start (pos 4) ∷ (resume 3 [] ∷ (load None ∷ (start (pos 1) ∷ (resume 3 one ∷ (stop ∷ [])))))))))) ≡
      no 21 ∷ (no 22 ∷ (no 22 ∷ (ok ∷ (ok ∷ (ends 2 (pos 0) 223 0 0 [] ∷ (no 20 ∷ (no 20 ∷ (ends 0 (pos 7) 0 3 1 (pos 4 ∷ []) ∷ (no 22 ∷ [])))))))))
  pub too_many : answers (arena_rule 0) (load deep_program ∷ (start (pos 1) ∷ (resume 1 [] ∷ (resume 4294967295 [] ∷ (resume 4294967294 [] ∷ (stop ∷ [])))))) ≡
      ok ∷ (ok ∷ (ends 1 (pos 0) 32 1 0 [] ∷ (no 24 ∷ (ends 4 (pos 0) 32 62 0 [] ∷ (no 22 ∷ [])))))
  -- the empty program takes the place of a loaded one
  pub unloaded : answers (arena_rule 0) (load sum_program ∷ (load None ∷ (start (pos 0) ∷ []))) ≡ ok ∷ (ok ∷ (no 21 ∷ []))
  -- a list must not outlive its region, and an empty text has no function
  pub region_escapes : outcome "fun main(n: int): int { let p = region a { let q = nil@a(int); q }; n }" ≡ checked.refused 14 63
  pub no_text : outcome "" ≡ checked.refused 6 0
  -- the list of 3 and 4 in the region at position 1
  pub list_read : Reads ([] ∷ ((4 ∷ (0 ∷ (3 ∷ (reference 1 0 ∷ [])))) ∷ [])) (record { name = codes "a"; position = 1 } ∷ []) (list (codes "a") int) (reference 1 2)
      (link (number (pos 3)) (link (number (pos 4)) empty))
