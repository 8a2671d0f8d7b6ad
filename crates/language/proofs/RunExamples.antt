-- The worked examples hold by computing both sides.
use Rattle.std.proofs.Common.{refl, arith}
use Rattle.language.specs.Reads.{reads_number, reads_empty, reads_link, reference}
use Rattle.language.specs.RunExamples.{Worked}

pub worked : Worked
worked = record {
  sum_ends = refl;
  sum_spent = refl;
  sum_goes_on = refl;
  sum_exhausted = refl;
  sum_exhausted_over = refl;
  sum_over_quota = refl;
  deep_spent = refl;
  deep_too_deep = refl;
  regions_exhausted = refl;
  handed_over = refl;
  one_by_one = refl;
  not_even_one = refl;
  cut_ends = refl;
  cut_by_zero = refl;
  cut_by_zero_over = refl;
  pick_less = refl;
  pick_equal = refl;
  pick_zero = refl;
  equal = refl;
  not_equal = refl;
  difference_corner = refl;
  quotient_by_negative = refl;
  remainder_by_negative = refl;
  quotient_corner = refl;
  remainder_corner = refl;
  refusals = refl;
  too_many = refl;
  unloaded = refl;
  region_escapes = refl;
  no_text = refl;
  list_read =
      reads_link 3 (reference 1 0) (omega arith) refl refl refl (reads_number refl)
      (reads_link 4 0 (omega arith) refl refl refl (reads_number refl) (reads_empty refl));
}
