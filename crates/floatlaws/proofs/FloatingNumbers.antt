-- Floating numbers, as the statement has them: the laws, and worked steps of which each side computes
-- to the other.
use mathlib.Core.Path.{refl}
use Rattle.machine.specs.TriedValues.{I, A, R, memory_with, kernel_desk, ran_on}
use Rattle.machine.specs.PagesWithoutCommands.{pages_memory, pages_registers, pages_desk, pages_ran}
use Rattle.machine.proofs.WholeStep.{whole_step}
use Rattle.floatlaws.specs.FloatingNumbers.{short_ran, long_ran, long_moved, raising, FloatingNumbers}
use Rattle.floatlaws.proofs.Cases.{case_a, case_b, case_c_and_d, case_e, all_cases}
use Rattle.floatlaws.proofs.Nan.{nan_bits, nan_flags, nan_result, nan_first, nan_second}
use Rattle.floatlaws.proofs.Numbers.{one_pattern, result_in_kind, result_read_back, result_moved, moved_bits}
use Rattle.floatlaws.proofs.Numbers.{moved_flags, register_keeps}
use Rattle.floatlaws.proofs.Flags.{n_flag, z_flag, v_flag, c_flag, finite_flags, zero_flags, infinity_flags}
use Rattle.floatlaws.proofs.Flags.{n_or_z, n_of_opposite, z_of_opposite, v_of_opposite}
use Rattle.floatlaws.proofs.Order.{nan_compared, compared-n, compared_z, compared_v, compared_c, one_order}
use Rattle.floatlaws.proofs.Order.{values_in_order, compared_with_zero}

pub floating_numbers : FloatingNumbers
unfolding whole_step I A R memory_with kernel_desk ran_on short_ran long_ran long_moved raising pages_memory pages_registers pages_desk
    pages_ran
floating_numbers = record {
  case_a = case_a;
  case_b = case_b;
  case_c_and_d = case_c_and_d;
  case_e = case_e;
  all_cases = all_cases;
  nan_bits = nan_bits;
  nan_result = nan_result;
  nan_first = nan_first;
  nan_second = nan_second;
  one_pattern = one_pattern;
  result_in_kind = result_in_kind;
  result_read_back = result_read_back;
  result_moved = result_moved;
  moved_bits = moved_bits;
  moved_flags = moved_flags;
  register_keeps = register_keeps;
  n_flag = n_flag;
  z_flag = z_flag;
  v_flag = v_flag;
  c_flag = c_flag;
  finite_flags = finite_flags;
  zero_flags = zero_flags;
  infinity_flags = infinity_flags;
  nan_flags = nan_flags;
  n_or_z = n_or_z;
  n_of_opposite = n_of_opposite;
  z_of_opposite = z_of_opposite;
  v_of_opposite = v_of_opposite;
  nan_compared = nan_compared;
  compared-n = compared-n;
  compared_z = compared_z;
  compared_v = compared_v;
  compared_c = compared_c;
  one_order = one_order;
  values_in_order = values_in_order;
  compared_with_zero = compared_with_zero;
  add_short = (refl, refl);
  sub_short = (refl, refl);
  mult_short = (refl, refl);
  div_short = (refl, refl);
  add_long = (refl, refl);
  sub_long = (refl, refl);
  mult_long = (refl, refl);
  div_long = (refl, refl);
  tie_down = (refl, refl);
  tie_up = (refl, refl);
  no_tie_short = (refl, refl);
  exact_long = (refl, refl);
  no_tie_long = (refl, refl);
  not_normalized = (refl, refl);
  smallest_halved = (refl, refl);
  thrice_smallest_halved = (refl, refl);
  smallest_long = (refl, refl);
  overflow_short = (refl, refl);
  overflow_below = (refl, refl);
  overflow_long = (refl, refl);
  one_by_zero = (refl, refl);
  one_by_minus_zero = (refl, refl);
  one_by_zero_long = (refl, refl);
  zero_by_zero = (refl, refl);
  zero_by_zero_long = (refl, refl);
  infinity_less_infinity = (refl, refl);
  zero_times_infinity = (refl, refl);
  one_to_nan = (refl, refl);
  zeros_added = (refl, refl);
  one_from_one = (refl, refl);
  three_operands = refl;
  user_mode_lem = refl;
  no_alarm = refl;
  moved_nan = (refl, refl);
  moved_nan_long = (refl, refl);
  moved_minus_zero = (refl, refl);
  moved_smallest = (refl, refl);
  less = (refl, refl);
  equal_zeros = (refl, refl);
  greater = (refl, refl);
  greater_below_zero = (refl, refl);
  equal_infinities = (refl, refl);
  infinities = (refl, refl);
  nan_with_itself = (refl, refl);
  less_long = (refl, refl);
  long_in_r12 = (refl, refl);
  long_in_r13 = (refl, refl);
  long_from_r12 = refl;
  raised_by_8 = refl;
  raised_by_4 = refl;
  long_direct = refl;
  long_direct_second = refl;
  long_in_r14 = refl;
  long_from_r14 = refl;
  long_in_r15 = refl;
  short_in_r15 = refl;
  short_from_r15 = refl;
  short_in_r14 = refl;
  short_to_direct = refl;
  unknown_82h = refl;
  unknown_a6h = refl;
  unknown_f_fh = refl;
}
