-- To compute whole steps: a proof that names `whole_step` on its `unfolding` line has every
-- definition unfolded that a step computes with.
use lib.Ieee.{of_bits, to_bits, add, sub, mul, div, lt, eq, is_nan}
use Rattle.machine.specs.declared.Desk.{Desk}
use Rattle.machine.specs.Words.{Memory, bytes_of, bytes_of_words, word_at, words_at}
use Rattle.machine.specs.State.{allowed_length, with_flags, valid_status, valid_user_status, valid_kernel_status}
use Rattle.machine.specs.State.{is_pending, with_level, without_level, system_block_of, registers_from, saved_bytes}
use Rattle.machine.specs.State.{block_fits}
use Rattle.machine.specs.Map.{map_entry, present, writable, fetchable, frame_of, undamaged, in_frame, allows_write}
use Rattle.machine.specs.Map.{allows_fetch, in_number_order, mapped, unmapped, view_by, read_from, writes_from}
use Rattle.machine.specs.Map.{real_writes_from, located, commit}
use Rattle.machine.specs.Code.{table, known_in, known}
use Rattle.machine.specs.Operands.{fields_at, keeps_rules, by_form, operand_at, value_in, address_in, target_in}
use Rattle.machine.specs.Operands.{taken_by, with_taken, operands_from}
use Rattle.machine.specs.Integers.{negative, signed, fits, modulo, result_of, complement, added, subtracted}
use Rattle.machine.specs.Integers.{multiplied, divided, shifted_left, shifted_right, shifted, rotated, operate}
use Rattle.machine.specs.Integers.{compared}
use Rattle.machine.specs.Floats.{infinite, number_flags, computed, arithmetic, moved_float, compared_floats}
use Rattle.machine.specs.FloatCode.{float_table, known_float_in, known_float, excluded, float_operand_at}
use Rattle.machine.specs.FloatCode.{bits_in_register, bits_to_register, float_in, float_taken_by, float_operands_from}
use Rattle.machine.specs.Commands.{kept_rest, stored, pushed, popped, called, returned, jumps, common_done}
use Rattle.machine.specs.Commands.{known_or12, allowed_in_user_mode, allowed_in_kernel_mode, completion_of, command_by}
use Rattle.machine.specs.Commands.{user_effect, user_command, kernel_effect, kernel_command, float_stored}
use Rattle.machine.specs.Commands.{float_done, float_command}
use Rattle.machine.specs.Steps.{stop, halt, completed, due, user_written, of_user_command, interrupted, user_plan}
use Rattle.machine.specs.Steps.{enter_if, concluded, user_step, resume, kernel_written, of_kernel_command}
use Rattle.machine.specs.Steps.{kernel_step, one_step}
use Rattle.machine.specs.Calls.{passes5, first_refused, step_refusal, unchanged, unless_refused, step_outcome}
use Rattle.machine.specs.Calls.{Stepped, step_of}

unfoldable pub whole_step : Desk → Memory → Stepped
unfolding bytes_of bytes_of_words word_at words_at allowed_length with_flags valid_status valid_user_status valid_kernel_status
    is_pending with_level without_level system_block_of registers_from saved_bytes block_fits map_entry present writable
    fetchable frame_of undamaged in_frame allows_write allows_fetch in_number_order mapped unmapped view_by read_from
    writes_from real_writes_from located commit table known_in known fields_at keeps_rules by_form operand_at value_in
    address_in target_in taken_by with_taken operands_from negative signed fits modulo result_of complement added subtracted
    multiplied divided shifted_left shifted_right shifted rotated operate compared kept_rest stored pushed popped called
    returned jumps common_done known_or12 allowed_in_user_mode allowed_in_kernel_mode completion_of command_by user_effect
    user_command kernel_effect kernel_command stop halt completed due user_written of_user_command interrupted user_plan
    enter_if concluded user_step resume kernel_written of_kernel_command kernel_step one_step passes5 first_refused
    step_refusal unchanged unless_refused step_outcome step_of of_bits to_bits add sub mul div lt eq is_nan infinite
    number_flags computed arithmetic moved_float compared_floats float_table known_float_in known_float excluded
    float_operand_at bits_in_register bits_to_register float_in float_taken_by float_operands_from float_stored float_done float_command
whole_step d m = step_of d m
