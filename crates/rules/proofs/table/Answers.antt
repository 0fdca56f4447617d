-- `table` is right: the constant table is the table of command bytes, each byte's rules as one
-- number.
use mathlib.Core.Path.{refl}
use Rattle.machine.specs.Code.{table, known_in, known}
use Rattle.machine.specs.FloatCode.{float_table, known_float_in, known_float}
use Rattle.rules.specs.Rules.{numbers_from, float_numbers_from, table_of}
use Rattle.rules.proofs.table.Goals as goal

pub invariant_of-result : goal.invariant_of-result
unfolding table known_in known float_table known_float_in known_float numbers_from float_numbers_from table_of
invariant_of-result c = record { right = refl }
