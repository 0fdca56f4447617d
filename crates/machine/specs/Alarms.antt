-- Document 01, "Numbers 1 to 16", 8 to 15, and document 02, F-4, 21: the alarms, each with its
-- number and its cause; a part of a command gives a value, or an alarm with its argument.
use Rattle.std.specs.Prelude.{ℕ, Result, Ok, Err}
use Rattle.machine.specs.declared.Alarm.{Alarm}
use Rattle.machine.specs.declared.Alarm.TheVariants as alarms
use Rattle.machine.specs.declared.Fault.{Fault}

-- an alarm's number, and the cause of the kernel entry that it makes, which is the entry of the
-- system block too
pub record AlarmNumbers : Type 0 where
  pub number : ℕ
  pub cause : ℕ

-- the cause is "the alarm number otherwise"
abbrev pub its_own_cause : ℕ → AlarmNumbers
its_own_cause n = record { number = n; cause = n }

abbrev pub alarm_numbers : Alarm → AlarmNumbers
-- "the page is at or past the map length, or in kernel mode the byte lies past the memory"
alarm_numbers alarms.Address = its_own_cause 8
-- "the entry is absent"
alarm_numbers alarms.Absent = its_own_cause 9
-- "a present entry has a forbidden bit, or its frame lies past the memory"
alarm_numbers alarms.MapEntry = its_own_cause 10
-- "a write meets an entry that isn't writable"
alarm_numbers alarms.ReadOnly = its_own_cause 11
-- "the command byte is unknown"
alarm_numbers alarms.Command = its_own_cause 12
-- "HALT or RESUME in user mode, or a system call in kernel mode"
alarm_numbers alarms.Mode = its_own_cause 13
-- "an operand breaks a form rule, or RESUME's block breaks 3 or 4 or its status isn't a valid user
-- status"; F-6: "Alarm 14 also covers form 1 for D and, in form 2, register 15 for F and 14 or 15 for
-- D."
alarm_numbers alarms.Operand = its_own_cause 14
-- "DIV by zero", of integers; F-6: "Division by zero raises no alarm."
alarm_numbers alarms.Divide = its_own_cause 15
-- F-4: "21, alarm for a command or operand byte fetched there, [..] cause and system block entry
-- 2"; entry 21 is that of interrupt level 5
alarm_numbers alarms.NoFetch = record { number = 21; cause = 2 }

abbrev pub alarm_number : Alarm → ℕ
alarm_number a = (alarm_numbers a).number

abbrev pub alarm_cause : Alarm → ℕ
alarm_cause a = (alarm_numbers a).cause

-- "Arguments: 8 to 11 the byte's address, 12 and 13 the command byte, 14 the operand's place from
-- 1, 15 zero."; F-4, of 21: "argument the address". "For one byte 8 to 11 are tried in number
-- order; between parts of a command the order of 'One step' rules."
pub data OrAlarm (A : Type 0) : Type 0 where
  got : A → OrAlarm A
  alarm : Alarm → ℕ → OrAlarm A

-- go on with the value; the first alarm ends it
infixl 10 ◌>>=◌
abbrev pub ◌>>=◌ : {A B : Type 0} → OrAlarm A → (A → OrAlarm B) → OrAlarm B
got a >>= f = f a
alarm k x >>= f = alarm k x

-- the code's answer for a part of a command, whose value stands for what f makes of it
abbrev pub answered : {A B : Type 0} → (A → B) → Result A Fault → OrAlarm B
answered f (Ok x) = got (f x)
answered f (Err e) = alarm e.alarm e.argument
