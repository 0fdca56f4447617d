-- What a lookup says, and what it asks of an entry, in the terms of `machine`.
use Rattle.std.specs.Prelude.{ℕ, ◌+◌, ◌*◌, ◌/◌, ◌%◌, ◌<◌, ◌≤◌, ◌≡◌, not, ◌||◌, ltb, leb, eqb, length, Option, Some, None, Result, Ok, Err}
use Rattle.machine.specs.declared.RealAddress.{RealAddress}
use Rattle.machine.specs.declared.VirtualAddress.{VirtualAddress}
use Rattle.machine.specs.declared.Access.{Access}
use Rattle.machine.specs.declared.Access.TheVariants.{Fetch, Read, Write}
use Rattle.machine.specs.declared.Alarm.{Alarm}
use Rattle.machine.specs.declared.Alarm.TheVariants as alarms
use Rattle.machine.specs.declared.Fault.{Fault}
use Rattle.machine.specs.declared.Map.{Map}
use Rattle.machine.specs.Words.{pick, Memory, lowered}
use Rattle.machine.specs.Alarms.{OrAlarm, got, alarm, answered}
use Rattle.machine.specs.Map.{forbidden_bits, Found, found_at, View, view_by}
use Rattle.machine.specs.OnePage.{InOnePage}

-- what a lookup relies on, part of what numbers 1 and 4 make sure of
pub record Fits (map : Map) (m : Memory) : Type 0 where
  pub inside : map.base.0 + 4 * map.length ≤ length m
  pub small : length m ≤ 16777216
  pub whole : length m % 512 ≡ 0

-- the frame number of an entry that allows an access, and of any other a number past every frame: the
-- bits that must be set are taken off, and those that do not matter to the access
abbrev pub frame_for : Access → ℕ → ℕ
frame_for Fetch e = let a = lowered e 0x8000_0000 in let b = lowered e 0xC000_0000 in pick (ltb a b) a b
frame_for Read e =
    let low = lowered e 0x8000_0000 in
    low % 0x2000_0000 + low / 0x8000_0000 * 0x8000_0000
frame_for Write e = let a = lowered e 0xC000_0000 in let b = lowered e 0xE000_0000 in pick (ltb a b) a b

-- the alarm of an entry that is sound but does not allow an access; each sound one allows reading, so
-- that of reading is never asked
abbrev pub closed_to : Access → Alarm
closed_to Fetch = alarms.NoFetch
closed_to Read = alarms.MapEntry
closed_to Write = alarms.ReadOnly

-- the alarm of an entry that does not allow an access, in a memory with so many frames
abbrev pub refused_for : Access → ℕ → ℕ → Alarm
refused_for w e frames =
    pick (ltb e 0x8000_0000) alarms.Absent
    (pick (not (eqb (forbidden_bits e) 0) || leb frames (e % 0x100_0000)) alarms.MapEntry (closed_to w))

-- a lookup in memory m
abbrev pub lookup_as : Memory → Result RealAddress Fault → OrAlarm Found
lookup_as m r = answered (found_at m) r

-- n bytes from x on, through view v of memory m: where they lie in one page, what the lookup of the
-- first says, which answers for all of them (`OnePage` of `machine`); apart: they do not
abbrev pub WholeOf : View → Memory → VirtualAddress → ℕ → Access → Result (Option RealAddress) Fault → Type 0
WholeOf v m x n w (Ok (Some a)) = InOnePage x n × (v x w ≡ got (found_at m a))
WholeOf v m x n w (Err e) = InOnePage x n × (v x w ≡ alarm e.alarm e.argument)
WholeOf v m x n w (Ok None) = 512 < x.0 % 512 + n

-- in every memory of whole frames, in either mode and for every reason: where the byte at start is
-- found at that place, the byte at x is found at a
pub record FoundFrom (start : VirtualAddress) (found : RealAddress) (x : VirtualAddress)
    (a : RealAddress) : Type 0 where
  pub hit : (s : ℕ) (map : Map) (m : Memory) (w : Access) → length m % 512 ≡ 0
      → view_by s map m start w ≡ got (found_at m found) → view_by s map m x w ≡ got (found_at m a)

-- n bytes from x on lie in the page, and the first is found so
abbrev pub FoundBeside : VirtualAddress → RealAddress → VirtualAddress → ℕ → Option RealAddress → Type 0
FoundBeside start found x n (Some a) = InOnePage x n × FoundFrom start found x a
FoundBeside start found x n None = Unit {0}
