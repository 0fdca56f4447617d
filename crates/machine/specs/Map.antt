-- Document 01, "Map", with document 02, F-4, "Pages without commands": map entries, the lookup of
-- one byte with alarms 8 to 11 and 21, and the words "damaged", "reached" and "writable reached".
use Rattle.std.specs.Prelude.{ℕ, zero, suc, ◌+◌, ◌-◌, ◌*◌, ◌/◌, ◌%◌, ◌≤◌, ◌<◌, ◌≡◌, Bool, true, false, ◌&&◌, List, [], ◌∷◌, ltb, leb, eqb, length, set}
use Rattle.machine.specs.declared.VirtualAddress.{VirtualAddress}
use Rattle.machine.specs.declared.RealAddress.{RealAddress}
use Rattle.machine.specs.declared.FrameNumber.{FrameNumber}
use Rattle.machine.specs.declared.Access.{Access}
use Rattle.machine.specs.declared.Access.TheVariants.{Fetch, Read, Write}
use Rattle.machine.specs.declared.Alarm.TheVariants as alarms
use Rattle.machine.specs.declared.Map.{Map}
use Rattle.machine.specs.declared.Desk.{Desk}
use Rattle.machine.specs.Words.{pick, Memory, byte_at, word_at, wrap}
use Rattle.machine.specs.Alarms.{OrAlarm, got, alarm, ◌>>=◌}
use Rattle.machine.specs.State.{frame_start, user_mode}

-- ---- Map entries

-- "page p = address div 512"
abbrev pub page_of : VirtualAddress → ℕ
page_of x = x.0 / 512

-- "the four-byte entry at map base + 4 × p"; an entry that is not wholly inside the memory counts
-- for nothing: it reads as absent
unfoldable pub map_entry : Map → Memory → ℕ → ℕ
map_entry map m p = pick (leb (map.base.0 + 4 * p + 4) (length m)) (word_at m (map.base.0 + 4 * p)) 0

-- "Its highest bit (value 80000000h) means present"
-- "An absent entry's other bits mean nothing."
unfoldable pub present : ℕ → Bool
present e = leb 0x8000_0000 e

-- "the next (40000000h) writable"
unfoldable pub writable : ℕ → Bool
writable e = leb 0x4000_0000 (e % 0x8000_0000)

-- F-4: "The map bit of value 20000000h now forbids fetching from a page"
unfoldable pub fetchable : ℕ → Bool
fetchable e = ltb (e % 0x4000_0000) 0x2000_0000

-- "the following six must be 0"; F-4 takes the first of them: "Alarm 10 covers only the five bits
-- below it"
abbrev pub forbidden_bits : ℕ → ℕ
forbidden_bits e = e / 0x100_0000 % 0x20

-- "the low 24 bits are the frame number"
unfoldable pub frame_of : ℕ → FrameNumber
frame_of e = record { 0 = e % 0x100_0000 }

-- "An entry is damaged when 10 would refuse it": a present entry e, in a memory of n bytes, is not
unfoldable pub undamaged : ℕ → ℕ → Bool
undamaged n e = eqb (forbidden_bits e) 0 && leb (frame_start (frame_of e) + 512) n

-- ---- The lookup of one byte

-- the byte found, and where
pub record Found : Type 0 where
  pub real : RealAddress
  pub byte : ℕ

abbrev pub found_at : Memory → RealAddress → Found
found_at m a = record { real = a; byte = byte_at m a.0 }

-- the byte of a frame that a virtual address names
unfoldable pub in_frame : FrameNumber → VirtualAddress → RealAddress
in_frame f x = record { 0 = frame_start f + x.0 % 512 }

-- 11: "a write meets an entry that isn't writable"
unfoldable pub allows_write : Access → ℕ → Bool
allows_write Fetch e = true
allows_write Read e = true
allows_write Write e = writable e

-- 21: "a command or operand byte fetched there"; "reading stays allowed", and writing is 11's
unfoldable pub allows_fetch : Access → ℕ → Bool
allows_fetch Fetch e = fetchable e
allows_fetch Read e = true
allows_fetch Write e = true

-- "For one byte 8 to 11 are tried in number order", and 21, which F-4 wants "tried after 10", after
-- them (no byte is both written and fetched); their argument is "the byte's address". The tests:
-- the page is below the map length, the entry present, undamaged, open to writing if the byte is
-- written, open to fetching if it is fetched
unfoldable pub in_number_order : Bool → Bool → Bool → Bool → Bool → VirtualAddress → Found → OrAlarm Found
in_number_order false there whole write fetch x f = alarm alarms.Address x.0
in_number_order true false whole write fetch x f = alarm alarms.Absent x.0
in_number_order true true false write fetch x f = alarm alarms.MapEntry x.0
in_number_order true true true false fetch x f = alarm alarms.ReadOnly x.0
in_number_order true true true true false x f = alarm alarms.NoFetch x.0
in_number_order true true true true true x f = got f

-- what a command sees of the memory: for each address and reason the byte, or an alarm. F-4: "The
-- lookup must therefore be told why a byte is wanted." Fetched are the bytes of a command: its
-- command byte, and each of an operand's six; all others are read or written
abbrev pub View : Type 0
View = VirtualAddress → Access → OrAlarm Found

-- user mode
unfoldable pub mapped : Map → Memory → View
mapped map m x w = let e = map_entry map m (page_of x) in
    in_number_order (ltb (page_of x) map.length) (present e) (undamaged (length m) e) (allows_write w e)
    (allows_fetch w e) x (found_at m (in_frame (frame_of e) x))

-- "In kernel mode an address is real"
abbrev pub real_of : VirtualAddress → RealAddress
real_of x = record { 0 = x.0 }

-- kernel mode
unfoldable pub unmapped : Memory → View
unmapped m x w = pick (ltb x.0 (length m)) (got (found_at m (real_of x))) (alarm alarms.Address x.0)

-- by status and map
unfoldable pub view_by : ℕ → Map → Memory → View
view_by s map m = pick (user_mode s) (mapped map m) (unmapped m)

abbrev pub view_of : Desk → Memory → View
view_of d m = view_by d.status d.map m

-- ---- Several bytes

-- L bytes from an address on, highest first, after those that make up acc
unfoldable pub read_from : View → Access → ℕ → ℕ → ℕ → OrAlarm ℕ
read_from v w zero a acc = got acc
read_from v w (suc L) a acc = do
  f ← v (record { 0 = wrap a }) w
  read_from v w L (a + 1) (acc * 256 + f.byte)

abbrev pub read_bytes : View → Access → ℕ → VirtualAddress → OrAlarm ℕ
read_bytes v w L x = read_from v w L x.0 0

-- what a command writes, in order
abbrev pub VirtualWrites : Type 0
VirtualWrites = List (VirtualAddress × ℕ)

-- and where that lies in memory
abbrev pub RealWrites : Type 0
RealWrites = List (RealAddress × ℕ)

-- some bytes to the addresses from a on
unfoldable pub writes_from : ℕ → List ℕ → VirtualWrites
writes_from a [] = []
writes_from a (b ∷ bs) = (record { 0 = wrap a }, b) ∷ writes_from (a + 1) bs

unfoldable pub real_writes_from : ℕ → List ℕ → RealWrites
real_writes_from a [] = []
real_writes_from a (b ∷ bs) = (record { 0 = a }, b) ∷ real_writes_from (suc a) bs

-- each write looked up, or the first alarm
unfoldable pub located : View → VirtualWrites → OrAlarm RealWrites
located v [] = got []
located v (w ∷ ws) = do
  f ← v w.0 Write
  rest ← located v ws
  got ((f.real, w.1) ∷ rest)

-- the memory after some writes
unfoldable pub commit : RealWrites → Memory → Memory
commit [] m = m
commit (w ∷ ws) m = commit ws (set m w.0.0 w.1)

-- ---- The words of the paper

-- entry p of the map of memory m names frame f: "a present, undamaged entry with p below the map
-- length names it"
pub record Names (map : Map) (m : Memory) (p : ℕ) (f : FrameNumber) : Type 0 where
  pub below : p < map.length
  pub there : present (map_entry map m p) ≡ true
  pub whole : undamaged (length m) (map_entry map m p) ≡ true
  pub frame : frame_of (map_entry map m p) ≡ f

-- "A frame is reached"; F-4, of pages without commands: "Such pages are still reached frames"
pub record Reached (map : Map) (m : Memory) (f : FrameNumber) : Type 0 where
  pub page : ℕ
  pub names : Names map m page f

-- "Such an entry with the writable bit is a writable entry, and a frame that it names is a writable
-- reached frame"
pub record WritableReached (map : Map) (m : Memory) (f : FrameNumber) : Type 0 where
  pub page : ℕ
  pub names : Names map m page f
  pub write : writable (map_entry map m page) ≡ true

-- the byte at place a belongs to the map: "The map's bytes run from map base up to, but not
-- including, map base + 4 × map length; a frame holds part of the map when one of them lies in it.
-- For these words and in demand 3, bytes past the memory, and entries not wholly inside it, count
-- for nothing.": so the entry that the byte is part of lies inside
pub record InMap (map : Map) (m : Memory) (a : ℕ) : Type 0 where
  pub low : map.base.0 ≤ a
  pub high : a < map.base.0 + 4 * map.length
  pub inside : map.base.0 + 4 * ((a - map.base.0) / 4) + 4 ≤ length m
