-- Document 01, "What the desk holds": memory and frames, registers, status word, pending set,
-- system block, control block, mark. The struct is `Desk` of src/lib.rt.
use Rattle.std.specs.Prelude.{ℕ, zero, suc, ◌+◌, ◌-◌, ◌*◌, ◌/◌, ◌%◌, ◌^◌, Bool, true, false, not, ◌&&◌, List, [], ◌∷◌, ◌++◌, ltb, leb, eqb, get_or, take, drop}
use Rattle.machine.specs.declared.RealAddress.{RealAddress}
use Rattle.machine.specs.declared.FrameNumber.{FrameNumber}
use Rattle.machine.specs.declared.Map.{Map}
use Rattle.machine.specs.declared.Mark.{Mark}
use Rattle.machine.specs.declared.Mark.TheVariants.{Running, Stopped}
use Rattle.machine.specs.declared.Desk.{Desk}
use Rattle.machine.specs.Words.{pick, Memory, word_at, bytes_of_words}

-- ---- Memory and frames

-- "a multiple of 512 bytes, from 512 to 16,777,216"
unfoldable pub allowed_length : ℕ → Bool
allowed_length n = eqb (n % 512) 0 && leb 512 n && leb n 16777216

-- "frame f starts at 512 × f"
abbrev pub frame_start : FrameNumber → ℕ
frame_start f = 512 * f.0

-- the frame in which the byte at place a lies
abbrev pub frame_around : ℕ → FrameNumber
frame_around a = record { 0 = a / 512 }

-- ---- Registers: "Sixteen registers of 32 bits travel with the state by value. R14 is the stack
-- pointer SP, R15 the address of the next command."

abbrev pub Registers : Type 0
Registers = List ℕ

abbrev pub reg : Registers → ℕ → ℕ
reg r i = get_or r i 0

-- ---- Status word

-- "80000000h is kernel mode"
abbrev pub user_mode : ℕ → Bool
user_mode s = ltb s 0x8000_0000

-- "bits of value 10h to 80h are the level 0 to 15"
abbrev pub level_of : ℕ → ℕ
level_of s = s / 0x10 % 0x10

-- "N is 8, Z 4, V 2, C 1"
abbrev pub bit : Bool → ℕ → ℕ
bit b w = pick b w 0

abbrev pub flags : Bool → Bool → Bool → Bool → ℕ
flags n z v c = bit n 8 + bit z 4 + bit v 2 + bit c 1

abbrev pub flags_of : ℕ → ℕ
flags_of s = s % 0x10

abbrev pub flag_n : ℕ → Bool
flag_n f = eqb (f / 8 % 2) 1

abbrev pub flag_z : ℕ → Bool
flag_z f = eqb (f / 4 % 2) 1

abbrev pub flag_v : ℕ → Bool
flag_v f = eqb (f / 2 % 2) 1

abbrev pub flag_c : ℕ → Bool
flag_c f = eqb (f % 2) 1

-- the status with other flags, and mode and level as they are
unfoldable pub with_flags : ℕ → ℕ → ℕ
with_flags s f = s / 0x10 * 0x10 + f % 0x10

-- "other bits are 0"
unfoldable pub valid_status : ℕ → Bool
valid_status s = eqb (s % 0x8000_0000 / 0x100) 0

unfoldable pub valid_user_status : ℕ → Bool
valid_user_status s = user_mode s && valid_status s

unfoldable pub valid_kernel_status : ℕ → Bool
valid_kernel_status s = not (user_mode s) && valid_status s

-- ---- Pending set: "bit of value 2^k for level k, level 0 never set"

unfoldable pub is_pending : ℕ → ℕ → Bool
is_pending p k = eqb (p / 2 ^ k % 2) 1

unfoldable pub with_level : ℕ → ℕ → ℕ
with_level p k = pick (is_pending p k) p (p + 2 ^ k)

-- for a level that is pending
unfoldable pub without_level : ℕ → ℕ → ℕ
without_level p k = p - 2 ^ k

-- ---- System block: "256 bytes, entry i at 8 × i holds the new R15 and the new status word"

abbrev pub system_block_bytes : ℕ
system_block_bytes = 256

unfoldable pub system_block_of : Desk → Memory → Memory
system_block_of d m = take system_block_bytes (drop d.system.0 m)

abbrev pub entry_r15 : Memory → ℕ → ℕ
entry_r15 block i = word_at block (8 * i)

abbrev pub entry_status : Memory → ℕ → ℕ
entry_status block i = word_at block (8 * i + 4)

-- ---- Control block: "80 bytes holding R0 to R15 (0 to 63), status (64), argument (68), map base (72), map length in entries (76)"

abbrev pub control_block_bytes : ℕ
control_block_bytes = 80

-- "R0 to R15, status and argument": the bytes that a kernel entry writes
abbrev pub saved_byte_count : ℕ
saved_byte_count = 72

-- k registers from Ri on; a list that lacks one counts as 0 there
unfoldable pub registers_from : ℕ → ℕ → Registers → List ℕ
registers_from zero i r = []
registers_from (suc k) i r = reg r i ∷ registers_from k (suc i) r

-- what a kernel entry saves: R0 to R15, status s and argument x, 72 bytes
unfoldable pub saved_bytes : Registers → ℕ → ℕ → List ℕ
saved_bytes r s x = bytes_of_words (registers_from 16 0 r ++ s ∷ x ∷ [])

-- a block of that many bytes at an address lies in a memory of n bytes, at a multiple of 4
unfoldable pub block_fits : RealAddress → ℕ → ℕ → Bool
block_fits a bytes n = eqb (a.0 % 4) 0 && leb (a.0 + bytes) n

-- the same for a map, an empty one too: four bytes an entry
abbrev pub map_fits : Map → ℕ → Bool
map_fits map n = block_fits map.base (4 * map.length) n

-- ---- Mark: "running, or stopped with a number"

abbrev pub is_running : Mark → Bool
is_running Running = true
is_running (Stopped k) = false

-- ---- The state with new registers, status, pending set and mark, all else as it is

abbrev pub desk_with : Desk → Registers → ℕ → ℕ → Mark → Desk
desk_with d r s p k = record {
  registers = r;
  status = s;
  pending = p;
  map = d.map;
  system = d.system;
  control = d.control;
  mark = k;
}

-- The state with new registers, status, map and control block: what RESUME leaves

abbrev pub desk_resumed : Desk → Registers → ℕ → Map → RealAddress → Desk
desk_resumed d r s map control = record {
  registers = r;
  status = s;
  pending = d.pending;
  map = map;
  system = d.system;
  control = control;
  mark = d.mark;
}
