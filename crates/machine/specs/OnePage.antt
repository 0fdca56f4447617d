-- Document 02, F-7: "Where the four bytes of a word operand lie in one page, look the page up once
-- and take the word whole [..] Show that the first byte's lookup answers for all four: its alarm
-- with its address, or four adjoining real bytes." Here it is stated, for any number of bytes in
-- one page, every reason of access and both modes. The proof is `one_page` of proofs/OnePage.antt.
use Rattle.std.specs.Prelude.{ℕ, ◌+◌, ◌-◌, ◌*◌, ◌%◌, ◌<◌, ◌≤◌, ◌≡◌, false, List, [], ◌∷◌, ltb, length, replicate}
use Rattle.std.proofs.lemmas.List.Edits.{sets}
use Rattle.machine.specs.declared.Access.{Access}
use Rattle.machine.specs.declared.Access.TheVariants.{Read, Write}
use Rattle.machine.specs.declared.Alarm.{Alarm}
use Rattle.machine.specs.declared.Alarm.TheVariants as alarms
use Rattle.machine.specs.declared.Map.{Map}
use Rattle.machine.specs.declared.VirtualAddress.{VirtualAddress}
use Rattle.machine.specs.Words.{pick, Memory, bytes_of_words, value_at, word_at, wrap}
use Rattle.machine.specs.State.{user_mode}
use Rattle.machine.specs.Alarms.{OrAlarm, got, alarm}
use Rattle.machine.specs.Map.{page_of, Found, found_at, real_of, RealWrites, view_by, read_bytes, writes_from}
use Rattle.machine.specs.Map.{real_writes_from, located}

-- the n bytes from address x on lie in one page; `same_page` and `next_page` below say so in the
-- paper's words, "page p = address div 512"
abbrev pub InOnePage : VirtualAddress → ℕ → Type 0
InOnePage x n = x.0 % 512 + n ≤ 512

-- "Addresses and register steps wrap modulo 2^32": the address k bytes further on
abbrev pub address_on : VirtualAddress → ℕ → VirtualAddress
address_on x k = record { 0 = wrap (x.0 + k) }

-- ---- What the first byte's lookup tells of the others: from memory m, by its answer

-- of the byte k further on: it lies k further on in memory too; or it has the same alarm, with its
-- own address
abbrev pub answer_on : Memory → ℕ → OrAlarm Found → OrAlarm Found
answer_on m k (got f) = got (found_at m (record { 0 = f.real.0 + k }))
answer_on m k (alarm q a) = alarm q (a + k)

-- of the number that n bytes make up: "four adjoining real bytes", or "its alarm with its address"
abbrev pub whole_value : Memory → ℕ → OrAlarm Found → OrAlarm ℕ
whole_value m n (got f) = got (value_at m n f.real.0 0)
whole_value m n (alarm k a) = alarm k a

-- of a word
abbrev pub whole_word : Memory → OrAlarm Found → OrAlarm ℕ
whole_word m (got f) = got (word_at m f.real.0)
whole_word m (alarm k a) = alarm k a

-- of bytes that are to be written
abbrev pub whole_writes : List ℕ → OrAlarm Found → OrAlarm RealWrites
whole_writes bs (got f) = got (real_writes_from f.real.0 bs)
whole_writes bs (alarm k a) = alarm k a

-- ---- The statement

-- n bytes in one page, at least one, from an address on, in a memory of whole frames (number 1
-- makes sure of it; only kernel mode needs it). In user mode the map puts them all into one frame,
-- or refuses them all alike. In kernel mode an address is real and no page is looked up; there
-- `page` asks that they lie in one frame, and a memory of whole frames holds all of it or nothing
pub record Together (m : Memory) (x : VirtualAddress) (n : ℕ) : Type 0 where
  pub frames : length m % 512 ≡ 0
  pub address : x.0 < 0x1_0000_0000
  pub some : 0 < n
  pub page : InOnePage x n

-- for the examples: 1,536 bytes; the map at 0 has page 0, frame 2; page 1, frame 1; page 2, absent.
-- Page 0 ends with the bytes 1, 2, 3, 4, at 1532; page 1 begins with 5, 6, 7, 8, at 512
abbrev pub small_map : Map
small_map = record { base = record { 0 = 0 }; length = 3 }

unfoldable pub small_memory : Memory
small_memory = sets (sets (sets (replicate 1536 0) 0 (bytes_of_words (0xC000_0002 ∷ 0x8000_0001 ∷ 0x0000_0002 ∷ [])))
    512 (5 ∷ 6 ∷ 7 ∷ 8 ∷ [])) 1532 (1 ∷ 2 ∷ 3 ∷ 4 ∷ [])

pub record OnePage : Type 0 where
  -- the lookup of each byte is told by the first one's
  pub each : (s : ℕ) (map : Map) (m : Memory) (x : VirtualAddress) (w : Access) (n k : ℕ) → Together m x n → k < n
      → view_by s map m (address_on x k) w ≡ answer_on m k (view_by s map m x w)
  -- "its alarm with its address": an alarm's argument is the address that was looked up
  pub own_address : (s : ℕ) (map : Map) (m : Memory) (x : VirtualAddress) (w : Access) (k : Alarm) (a : ℕ)
      → view_by s map m x w ≡ alarm k a → a ≡ x.0
  -- "four adjoining real bytes": where the first is found, memory has them all, in the frame of the
  -- first: it lies as far in its frame as in its page
  pub inside : (s : ℕ) (map : Map) (m : Memory) (x : VirtualAddress) (w : Access) (n : ℕ) (f : Found)
      → Together m x n → view_by s map m x w ≡ got f → f.real.0 + n ≤ length m
  pub in_frame_lem : (s : ℕ) (map : Map) (m : Memory) (x : VirtualAddress) (w : Access) (f : Found)
      → view_by s map m x w ≡ got f → f.real.0 % 512 ≡ x.0 % 512
  -- so a value, a word, and a row of bytes to be written are told by one lookup
  pub value : (s : ℕ) (map : Map) (m : Memory) (x : VirtualAddress) (w : Access) (n : ℕ) → Together m x n
      → read_bytes (view_by s map m) w n x ≡ whole_value m n (view_by s map m x w)
  pub word : (s : ℕ) (map : Map) (m : Memory) (x : VirtualAddress) (w : Access) → Together m x 4
      → read_bytes (view_by s map m) w 4 x ≡ whole_word m (view_by s map m x w)
  pub writes : (s : ℕ) (map : Map) (m : Memory) (x : VirtualAddress) (bs : List ℕ) → Together m x (length bs)
      → located (view_by s map m) (writes_from x.0 bs) ≡ whole_writes bs (view_by s map m x Write)
  -- ---- one page, in the paper's words: all bytes have the page of the first; and where they do not
  -- fit into it, the first that is past it has another
  pub same_page : (x : VirtualAddress) (n k : ℕ) → x.0 < 0x1_0000_0000 → InOnePage x n → k < n
      → page_of (address_on x k) ≡ page_of x
  pub next_page : (x : VirtualAddress) (n : ℕ) → x.0 < 0x1_0000_0000 → 512 < x.0 % 512 + n
      → page_of (address_on x (512 - x.0 % 512)) ≡ page_of x → ⊥
  -- ---- addresses that wrap: such bytes are never in one page. On a desk that numbers 1 and 4 do
  -- not refuse, up to 512 of them are never read or written: the first has alarm 8, and the first
  -- alarm ends the read or write (those after the wrap may well be found)
  pub wraps_apart : (x : VirtualAddress) (n : ℕ) → x.0 < 0x1_0000_0000 → 0x1_0000_0000 < x.0 + n
      → InOnePage x n → ⊥
  pub wraps_read : (s : ℕ) (map : Map) (m : Memory) (x : VirtualAddress) (w : Access) (n : ℕ)
      → length m ≤ 16777216 → map.base.0 + 4 * map.length ≤ length m
      → x.0 < 0x1_0000_0000 → n ≤ 512 → 0x1_0000_0000 < x.0 + n
      → read_bytes (view_by s map m) w n x ≡ alarm alarms.Address x.0
  pub wraps_written : (s : ℕ) (map : Map) (m : Memory) (x : VirtualAddress) (bs : List ℕ)
      → length m ≤ 16777216 → map.base.0 + 4 * map.length ≤ length m
      → x.0 < 0x1_0000_0000 → length bs ≤ 512 → 0x1_0000_0000 < x.0 + length bs
      → located (view_by s map m) (writes_from x.0 bs) ≡ alarm alarms.Address x.0
  -- ---- kernel mode: "an address is real". Bytes inside the memory adjoin there in any case, in one
  -- page or not
  pub kernel_mode : (s : ℕ) (map : Map) (m : Memory) (x : VirtualAddress) (w : Access) → user_mode s ≡ false
      → view_by s map m x w ≡ pick (ltb x.0 (length m)) (got (found_at m (real_of x))) (alarm alarms.Address x.0)
  pub kernel_value : (s : ℕ) (map : Map) (m : Memory) (x : VirtualAddress) (w : Access) (n : ℕ) → user_mode s ≡ false
      → length m ≤ 0x1_0000_0000 → x.0 + n ≤ length m
      → read_bytes (view_by s map m) w n x ≡ got (value_at m n x.0 0)
  -- ---- examples, in user mode: the last word of page 0
  pub last_word : (view_by 0 small_map small_memory (record { 0 = 508 }) Read
      ≡ got (found_at small_memory (record { 0 = 1532 })))
      × (read_bytes (view_by 0 small_map small_memory) Read 4 (record { 0 = 508 }) ≡ got (word_at small_memory 1532))
  -- "a W at user address 510 needs pages 0 and 1": its first byte is found at 1534, its last at 513
  pub two-pages : (view_by 0 small_map small_memory (record { 0 = 510 }) Read
      ≡ got (found_at small_memory (record { 0 = 1534 })))
      × (read_bytes (view_by 0 small_map small_memory) Read 4 (record { 0 = 510 }) ≡ got 0x0304_0506)
  -- and at 1022 pages 1 and 2: its first byte is found, but it has alarm 9, at 1024
  pub page_needed : (view_by 0 small_map small_memory (record { 0 = 1022 }) Read
      ≡ got (found_at small_memory (record { 0 = 1022 })))
      × (read_bytes (view_by 0 small_map small_memory) Read 4 (record { 0 = 1022 }) ≡ alarm alarms.Absent 1024)
  -- kernel mode, a memory that number 1 refuses: of 514 bytes the one at 512 is found, but the word
  -- there has alarm 8, at 514
  pub frames_needed : (view_by 0x8000_0000 small_map (replicate 514 0) (record { 0 = 512 }) Read
      ≡ got (found_at (replicate 514 0) (record { 0 = 512 })))
      × (read_bytes (view_by 0x8000_0000 small_map (replicate 514 0)) Read 4 (record { 0 = 512 })
      ≡ alarm alarms.Address 514)
