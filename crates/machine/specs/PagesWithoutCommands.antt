-- Document 02, F-4: "The map bit of value 20000000h now forbids fetching from a page; reading stays
-- allowed." The rules are `fetchable`, `allows_fetch`, `in_number_order` of Map and `alarm_numbers` of
-- Alarms. Here is what they say of every page, and worked steps. The proof is
-- `pages_without_commands` of proofs/PagesWithoutCommands.antt.
use Rattle.std.specs.Prelude.{ℕ, ◌+◌, ◌*◌, ◌<◌, ◌≡◌, true, false, List, [], ◌∷◌, ◌++◌, length, replicate, Ok}
use Rattle.std.proofs.lemmas.List.Edits.{sets}
use Rattle.machine.specs.declared.Access.{Access}
use Rattle.machine.specs.declared.Access.TheVariants.{Fetch, Read, Write}
use Rattle.machine.specs.declared.Alarm.{Alarm}
use Rattle.machine.specs.declared.Alarm.TheVariants as alarms
use Rattle.machine.specs.declared.Desk.{Desk}
use Rattle.machine.specs.declared.FrameNumber.{FrameNumber}
use Rattle.machine.specs.declared.Map.{Map}
use Rattle.machine.specs.declared.Mark.TheVariants.{Running}
use Rattle.machine.specs.declared.StepEvent.TheVariants as step_event
use Rattle.machine.specs.declared.VirtualAddress.{VirtualAddress}
use Rattle.machine.specs.Words.{Memory, bytes_of, bytes_of_words, byte_at, word_at}
use Rattle.machine.specs.State.{Registers, reg, user_mode, level_of, system_block_of, saved_bytes}
use Rattle.machine.specs.Alarms.{alarm_cause, got, alarm}
use Rattle.machine.specs.Map.{page_of, map_entry, present, writable, fetchable, frame_of, undamaged, found_at, in_frame}
use Rattle.machine.specs.Map.{mapped, view_by, Names, Reached, WritableReached}
use Rattle.machine.specs.Steps.{due, enters, concluded, one_step}
use Rattle.machine.specs.Calls.{StepAnswer, Stepped, step_of}
use Rattle.machine.specs.TriedValues.{I, A, R, register_after}

-- ---- Of every page

-- the page of x has an entry with the bit, which 8, 9 and 10 do not refuse
pub record WithoutCommands (map : Map) (m : Memory) (x : VirtualAddress) : Type 0 where
  pub below : page_of x < map.length
  pub there : present (map_entry map m (page_of x)) ≡ true
  pub whole : undamaged (length m) (map_entry map m (page_of x)) ≡ true
  pub closed : fetchable (map_entry map m (page_of x)) ≡ false

-- what a lookup that ends in 21 was
pub record FetchedThere (s : ℕ) (map : Map) (m : Memory) (x : VirtualAddress) (w : Access) (a : ℕ) : Type 0 where
  pub user : user_mode s ≡ true
  pub fetched : w ≡ Fetch
  pub address : a ≡ x.0
  pub page : WithoutCommands map m x

-- ---- Worked steps

-- the map: page 0 is frame 1; 1 and 2 are frame 2 without commands, 1 writable. 3 to 5 have the bit
-- too: 3 is absent, 4 has the highest forbidden bit, the frame of 5 lies past the memory. There is
-- no page 6, but a word behind the map that would make it one without commands
abbrev pub pages : List ℕ
pages = 0x8000_0001 ∷ 0xE000_0002 ∷ 0xA000_0002 ∷ 0x6000_0002 ∷ 0xB000_0002 ∷ 0xA000_0003 ∷ 0xA000_0002 ∷ []

-- 1,536 bytes: entry i alone of the system block holds 100h and a kernel status; the map is at 400;
-- the code stands at a place; frame 2 has the word 01020304h at its byte 100, real address 1124
unfoldable pub pages_memory : ℕ → ℕ → List ℕ → Memory
pages_memory i at code =
    sets (sets (sets (sets (replicate 1536 0) (8 * i) (bytes_of_words (0x100 ∷ 0x8000_0000 ∷ []))) 400
    (bytes_of_words pages)) 1124 (1 ∷ 2 ∷ 3 ∷ 4 ∷ [])) at code

-- R0 to R13 are 0, SP and R15 are given
unfoldable pub pages_registers : ℕ → ℕ → Registers
pages_registers sp r15 = replicate 14 0 ++ sp ∷ r15 ∷ []

-- running, with that map; system block at 0, control block at 256
unfoldable pub pages_desk : ℕ → ℕ → ℕ → ℕ → Desk
pages_desk s p sp r15 = record {
  registers = pages_registers sp r15;
  status = s;
  pending = p;
  map = record { base = record { 0 = 400 }; length = 6 };
  system = record { 0 = 0 };
  control = record { 0 = 256 };
  mark = Running;
}

-- a step in user mode at address r15, where the system block has entry i alone
unfoldable pub step_at : ℕ → ℕ → Stepped
step_at i r15 = step_of (pages_desk 0 0 0 r15) (pages_memory i 0 [])

-- a step of the code at 16 of page 0
unfoldable pub pages_ran : ℕ → ℕ → List ℕ → Stepped
pages_ran i sp code = step_of (pages_desk 0 0 sp 16) (pages_memory i 528 code)

-- JUMP 16, seven bytes, from address r15 of page 0 on, and where need be into page 1
unfoldable pub jump_across : ℕ → Stepped
jump_across r15 = step_of (pages_desk 0 0 0 r15) (pages_memory 2 (512 + r15) (0x70 ∷ A 16))

-- what a kernel entry tells: the answer, the argument and the saved R15, at 68 and 60 of the
-- control block
abbrev pub told : Stepped → StepAnswer × ℕ × ℕ
told s = (s.reply.answer, word_at s.memory 324, word_at s.memory 316)

pub record PagesWithoutCommands : Type 0 where
  -- a byte that is fetched there is 21, its argument the byte's address
  pub fetch : (map : Map) (m : Memory) (x : VirtualAddress) → WithoutCommands map m x
      → mapped map m x Fetch ≡ alarm alarms.NoFetch x.0
  -- and nothing else is: "a command or operand byte fetched there", never in kernel mode
  pub fetch_alone : (s : ℕ) (map : Map) (m : Memory) (x : VirtualAddress) (w : Access) (a : ℕ)
      → view_by s map m x w ≡ alarm alarms.NoFetch a → FetchedThere s map m x w a
  -- without the bit a byte is fetched as ever
  pub fetch_open : (map : Map) (m : Memory) (x : VirtualAddress) (f : FrameNumber) → Names map m (page_of x) f
      → fetchable (map_entry map m (page_of x)) ≡ true → mapped map m x Fetch ≡ got (found_at m (in_frame f x))
  -- "reading stays allowed", and writing where the entry is writable, with the bit or without it
  pub read : (map : Map) (m : Memory) (x : VirtualAddress) (f : FrameNumber) → Names map m (page_of x) f
      → mapped map m x Read ≡ got (found_at m (in_frame f x))
  pub write : (map : Map) (m : Memory) (x : VirtualAddress) (f : FrameNumber) → Names map m (page_of x) f
      → writable (map_entry map m (page_of x)) ≡ true → mapped map m x Write ≡ got (found_at m (in_frame f x))
  -- "Such pages are still reached frames", and writable reached ones with the writable bit
  pub reached : (map : Map) (m : Memory) (x : VirtualAddress) → WithoutCommands map m x
      → Reached map m (frame_of (map_entry map m (page_of x)))
  pub writable_reached : (map : Map) (m : Memory) (x : VirtualAddress) → WithoutCommands map m x
      → writable (map_entry map m (page_of x)) ≡ true → WritableReached map m (frame_of (map_entry map m (page_of x)))
  -- the cause of an alarm is neither a system call's, 1, nor an interrupt's, 17 to 31; two alarms
  -- do not share one
  pub cause_free : (a : Alarm) → (1 < alarm_cause a) × (alarm_cause a < 16)
  pub cause_tells : (a b : Alarm) → alarm_cause a ≡ alarm_cause b → a ≡ b
  -- a desk in user mode whose R15 is there, no level being due: kernel entry 2 (stop 16 where entry
  -- 2 holds no kernel status), argument R15, and saved are the registers, R15 among them, as they
  -- are
  pub enters_2 : (d : Desk) (m : Memory) → user_mode d.status ≡ true
      → due 15 d.pending (level_of d.status) ≡ 0 → reg d.registers 15 < 0x1_0000_0000
      → WithoutCommands d.map m (record { 0 = reg d.registers 15 })
      → one_step d m
      ≡ concluded d (system_block_of d m) (enters 2 d.registers (reg d.registers 15) d.pending)
  -- "a bad jump ran them": at 528, in page 1, nothing runs; nothing but the control block changes
  pub jumped_there : step_at 2 528
      ≡ record {
        reply = record
            { answer = Ok (step_event.Entered 2); desk = pages_desk 0x8000_0000 0 0 0x100 };
        memory = sets (pages_memory 2 0 []) 256 (saved_bytes (pages_registers 0 528) 0 528);
      }
  -- each of the six bytes of an operand: the first, .., the last is at 512, in page 1; saved R15 is
  -- the command's own address
  pub operand_byte_1 : told (jump_across 511) ≡ (Ok (step_event.Entered 2), 512, 511)
  pub operand_byte_2 : told (jump_across 510) ≡ (Ok (step_event.Entered 2), 512, 510)
  pub operand_byte_3 : told (jump_across 509) ≡ (Ok (step_event.Entered 2), 512, 509)
  pub operand_byte_4 : told (jump_across 508) ≡ (Ok (step_event.Entered 2), 512, 508)
  pub operand_byte_5 : told (jump_across 507) ≡ (Ok (step_event.Entered 2), 512, 507)
  pub operand_byte_6 : told (jump_across 506) ≡ (Ok (step_event.Entered 2), 512, 506)
  -- and none of them: the jump is done
  pub no_operand_byte : register_after 15 (jump_across 505) ≡ 16
  -- "tried after 10": 9, since "An absent entry's other bits mean nothing"; 10 twice; and 8
  pub absent : told (step_at 9 1552) ≡ (Ok (step_event.Entered 9), 1552, 1552)
  pub forbidden_bit : told (step_at 10 2064) ≡ (Ok (step_event.Entered 10), 2064, 2064)
  pub frame_past_memory : told (step_at 10 2576) ≡ (Ok (step_event.Entered 10), 2576, 2576)
  pub page_past_map : told (step_at 8 3088) ≡ (Ok (step_event.Entered 8), 3088, 3088)
  -- read are, at 1124, byte 100 of page 2: a value, by MOVE W 1124,R0; the word of form 5, by
  -- MOVEA; the stack, by RET and by POPR
  pub value_read : register_after 0 (pages_ran 2 0 (0x12 ∷ A 1124 ++ R 0)) ≡ 0x0102_0304
  pub pointer_read : register_after 1 (pages_ran 2 0 (0x20 ∷ 5 ∷ 0 ∷ bytes_of 4 1124 ++ R 1)) ≡ 0x0102_0304
  pub stack_read : register_after 15 (pages_ran 2 1124 (0x7A ∷ [])) ≡ 0x0102_0304
  pub registers_read : register_after 0 (pages_ran 2 1124 (0x02 ∷ [])) ≡ 0x0102_0304
  -- written are, at 612, byte 100 of page 1: a result, by MOVE B I 9,612; the stack, by CALL 16.
  -- Page 2 is not writable: 11
  pub result_written : byte_at (pages_ran 2 0 (0x10 ∷ I 9 ++ A 612)).memory 1124 ≡ 9
  pub stack_written : word_at (pages_ran 2 616 (0x79 ∷ A 16)).memory 1124 ≡ 23
  pub not_written : told (pages_ran 11 0 (0x10 ∷ I 9 ++ A 1124)) ≡ (Ok (step_event.Entered 11), 1124, 16)
  -- "In kernel mode an address is real": HALT runs at 1040, in frame 2
  pub kernel_mode : (step_of (pages_desk 0x8000_0000 0 0 1040) (pages_memory 2 0 [])).reply.answer ≡ Ok (step_event.Stopped 0)
  -- level 5 comes first, and entry 21 is its own
  pub level_5 : told (step_of (pages_desk 0 0x20 0 528) (pages_memory 21 0 [])) ≡ (Ok (step_event.Entered 21), 5, 528)
  -- entry 2 has no kernel status, though 21 has: 16
  pub no_entry_2 : (step_at 21 528).reply.answer ≡ Ok (step_event.Stopped 16)
