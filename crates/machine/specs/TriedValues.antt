-- Document 01, "Tried values": those marked *, which "are proved in one table", and the memory
-- lengths. *1 to *11 are whole steps of a desk over code in its memory. The proof is `tried_values`
-- of proofs/TriedValues.antt.
use Rattle.std.specs.Prelude.{ℕ, ◌+◌, ◌-◌, ◌*◌, ◌≡◌, true, false, List, [], ◌∷◌, ◌++◌, replicate, set, take, drop}
use Rattle.std.proofs.lemmas.List.Edits.{sets}
use Rattle.machine.specs.declared.Desk.{Desk}
use Rattle.machine.specs.declared.Mark.TheVariants.{Running}
use Rattle.machine.specs.Words.{Memory, bytes_of, word_at}
use Rattle.machine.specs.State.{reg, flags_of, allowed_length}
use Rattle.machine.specs.Calls.{no_map, Stepped, step_of}

-- ---- Code and numbers

-- the six bytes of an operand that is the value z: form 1
unfoldable pub I : ℕ → List ℕ
I z = 1 ∷ 0 ∷ bytes_of 4 z

-- of one at the address z: form 0
unfoldable pub A : ℕ → List ℕ
A z = 0 ∷ 0 ∷ bytes_of 4 z

-- and of one that is register x: form 2
unfoldable pub R : ℕ → List ℕ
R x = 2 ∷ 16 * x ∷ 0 ∷ 0 ∷ 0 ∷ 0 ∷ []

-- the word that holds the number -n
abbrev pub minus : ℕ → ℕ
minus n = 0x1_0000_0000 - n

-- ---- The desk

-- n bytes: zeros, but for the code from 400 on
unfoldable pub memory_with : ℕ → List ℕ → Memory
memory_with n code = sets (replicate n 0) 400 code

-- running, in kernel mode, level 0, flags clear, nothing pending, no map; system block at 0,
-- control block at 256. Ri is x, R15 is 400, the others are 0
unfoldable pub kernel_desk : ℕ → ℕ → Desk
kernel_desk i x = record {
  registers = set (set (replicate 16 0) 15 400) i x;
  status = 0x8000_0000;
  pending = 0;
  map = no_map;
  system = record { 0 = 0 };
  control = record { 0 = 256 };
  mark = Running;
}

-- that desk and its memory of 512 bytes after one step, with R0 = x before it
unfoldable pub ran_on : ℕ → List ℕ → Stepped
ran_on x code = step_of (kernel_desk 0 x) (memory_with 512 code)

abbrev pub register_after : ℕ → Stepped → ℕ
register_after i s = reg s.reply.desk.registers i

-- "N is 8, Z 4, V 2, C 1"
abbrev pub flags_after : Stepped → ℕ
flags_after s = flags_of s.reply.desk.status

-- PUSHR with SP = 1000 over 1,024 bytes, and POPR on the desk and the memory that it leaves
unfoldable pub after_pushr : Stepped
after_pushr = step_of (kernel_desk 14 1000) (memory_with 1024 (0x01 ∷ 0x02 ∷ []))

unfoldable pub after_popr : Stepped
after_popr = step_of after_pushr.reply.desk after_pushr.memory

-- ---- The table

-- the command bytes in it: 01h PUSHR, 02h POPR, 10h MOVE B, 12h MOVE W, 21h CONV, 40h ADD B, 48h
-- SUB B, 58h DIV B, 5Ah DIV W, 60h SH, 61h ROT, 66h CMP W
pub record TriedValues : Type 0 where
  -- the paper's bytes for MOVE B I 2,R0: "10 01 00 00 00 00 02 02 00 00 00 00 00"
  pub code : 0x10 ∷ I 2 ++ R 0 ≡ 0x10 ∷ 0x01 ∷ 0x00 ∷ 0x00 ∷ 0x00 ∷ 0x00 ∷ 0x02 ∷ 0x02 ∷ 0x00 ∷ 0x00 ∷ 0x00 ∷ 0x00
      ∷ 0x00 ∷ []
  -- *1: "01020304h is stored 01 02 03 04", by MOVE W I 01020304h,480
  pub star1 : take 4 (drop 480 (ran_on 0 (0x12 ∷ I 0x0102_0304 ++ A 480)).memory) ≡ 0x01 ∷ 0x02 ∷ 0x03 ∷ 0x04 ∷ []
  -- *2: "R0 = FFFFFFFFh, MOVE B I 2,R0 gives FFFFFF02h"
  pub star2 : register_after 0 (ran_on 0xFFFF_FFFF (0x10 ∷ I 2 ++ R 0)) ≡ 0xFFFF_FF02
  -- *3: "ADD B I 1 to 7Fh gives 80h, flags N V"
  pub star3 : (register_after 0 (ran_on 0x7F (0x40 ∷ I 1 ++ R 0)) ≡ 0x80)
      × (flags_after (ran_on 0x7F (0x40 ∷ I 1 ++ R 0)) ≡ 8 + 2)
  -- *4: "SUB B I 1 from 0 gives FFh, N C"
  pub star4 : (register_after 0 (ran_on 0 (0x48 ∷ I 1 ++ R 0)) ≡ 0xFF)
      × (flags_after (ran_on 0 (0x48 ∷ I 1 ++ R 0)) ≡ 8 + 1)
  -- *5: "CMP W I 2,I 3 sets N only"
  pub star5 : flags_after (ran_on 0 (0x66 ∷ I 2 ++ I 3)) ≡ 8
  -- *6: "DIV B, 80h by FFh gives 80h, N V"
  pub star6 : (register_after 0 (ran_on 0x80 (0x58 ∷ I 0xFF ++ R 0)) ≡ 0x80)
      × (flags_after (ran_on 0x80 (0x58 ∷ I 0xFF ++ R 0)) ≡ 8 + 2)
  -- *7: "DIV W, −7 by 2 gives −3"
  pub star7 : register_after 0 (ran_on (minus 7) (0x5A ∷ I 2 ++ R 0)) ≡ minus 3
  -- *8: "CONV 80h gives FFFFFF80h"
  pub star8 : register_after 0 (ran_on 0 (0x21 ∷ I 0x80 ++ R 0)) ≡ 0xFFFF_FF80
  -- *9: "ROT 80000001h by 33 gives 3"
  pub star9 : register_after 0 (ran_on 0 (0x61 ∷ I 33 ++ I 0x8000_0001 ++ R 0)) ≡ 3
  -- *10: "SH 80000000h by −31 gives FFFFFFFFh"
  pub star10 : register_after 0 (ran_on 0 (0x60 ∷ I (minus 31) ++ I 0x8000_0000 ++ R 0)) ≡ 0xFFFF_FFFF
  -- *11: "SP = 1000, PUSHR stores 996 at 996 and ends with SP = 940; POPR brings 1000"
  pub star11 : (word_at after_pushr.memory 996 ≡ 996) × (register_after 14 after_pushr ≡ 940)
      × (register_after 14 after_popr ≡ 1000)
  -- "memory 512 and 1,024 accepted, 513 refused"
  pub lengths : (allowed_length 512 ≡ true) × (allowed_length 1024 ≡ true) × (allowed_length 513 ≡ false)
