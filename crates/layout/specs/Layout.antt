-- The state of a desk as 90 bytes, each value highest byte first. Every 90 bytes are one state, no
-- two the same.
--
--    0  R0 to R15, four bytes each
--   64  status word
--   68  map base
--   72  map length in entries
--   76  address of the system block
--   80  address of the control block
--   84  the number that it stopped with; FFFFFFFFh while it runs
--   88  pending set, two bytes
use Rattle.std.specs.Prelude.{ℕ, ◌+◌, ◌*◌, List, [], ◌∷◌, ◌++◌, eqb}
use Rattle.machine.specs.declared.Mark.{Mark}
use Rattle.machine.specs.declared.Mark.TheVariants.{Running, Stopped}
use Rattle.machine.specs.declared.Desk.{Desk}
use Rattle.machine.specs.Words.{pick, byte_at, bytes_of, bytes_of_words, word_at, words_at}

abbrev pub state_bytes : ℕ
state_bytes = 90

-- the word that says that a desk runs; no call stops a desk with this number
abbrev pub runs : ℕ
runs = 0xFFFF_FFFF

abbrev pub mark_number : Mark → ℕ
mark_number Running = runs
mark_number (Stopped n) = n

unfoldable pub mark_of : ℕ → Mark
mark_of n = pick (eqb n runs) Running (Stopped n)

-- the words after the registers
abbrev pub other_words : Desk → List ℕ
other_words d = d.status ∷ d.map.base.0 ∷ d.map.length ∷ d.system.0 ∷ d.control.0 ∷ mark_number d.mark ∷ []

-- the 22 words, in their order
unfoldable pub words_of : Desk → List ℕ
words_of d = d.registers ++ other_words d

unfoldable pub packed : Desk → List ℕ
packed d = bytes_of_words (words_of d) ++ bytes_of 2 d.pending

unfoldable pub unpacked : List ℕ → Desk
unpacked b = record {
  registers = words_at 16 b 0;
  status = word_at b 64;
  pending = byte_at b 88 * 256 + byte_at b 89;
  map = record { base = record { 0 = word_at b 68 }; length = word_at b 72 };
  system = record { 0 = word_at b 76 };
  control = record { 0 = word_at b 80 };
  mark = mark_of (word_at b 84);
}
