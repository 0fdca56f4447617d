-- Worked lists: each rule of the request, and the points that it leaves open, by computation.
use Prim.Native.Nat.{ℕ}
use mathlib.Core.Path.{◌≡◌, refl}
use mathlib.Core.Bool.{Bool, true, ◌&&◌}
use mathlib.Core.List.{List, [], ◌∷◌, ◌++◌}
use Rattle.std.specs.Prelude.{None, Some}
use lib.Dec.{eqb}
use Rattle.machine.specs.Words.{word_at}
use Rattle.machine.specs.Map.{real_writes_from}
use Rattle.lists.specs.declared.Command.TheVariants.{Move, Byte, Four, Copies}
use Rattle.lists.specs.Lists.{next_by, next_at, commands, followed, reading_from, reading_of}
use Rattle.lists.specs.Lists.{puts_from, puts_of, pieces_in, pieces_of, last_put, well_formed}
use Rattle.lists.specs.Refusals.{all_inside, list_refusal, load_answer_number}

-- ---- Commands

abbrev end : List ℕ
end = 0x00 ∷ []

abbrev move : ℕ → ℕ → ℕ → ℕ → List ℕ
move a b c d = 0x01 ∷ a ∷ b ∷ c ∷ d ∷ []

-- each command; numbers stand highest byte first
pub each_command : reading_of (move 0x01 0x02 0x03 0x04 ++ 0x02 ∷ 0xAA ∷ 0x03 ∷ 5 ∷ 6 ∷ 7 ∷ 8 ∷ 0x04 ∷ 0x01 ∷ 0x02 ∷ 0xBB
    ∷ end)
    ≡ commands (Move (record { 0 = 0x0102_0304 }) ∷ Byte 0xAA ∷ Four 5 6 7 8 ∷ Copies 0x0102 0xBB ∷ [])
unfolding word_at next_by next_at followed reading_from reading_of
each_command = refl

-- the place starts at 0 and advances past what is put; a move leads elsewhere; a later put wins
abbrev patched : List ℕ
patched = 0x02 ∷ 9 ∷ 0x03 ∷ 1 ∷ 2 ∷ 3 ∷ 4 ∷ 0x04 ∷ 0 ∷ 2 ∷ 7 ∷ move 0 0 0 1 ++ 0x02 ∷ 8 ∷ end

pub puts_of_patched : puts_of patched ≡ real_writes_from 0 (9 ∷ 1 ∷ 2 ∷ 3 ∷ 4 ∷ 7 ∷ 7 ∷ []) ++ real_writes_from 1 (8 ∷ [])
unfolding word_at next_by next_at followed reading_from reading_of real_writes_from puts_from puts_of
puts_of_patched = refl

pub last_of_patched : (last_put 1 (puts_of patched) ≡ Some 8) × (last_put 2 (puts_of patched) ≡ Some 2)
    × (last_put 7 (puts_of patched) ≡ None)
unfolding word_at next_by next_at followed reading_from reading_of real_writes_from puts_from puts_of last_put
last_of_patched = (refl, refl, refl)

-- ---- Refusals

-- a list, and the number with which it is answered: at most 2 pieces, a memory of 512 bytes
abbrev pub Row : Type 0
Row = List ℕ × ℕ

pub rows : List Row
rows =
    -- 17: nothing at all; no end; bytes after the end
    ([], 17)
    ∷ (0x02 ∷ 7 ∷ [], 17)
    ∷ (end ++ end, 17)
    -- an unknown command, alone and before the end
    ∷ (0x05 ∷ [], 17)
    ∷ (0xFF ∷ end, 17)
    -- each command cut short by a byte
    ∷ (0x01 ∷ 0 ∷ 0 ∷ 0 ∷ [], 17)
    ∷ (0x02 ∷ [], 17)
    ∷ (0x03 ∷ 1 ∷ 2 ∷ 3 ∷ [], 17)
    ∷ (0x04 ∷ 0 ∷ 1 ∷ [], 17)
    -- nothing is put
    ∷ (end, 0)
    -- 18: a count of 0 is a piece, a move is none
    ∷ (0x02 ∷ 7 ∷ 0x02 ∷ 7 ∷ move 0 0 0 0 ++ end, 0)
    ∷ (0x02 ∷ 7 ∷ 0x02 ∷ 7 ∷ 0x04 ∷ 0 ∷ 0 ∷ 7 ∷ end, 18)
    -- 19: the last byte of the memory, and the first behind it
    ∷ (move 0 0 1 0xFF ++ 0x02 ∷ 7 ∷ end, 0)
    ∷ (move 0 0 2 0 ++ 0x02 ∷ 7 ∷ end, 19)
    ∷ (move 0 0 1 0xFC ++ 0x03 ∷ 1 ∷ 2 ∷ 3 ∷ 4 ∷ end, 0)
    ∷ (move 0 0 1 0xFD ++ 0x03 ∷ 1 ∷ 2 ∷ 3 ∷ 4 ∷ end, 19)
    ∷ (0x04 ∷ 2 ∷ 0 ∷ 7 ∷ end, 0)
    ∷ (0x04 ∷ 2 ∷ 1 ∷ 7 ∷ end, 19)
    -- a piece that is outside stays so, wherever the next one is
    ∷ (move 0 0 2 0 ++ 0x02 ∷ 7 ∷ move 0 0 0 0 ++ 0x02 ∷ 7 ∷ end, 19)
    -- a move outside, and a count of 0 there, put nothing
    ∷ (move 0xFF 0xFF 0xFF 0xFF ++ end, 0)
    ∷ (move 0xFF 0xFF 0xFF 0xFF ++ 0x04 ∷ 0 ∷ 0 ∷ 7 ∷ end, 0)
    -- the place does not wrap into the memory
    ∷ (move 0xFF 0xFF 0xFF 0xFF ++ 0x04 ∷ 0 ∷ 2 ∷ 7 ∷ end, 19)
    -- in that order: 17 before 18 and 19, 18 before 19
    ∷ (0x02 ∷ 7 ∷ 0x02 ∷ 7 ∷ 0x02 ∷ 7 ∷ [], 17)
    ∷ (move 0 0 2 0 ++ 0x02 ∷ 7 ∷ 0x05 ∷ end, 17)
    ∷ (move 0 0 2 0 ++ 0x02 ∷ 7 ∷ 0x02 ∷ 7 ∷ 0x02 ∷ 7 ∷ end, 18)
    ∷ []

pub answered : List Row → Bool
answered [] = true
answered (r ∷ rs) = eqb (load_answer_number (list_refusal 2 512 r.0)) r.1 && answered rs

pub worked_refusals : answered rows ≡ true
unfolding word_at next_by next_at followed reading_from reading_of real_writes_from puts_from puts_of pieces_in pieces_of
    well_formed
    all_inside list_refusal rows answered
worked_refusals = refl
