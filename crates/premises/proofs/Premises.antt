-- The premises of demand 3 can be met, and each is needed: desks and memories of 2,048 bytes that
-- show it.
use Prim.Native.Nat.{ℕ, zero, suc, ◌-◌, ◌/◌, ◌<◌, ◌≤◌}
use mathlib.Core.Path.{◌≡◌, refl, sym, ap}
use mathlib.Core.Logic.{◌≢◌}
use mathlib.Core.Bool.{Bool, true, false, ◌&&◌, ◌||◌, or-true}
use mathlib.Core.List.{List, [], ◌∷◌, ◌++◌}
use native.Mathlib.Decide.{ℕ_discrete}
use native.Mathlib.Omega.{arith}
use borrow.Author.Tests.{ltb-false, eqb-false, eq-eqb, le-leb, lt-ltb}
use lib.Dec.{ltb, leb, eqb}
use lib.ListN.{length, replicate, set, length-set}
use lib.Seq.{get_or-set_other}
use Rattle.machine.specs.declared.Desk.{Desk}
use Rattle.machine.specs.declared.Map.{Map}
use Rattle.machine.specs.declared.Mark.TheVariants.{Running}
use Rattle.machine.specs.Words.{Memory, byte_at}
use Rattle.machine.specs.State.{reg, user_mode, frame_around, saved_bytes}
use Rattle.machine.specs.Map.{map_entry, present, frame_of, undamaged, Reached}
use Rattle.machine.specs.Calls.{passes6, request_refusal, request_outcome}
use Rattle.machine.specs.Isolation.{step, Premise, inUserMode, oneLength, sameMap, sameSystemBlock, sameReachedFrames}
use Rattle.machine.specs.Isolation.{mapNotWritable, Holds}
use Rattle.premises.specs.Premises.{MetByInterrupt, MetByAlarm21, MetByFloats, Needed, EachNeeded}
use Rattle.machine.proofs.WholeStep.{whole_step}

-- ---- The desks and the memories

-- four entries at 512
abbrev four_pages : Map
four_pages = record { base = record { 0 = 512 }; length = 4 }

-- system block at 0, control block at 256, that map; status and R15 are given
desk_at : ℕ → ℕ → Desk
desk_at s r15 = record {
  registers = set (replicate 16 0) 15 r15;
  status = s;
  pending = 0;
  map = four_pages;
  system = record { 0 = 0 };
  control = record { 0 = 256 };
  mark = Running;
}

-- from 1024 on: MOVE B I 80h,524; 1037: MOVE B 1536,R0; 1050: MOVE W I 5,1280; 1063: SH I
-- 30,1280,R1; 1082: MOVE W I 5,256; 1095: SH I 30,256,R1; 1114: JUMP 256; 1121: ADD D
-- 1185,1193,1532; 1140: MOVE D 1532,R2; 1153: DIV D 1280,R2,R4; 1172: CMP D R2,I 0; 1185: 0.1 and
-- 1193: 0.2, the D nearest to them
code : List ℕ
code =
    0x10 ∷ 1 ∷ 0x00 ∷ 0 ∷ 0 ∷ 0x00 ∷ 0x80 ∷ 0 ∷ 0x00 ∷ 0 ∷ 0 ∷ 0x02 ∷ 0x0C
    ∷ 0x10 ∷ 0 ∷ 0x00 ∷ 0 ∷ 0 ∷ 0x06 ∷ 0x00 ∷ 2 ∷ 0x00 ∷ 0 ∷ 0 ∷ 0x00 ∷ 0x00
    ∷ 0x12 ∷ 1 ∷ 0x00 ∷ 0 ∷ 0 ∷ 0x00 ∷ 0x05 ∷ 0 ∷ 0x00 ∷ 0 ∷ 0 ∷ 0x05 ∷ 0x00
    ∷ 0x60 ∷ 1 ∷ 0x00 ∷ 0 ∷ 0 ∷ 0x00 ∷ 0x1E ∷ 0 ∷ 0x00 ∷ 0 ∷ 0 ∷ 0x05 ∷ 0x00 ∷ 2 ∷ 0x10 ∷ 0 ∷ 0 ∷ 0x00 ∷ 0x00
    ∷ 0x12 ∷ 1 ∷ 0x00 ∷ 0 ∷ 0 ∷ 0x00 ∷ 0x05 ∷ 0 ∷ 0x00 ∷ 0 ∷ 0 ∷ 0x01 ∷ 0x00
    ∷ 0x60 ∷ 1 ∷ 0x00 ∷ 0 ∷ 0 ∷ 0x00 ∷ 0x1E ∷ 0 ∷ 0x00 ∷ 0 ∷ 0 ∷ 0x01 ∷ 0x00 ∷ 2 ∷ 0x10 ∷ 0 ∷ 0 ∷ 0x00 ∷ 0x00
    ∷ 0x70 ∷ 0 ∷ 0x00 ∷ 0 ∷ 0 ∷ 0x01 ∷ 0x00
    ∷ 0x85 ∷ 0 ∷ 0x00 ∷ 0 ∷ 0 ∷ 0x04 ∷ 0xA1 ∷ 0 ∷ 0x00 ∷ 0 ∷ 0 ∷ 0x04 ∷ 0xA9 ∷ 0 ∷ 0x00 ∷ 0 ∷ 0 ∷ 0x05 ∷ 0xFC
    ∷ 0xA1 ∷ 0 ∷ 0x00 ∷ 0 ∷ 0 ∷ 0x05 ∷ 0xFC ∷ 2 ∷ 0x20 ∷ 0 ∷ 0 ∷ 0x00 ∷ 0x00
    ∷ 0x9D ∷ 0 ∷ 0x00 ∷ 0 ∷ 0 ∷ 0x05 ∷ 0x00 ∷ 2 ∷ 0x20 ∷ 0 ∷ 0 ∷ 0x00 ∷ 0x00 ∷ 2 ∷ 0x40 ∷ 0 ∷ 0 ∷ 0x00 ∷ 0x00
    ∷ 0xA5 ∷ 2 ∷ 0x20 ∷ 0 ∷ 0 ∷ 0x00 ∷ 0x00 ∷ 1 ∷ 0x00 ∷ 0 ∷ 0 ∷ 0x00 ∷ 0x00
    ∷ 0x3F ∷ 0xB9 ∷ 0x99 ∷ 0x99 ∷ 0x99 ∷ 0x99 ∷ 0x99 ∷ 0x9A
    ∷ 0x3F ∷ 0xC9 ∷ 0x99 ∷ 0x99 ∷ 0x99 ∷ 0x99 ∷ 0x99 ∷ 0x9A
    ∷ []

-- k entries of the system block, with R15 0 and status 80000000h
block : ℕ → List ℕ
block zero = []
block (suc k) = 0 ∷ 0 ∷ 0 ∷ 0 ∷ 0x80 ∷ 0 ∷ 0 ∷ 0 ∷ block k

-- a frame that begins with some bytes and is zero after them
filled : List ℕ → List ℕ
filled bs = bs ++ replicate (512 - length bs) 0

-- four frames: system block, map, code, zeros. Pages 0 to 3 name the frames 2, 1, 2 and frame3,
-- with the highest bytes top0, top1, C0h and top3 of their entries
memory_of : ℕ → ℕ → ℕ → ℕ → Memory
memory_of top0 top1 top3 frame3 =
    filled (block 32)
    ++ filled (top0 ∷ 0 ∷ 0 ∷ 2 ∷ top1 ∷ 0 ∷ 0 ∷ 1 ∷ 0xC0 ∷ 0 ∷ 0 ∷ 2 ∷ top3 ∷ 0 ∷ 0 ∷ frame3 ∷ [])
    ++ filled code
    ++ filled []

-- ---- Which frames the map reaches

-- page p names frame f
names_frame : Memory → ℕ → ℕ → Bool
names_frame m f p = let e = map_entry four_pages m p in present e && undamaged (length m) e && eqb (frame_of e).0 f

-- one of the first k pages does
reaches : Memory → ℕ → ℕ → Bool
reaches m f zero = false
reaches m f (suc k) = names_frame m f k || reaches m f k

reaches_named : (m : Memory) (f k p : ℕ) → p < k → names_frame m f p ≡ true → reaches m f k ≡ true
unfolding reaches
reaches_named m f zero p h e = absurd (omega arith)
reaches_named m f (suc k) p h e = go (ℕ_discrete p k) (λ l. reaches_named m f k p l e)
  where
    go : Dec (p ≡ k) → (p < k → reaches m f k ≡ true) → names_frame m f k || reaches m f k ≡ true
    go (yes q) r = rw (← q, e)
    go (no n) r = rw (r (omega arith), or-true)

unreached : (m : Memory) (a f : ℕ) → a / 512 ≡ f → reaches m f 4 ≡ false → Reached four_pages m (frame_around a) → ⊥
unfolding names_frame
unreached m a f q h r =
    let n = r.names in
    let t = reaches_named m f 4 r.page n.below (rw (n.there, n.whole, n.frame, q, eq-eqb f f refl)) in
    let z : ◌≡◌ {A = ℕ} 0 1 = cc in
    omega arith

-- the map lies in frame 1
map_not_writable : (s r15 : ℕ) (m n : Memory) → reaches m 1 4 ≡ false → Holds mapNotWritable (desk_at s r15) m n
unfolding desk_at
map_not_writable s r15 m n h a r w =
    let low : 512 ≤ a = r.low in
    let high : a < 528 = r.high in
    unreached m a 1 (omega arith) h (record { page = w.page; names = w.names })

-- ---- Memories that differ in the byte at place b, which is v in the second

module _ (s r15 : ℕ) (m : Memory) (b v : ℕ) where
  agrees : (a : ℕ) → (a ≡ b → ⊥) → byte_at m a ≡ byte_at (set m b v) a
  agrees a f = sym (get_or-set_other m b a v 0 f)

  -- the premises that P picks out hold, where b lies outside what they name
  held_where : (P : Premise → Type 0)
      → (P inUserMode → user_mode s ≡ true)
      → (P sameMap → leb 512 b && ltb b 528 ≡ false)
      → (P sameSystemBlock → ltb b 256 ≡ false)
      → (P sameReachedFrames → reaches m (b / 512) 4 ≡ false)
      → (P mapNotWritable → reaches m 1 4 ≡ false)
      → (p : Premise) → P p → Holds p (desk_at s r15) m (set m b v)
  unfolding desk_at
  held_where P user map block frames free inUserMode h = user h
  held_where P user map block frames free oneLength h = sym (length-set m b v)
  held_where P user map block frames free sameMap h = λ a r. agrees a λ q.
      let low : 512 ≤ a = r.low in
      let high : a < 528 = r.high in
      let f : true ≡ false = rw (le-leb 512 b (omega arith), lt-ltb b 528 (omega arith)) at (map h) in
      let z : ◌≡◌ {A = ℕ} 0 1 = cc in
      omega arith
  held_where P user map block frames free sameSystemBlock h =
      λ a r. agrees a λ q. let high : a < 256 = r.high in omega (arith, ltb-false b 256 (block h))
  held_where P user map block frames free sameReachedFrames h =
      λ a r. agrees a λ q. unreached m a (b / 512) (rw q) (frames h) r
  held_where P user map block frames free mapNotWritable h = map_not_writable s r15 m (set m b v) (free h)

-- ---- Desks that differ, and computing

-- two desks differ if something told of them does
differ_by : (f : Desk → ℕ) {d e : Desk} → eqb (f d) (f e) ≡ false → d ≡ e → ⊥
differ_by f {d} {e} h q = eqb-false (f d) (f e) h (ap f q)

register : ℕ → Desk → ℕ
register i d = reg d.registers i

-- to unfold this is to unfold all that the calls below compute with
computing : Unit {0}
unfolding whole_step desk_at code block filled memory_of passes6 request_refusal request_outcome names_frame reaches register
computing = tt

-- ---- All premises met

-- MOVE W I 5,1280, SH I 30,1280,R1 with V alone, a request of level 5, kernel entry 21; a byte of
-- frame 3 differs
pub met_by_interrupt : MetByInterrupt
unfolding computing
met_by_interrupt = record {
  desk = desk_at 0 1050;
  memory = memory_of 0 0 0 3;
  other = set (memory_of 0 0 0 3) 1536 1;
  differ = λ e. eqb-false 0 1 refl (ap (λ (x : Memory). byte_at x 1536) e);
  premises =
      λ p. held_where 0 1050 (memory_of 0 0 0 3) 1536 1 (λ q. Unit {0}) (λ n. refl) (λ n. refl) (λ n. refl) (λ n. refl)
      (λ n. refl) p tt;
  usable = record { held = refl; accepted = (refl, (refl, (refl, (refl, tt)))) };
  usable' = record { held = refl; accepted = (refl, (refl, (refl, (refl, tt)))) };
  writes = λ e. eqb-false 5 0 refl (ap (λ (x : Memory). byte_at x 1283) e);
  saved = saved_bytes (0 ∷ 0x4000_0000 ∷ replicate 13 0 ++ 1082 ∷ []) 2 5;
  ends = refl;
}

-- MOVE W I 5,256, SH I 30,256,R1 with V alone, a request of level 5 at level 5, JUMP 256, kernel
-- entry 2: page 0 is frame 2 without commands, as page 2 is with them; a byte of frame 3 differs
pub met_by_alarm_21 : MetByAlarm21
unfolding computing
met_by_alarm_21 = record {
  met = record {
    desk = desk_at 0x50 1082;
    memory = memory_of 0xE0 0 0 3;
    other = set (memory_of 0xE0 0 0 3) 1536 1;
    differ = λ e. eqb-false 0 1 refl (ap (λ (x : Memory). byte_at x 1536) e);
    premises =
        λ p. held_where 0x50 1082 (memory_of 0xE0 0 0 3) 1536 1 (λ q. Unit {0}) (λ n. refl) (λ n. refl) (λ n. refl)
        (λ n. refl) (λ n. refl) p tt;
    usable = record { held = refl; accepted = (refl, (refl, (refl, (refl, (refl, tt))))) };
    usable' = record { held = refl; accepted = (refl, (refl, (refl, (refl, (refl, tt))))) };
    writes = λ e. eqb-false 5 0 refl (ap (λ (x : Memory). byte_at x 1283) e);
    saved = saved_bytes (0 ∷ 0x4000_0000 ∷ replicate 13 0 ++ 256 ∷ []) 0x52 256;
    ends = refl;
  };
  address = record { 0 = 256 };
  there = record { below = omega arith; there = refl; whole = refl; closed = refl };
  argument = refl;
  written = λ e. eqb-false 5 0 refl e;
}

-- ADD D 1185,1193,1532: 0.1 + 0.2, rounded, to the last four bytes of page 2 and the first four of
-- page 3, both writable and both frame 2, so real 1532 and 1024, where no command runs here; MOVE D
-- 1532,R2; a request of level 5 at level 5; DIV D 1280,R2,R4: the sum by zero, infinite, with V and
-- no alarm; CMP D R2,I 0, kernel entry 14; a byte of frame 3 differs
pub met_by_floats : MetByFloats
unfolding computing
met_by_floats = record {
  met = record {
    desk = desk_at 0x50 1121;
    memory = memory_of 0 0 0xC0 2;
    other = set (memory_of 0 0 0xC0 2) 1536 1;
    differ = λ e. eqb-false 0 1 refl (ap (λ (x : Memory). byte_at x 1536) e);
    premises =
        λ p. held_where 0x50 1121 (memory_of 0 0 0xC0 2) 1536 1 (λ q. Unit {0}) (λ n. refl) (λ n. refl) (λ n. refl)
        (λ n. refl) (λ n. refl) p tt;
    usable = record { held = refl; accepted = (refl, (refl, (refl, (refl, (refl, tt))))) };
    usable' = record { held = refl; accepted = (refl, (refl, (refl, (refl, (refl, tt))))) };
    writes = λ e. eqb-false 0x3F 0 refl (ap (λ (x : Memory). byte_at x 1532) e);
    saved =
        saved_bytes (0 ∷ 0 ∷ 0x3FD3_3333 ∷ 0x3333_3334 ∷ 0x7FF0_0000 ∷ replicate 10 0 ++ 1172 ∷ []) 0x52 2;
    ends = refl;
  };
  command = refl;
  first = record { 0 = 1185 };
  second = record { 0 = 1193 };
  target = record { 0 = 1532 };
  a = 0x3FB9_9999_9999_999A;
  b = 0x3FC9_9999_9999_999A;
  reads = (refl, refl);
  two-pages = λ e. eqb-false 2 3 refl e;
  written = refl;
  moved = refl;
  divided = refl;
  argument = refl;
}

-- ---- Each premise needed

-- in kernel mode MOVE B 1536,R0 reads a byte of frame 3, which the map does not reach
user_mode_needed : Needed inUserMode
unfolding computing
user_mode_needed = record {
  desk = desk_at 0x8000_0000 1037;
  memory = memory_of 0 0 0 3;
  other = set (memory_of 0 0 0 3) 1536 1;
  others =
      held_where 0x8000_0000 1037 (memory_of 0 0 0 3) 1536 1 (λ q. q ≢ inUserMode) (λ n. absurd (n refl)) (λ n. refl)
      (λ n. refl) (λ n. refl) (λ n. refl);
  calls = step ∷ [];
  usable = record { held = refl; accepted = (refl, tt) };
  usable' = record { held = refl; accepted = (refl, tt) };
  broken = λ h. differ_by (register 0) refl h.calls.0.desks;
}

-- zeros behind the end change no byte, as past the memory there are zeros too
zeros : (k a : ℕ) → 0 ≡ byte_at (replicate k 0) a
zeros zero a = refl
zeros (suc k) zero = refl
zeros (suc k) (suc a) = zeros k a

lengthened : (m : Memory) (k a : ℕ) → byte_at m a ≡ byte_at (m ++ replicate k 0) a
lengthened [] k a = zeros k a
lengthened (b ∷ m) k zero = refl
lengthened (b ∷ m) k (suc a) = lengthened m k a

held_but_length : (m : Memory) (k : ℕ) → reaches m 1 4 ≡ false → (q : Premise) → q ≢ oneLength
    → Holds q (desk_at 0 1037) m (m ++ replicate k 0)
unfolding desk_at
held_but_length m k h inUserMode n = refl
held_but_length m k h oneLength n = absurd (n refl)
held_but_length m k h sameMap n = λ a r. lengthened m k a
held_but_length m k h sameSystemBlock n = λ a r. lengthened m k a
held_but_length m k h sameReachedFrames n = λ a r. lengthened m k a
held_but_length m k h mapNotWritable n = map_not_writable 0 1037 m (m ++ replicate k 0) h

-- page 3 names frame 4, which only the longer memory has: MOVE B 1536,R0 is alarm 10 over the other
one_length_needed : Needed oneLength
unfolding computing
one_length_needed = record {
  desk = desk_at 0 1037;
  memory = memory_of 0 0 0x80 4;
  other = memory_of 0 0 0x80 4 ++ replicate 512 0;
  others = held_but_length (memory_of 0 0 0x80 4) 512 refl;
  calls = step ∷ [];
  usable = record { held = refl; accepted = (refl, tt) };
  usable' = record { held = refl; accepted = (refl, tt) };
  broken = λ h. differ_by (λ d. d.status) refl h.calls.0.desks;
}

-- page 3 names frame 3 in one memory and is absent in the other: there MOVE B 1536,R0 is alarm 9
same_map_needed : Needed sameMap
unfolding computing
same_map_needed = record {
  desk = desk_at 0 1037;
  memory = memory_of 0 0 0x80 3;
  other = set (memory_of 0 0 0x80 3) 524 0;
  others =
      held_where 0 1037 (memory_of 0 0 0x80 3) 524 0 (λ q. q ≢ sameMap) (λ n. refl) (λ n. absurd (n refl)) (λ n. refl)
      (λ n. refl) (λ n. refl);
  calls = step ∷ [];
  usable = record { held = refl; accepted = (refl, tt) };
  usable' = record { held = refl; accepted = (refl, tt) };
  broken = λ h. differ_by (λ d. d.status) refl h.calls.0.desks;
}

-- page 3 is absent: alarm 9 takes R15 from entry 9 of the system block, 1 in one memory and 0 in
-- the other
same_system_block_needed : Needed sameSystemBlock
unfolding computing
same_system_block_needed = record {
  desk = desk_at 0 1037;
  memory = memory_of 0 0 0 3;
  other = set (memory_of 0 0 0 3) 75 1;
  others =
      held_where 0 1037 (memory_of 0 0 0 3) 75 1 (λ q. q ≢ sameSystemBlock) (λ n. refl) (λ n. refl)
      (λ n. absurd (n refl)) (λ n. refl) (λ n. refl);
  calls = step ∷ [];
  usable = record { held = refl; accepted = (refl, tt) };
  usable' = record { held = refl; accepted = (refl, tt) };
  broken = λ h. differ_by (register 15) refl h.calls.0.desks;
}

-- page 3 names frame 3, without commands, and MOVE D 1532,R2 reads the last four bytes of page 2 and
-- the first four of page 3, of which one differs: such a frame is a reached one
same_reached_frames_needed : Needed sameReachedFrames
unfolding computing
same_reached_frames_needed = record {
  desk = desk_at 0 1140;
  memory = memory_of 0 0 0xA0 3;
  other = set (memory_of 0 0 0xA0 3) 1536 1;
  others =
      held_where 0 1140 (memory_of 0 0 0xA0 3) 1536 1 (λ q. q ≢ sameReachedFrames) (λ n. refl) (λ n. refl) (λ n. refl)
      (λ n. absurd (n refl)) (λ n. refl);
  calls = step ∷ [];
  usable = record { held = refl; accepted = (refl, tt) };
  usable' = record { held = refl; accepted = (refl, tt) };
  broken = λ h. differ_by (register 3) refl h.calls.0.desks;
}

-- page 1 names frame 1, writable and without commands, where the map lies: MOVE B I 80h,524 makes
-- page 3 name frame 3, and MOVE B 1536,R0 reads a byte of it that differs
map_not_writable_needed : Needed mapNotWritable
unfolding computing
map_not_writable_needed = record {
  desk = desk_at 0 1024;
  memory = memory_of 0 0xE0 0 3;
  other = set (memory_of 0 0xE0 0 3) 1536 1;
  others =
      held_where 0 1024 (memory_of 0 0xE0 0 3) 1536 1 (λ q. q ≢ mapNotWritable) (λ n. refl) (λ n. refl) (λ n. refl)
      (λ n. refl) (λ n. absurd (n refl));
  calls = step ∷ step ∷ [];
  usable = record { held = refl; accepted = (refl, (refl, tt)) };
  usable' = record { held = refl; accepted = (refl, (refl, tt)) };
  broken = λ h. differ_by (register 0) refl (h.calls.1 refl).0.desks;
}

pub each_needed : EachNeeded
each_needed inUserMode = user_mode_needed
each_needed oneLength = one_length_needed
each_needed sameMap = same_map_needed
each_needed sameSystemBlock = same_system_block_needed
each_needed sameReachedFrames = same_reached_frames_needed
each_needed mapNotWritable = map_not_writable_needed
