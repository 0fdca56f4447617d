-- The premises of demand 3: two memories that differ can meet them all, and none of them can be
-- left out. Statements only.
use Rattle.std.specs.Prelude.{ℕ, ◌+◌, ◌≡◌, ◌≢◌, Bool, true, ◌&&◌, List, [], ◌∷◌, ltb, eqb, length, take, drop, Ok}
use Rattle.std.proofs.Math.Option.{some}
use Rattle.machine.specs.declared.Access.TheVariants.{Fetch, Read}
use Rattle.machine.specs.declared.Arithmetic.TheVariants.{Add, Div}
use Rattle.machine.specs.declared.Desk.{Desk}
use Rattle.machine.specs.declared.Kind.TheVariants.{D}
use Rattle.machine.specs.declared.VirtualAddress.{VirtualAddress}
use Rattle.machine.specs.Words.{Memory, bytes_of, word_at, kind_length}
use Rattle.machine.specs.State.{reg, is_running}
use Rattle.machine.specs.Alarms.{OrAlarm, got}
use Rattle.machine.specs.Map.{page_of, map_entry, frame_of, in_frame, view_of, read_bytes}
use Rattle.machine.specs.Floats.{arithmetic}
use Rattle.machine.specs.Steps.{entered}
use Rattle.machine.specs.Isolation.{Call, step, request, refusal_of, next_desk, next_memory, Premise, Holds, end_of}
use Rattle.machine.specs.Isolation.{Isolated}
use Rattle.machine.specs.PagesWithoutCommands.{WithoutCommands}

-- ---- Desks and memories that the code can meet, and calls that it carries out

abbrev pub all_below : ℕ → List ℕ → Bool
all_below k [] = true
all_below k (x ∷ xs) = ltb x k && all_below k xs

-- the code's types can hold them: sixteen registers, words of 32 bits, a pending set of 16 bits,
-- bytes; and the desk is running
abbrev pub holdable : Desk → Memory → Bool
holdable d m =
    eqb (length d.registers) 16
    && all_below 0x1_0000_0000
    (d.status ∷ d.map.base.0 ∷ d.map.length ∷ d.system.0 ∷ d.control.0 ∷ d.registers)
    && ltb d.pending 0x1_0000
    && is_running d.mark
    && all_below 0x100 m

abbrev pub AllAccepted : List Call → Desk → Memory → Type 0
AllAccepted [] d m = Unit {0}
AllAccepted (c ∷ cs) d m = (refusal_of c d m ≡ Ok tt) × AllAccepted cs (next_desk c d m) (next_memory c d m)

pub record Usable (cs : List Call) (d : Desk) (m : Memory) : Type 0 where
  pub held : holdable d m ≡ true
  pub accepted : AllAccepted cs d m

-- ---- The premises can be met

-- by calls of which the one at a place, counted from 0, enters the kernel with a cause
pub record Met (calls : List Call) (place cause : ℕ) : Type 0 where
  pub desk : Desk
  pub memory : Memory
  pub other : Memory
  pub differ : memory ≢ other
  pub premises : (p : Premise) → Holds p desk memory other
  pub usable : Usable calls desk memory
  pub usable' : Usable calls desk other
  -- the first command changes the memory
  pub writes : next_memory step desk memory ≢ memory
  -- the calls before that one are quiet
  pub saved : List ℕ
  pub ends : end_of 0 calls desk memory ≡ some (place, entered cause saved)

-- two commands, a request of level 5, and the step that it interrupts, with cause 16 + 5
abbrev pub MetByInterrupt : Type 0
MetByInterrupt = Met (step ∷ step ∷ request 5 ∷ step ∷ []) 3 21

-- document 02, F-4, isolation "with the new bit": two commands, a request that the status level
-- holds back, a jump, and a step that is alarm 21, with cause 2. Its argument is an address in a
-- page without commands, where the first command wrote
pub record MetByAlarm21 : Type 0 where
  pub met : Met (step ∷ step ∷ request 5 ∷ step ∷ step ∷ []) 4 2
  pub address : VirtualAddress
  pub there : WithoutCommands met.desk.map met.memory address
  pub argument : drop 68 met.saved ≡ bytes_of 4 address.0
  pub written : let f = frame_of (map_entry met.desk.map met.memory (page_of address)) in
      let a = (in_frame f address).0 in
      word_at (next_memory step met.desk met.memory) a ≢ word_at met.memory a

-- the bits of the long floating number that a desk reads at an address
abbrev pub long_at : Desk → Memory → VirtualAddress → OrAlarm ℕ
long_at d m x = read_bytes (view_of d m) Read (kind_length D) x

-- document 02, F-6: demand 3 includes its commands. ADD D of two numbers in memory, the sum written across two pages; MOVE D of it to R2
-- and R3; a request that the status level holds back; DIV D of it by zero to R4 and R5; and a
-- command that is alarm 14, for a D in form 1 as its second operand
pub record MetByFloats : Type 0 where
  pub met : Met (step ∷ step ∷ request 5 ∷ step ∷ step ∷ []) 4 14
  -- the byte of ADD D with three operands
  pub command : let r15 : VirtualAddress = record { 0 = reg met.desk.registers 15 } in
      read_bytes (view_of met.desk met.memory) Fetch 1 r15 ≡ got 0x85
  -- where its operands are, and the bits of the first two
  pub first : VirtualAddress
  pub second : VirtualAddress
  pub target : VirtualAddress
  pub a : ℕ
  pub b : ℕ
  pub reads : (long_at met.desk met.memory first ≡ got a) × (long_at met.desk met.memory second ≡ got b)
  -- the target's first and last byte lie in two pages
  pub two-pages : page_of target ≢ page_of (record { 0 = target.0 + 7 })
  pub written : let d = next_desk step met.desk met.memory in
      let m = next_memory step met.desk met.memory in
      long_at d m target ≡ got (arithmetic Add D a b).bits
  -- R2 and R3, as the kernel entry saves them, hold the sum
  pub moved : take 8 (drop 8 met.saved) ≡ bytes_of 8 (arithmetic Add D a b).bits
  -- and R4 and R5 the quotient: "Division by zero raises no alarm."
  pub divided : take 8 (drop 16 met.saved) ≡ bytes_of 8 (arithmetic Div D 0 (arithmetic Add D a b).bits).bits
  -- "14 the operand's place from 1"
  pub argument : drop 68 met.saved ≡ bytes_of 4 2

-- ---- Each premise is needed: with all the others but without this one, some list of calls tells the memories apart

pub record Needed (p : Premise) : Type 0 where
  pub desk : Desk
  pub memory : Memory
  pub other : Memory
  pub others : (q : Premise) → q ≢ p → Holds q desk memory other
  pub calls : List Call
  pub usable : Usable calls desk memory
  pub usable' : Usable calls desk other
  pub broken : Isolated desk memory other calls → ⊥

abbrev pub EachNeeded : Type 0
EachNeeded = (p : Premise) → Needed p
