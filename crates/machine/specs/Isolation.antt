-- Demand 3, with the last paragraph of document 01's "One step": "Demand 3 is a single claim about
-- its list, not one for each call." The list is given alike to two desks in user mode that are
-- equal except in memory. "Each desk starts from the state and memory handed in, also where calls
-- refuse them or the desk is already stopped": no validity of state or memory is assumed. "Demand 3
-- means the map, its entries and the reached frames as they are before the first call."
use Rattle.std.specs.Prelude.{ℕ, suc, ◌+◌, ◌≤◌, ◌<◌, true, ◌≡◌, List, [], ◌∷◌, ◌↔◌, length, Ok, Err}
use Rattle.std.proofs.Math.Option.{Option, none, some}
use Rattle.std.proofs.lemmas.List.Edits.{sets}
use Rattle.machine.specs.declared.Desk.{Desk}
use Rattle.machine.specs.declared.FrameNumber.{FrameNumber}
use Rattle.machine.specs.Words.{Memory, byte_at}
use Rattle.machine.specs.State.{user_mode, frame_around, system_block_bytes, saved_byte_count}
use Rattle.machine.specs.Map.{Reached, WritableReached, InMap, commit}
use Rattle.machine.specs.Steps.{Event, quiet, entered, stopped, Outcome}
use Rattle.machine.specs.Calls.{Answer, step_refusal, step_outcome, request_refusal, request_outcome}

-- ---- The list

-- "The list holds single steps and level requests, with any number as the level, in any order and
-- of any length; a run is steps by demand 2 and needs no place in it."
pub data Call : Type 0 where
  step : Call
  request : ℕ → Call

abbrev pub refusal_of : Call → Desk → Memory → Answer
refusal_of step d m = step_refusal d (length m)
refusal_of (request level) d m = request_refusal d level

abbrev pub outcome_of : Call → Desk → Memory → Outcome
outcome_of step d m = step_outcome d m
outcome_of (request level) d m = request_outcome d level

-- "Each call gets the state that the call before it returned, each step also the memory as the
-- steps before it left it"
abbrev pub next_desk : Call → Desk → Memory → Desk
next_desk c d m = (outcome_of c d m).desk

abbrev pub next_memory : Call → Desk → Memory → Memory
next_memory c d m = commit (outcome_of c d m).writes m

abbrev pub event_of : Call → Desk → Memory → Event
event_of c d m = (outcome_of c d m).event

-- ---- The premises

-- the byte at place a belongs to the system block; past the memory both read 0
pub record InSystemBlock (d : Desk) (a : ℕ) : Type 0 where
  pub low : d.system.0 ≤ a
  pub high : a < d.system.0 + system_block_bytes

pub data Premise : Type 0 where
  inUserMode oneLength sameMap sameSystemBlock sameReachedFrames mapNotWritable : Premise

-- for desk d over the memories m and n
abbrev pub Holds : Premise → Desk → Memory → Memory → Type 0
-- "Let two desks in user mode be equal except in memory"
Holds inUserMode d m n = user_mode d.status ≡ true
-- "Let the memories have one length"
Holds oneLength d m n = length m ≡ length n
-- "and agree on the map,"
Holds sameMap d m n = (a : ℕ) → InMap d.map m a → byte_at m a ≡ byte_at n a
-- "the system block"
Holds sameSystemBlock d m n = (a : ℕ) → InSystemBlock d a → byte_at m a ≡ byte_at n a
-- "and each frame the map reaches,"
Holds sameReachedFrames d m n = (a : ℕ) → Reached d.map m (frame_around a) → byte_at m a ≡ byte_at n a
-- "and let no writable map entry name a frame holding part of the map"
Holds mapNotWritable d m n = (a : ℕ) → InMap d.map m a → WritableReached d.map m (frame_around a) → ⊥

-- ---- The conclusions; o and m are desk and memory before the first call

-- what a call may change in the memory x, which it leaves as y: "Until then no byte outside
-- writable reached frames changes; the entry itself writes only its 72 saved bytes, a stop none"
abbrev pub Changed : Desk → Memory → Event → Memory → Memory → Type 0
Changed o m quiet x y =
    (length y ≡ length x) × ((a : ℕ) → (WritableReached o.map m (frame_around a) → ⊥) → byte_at y a ≡ byte_at x a)
Changed o m (entered i saved) x y = (length saved ≡ saved_byte_count) × (y ≡ sets x o.control.0 saved)
Changed o m (stopped n) x y = y ≡ x

-- one call, given alike to desk d over memory x and to desk e over memory y: "After each call, up
-- to and including the first that enters the kernel or stops the desk, these are equal on both: its
-- refusal, the whole state that travels by value (status, pending set and mark too), and every
-- reached byte."
pub record Alike (o : Desk) (m : Memory) (c : Call) (d : Desk) (x : Memory) (e : Desk) (y : Memory) : Type 0 where
  -- "they give the same refusals"
  pub refusals : refusal_of c d x ≡ refusal_of c e y
  -- "and show equal registers, flags": "the whole state that travels by value (status, pending set
  -- and mark too)"
  pub desks : next_desk c d x ≡ next_desk c e y
  -- "and reached bytes after each of them"
  pub reached : (a : ℕ) → Reached o.map m (frame_around a) → byte_at (next_memory c d x) a ≡ byte_at (next_memory c e y) a
  -- "an entry with the same cause and saved bytes, a stop with the same number"
  pub events : event_of c d x ≡ event_of c e y
  pub changes : Changed o m (event_of c d x) x (next_memory c d x)
  pub changes' : Changed o m (event_of c e y) y (next_memory c e y)

-- the whole list, "up to and including the first kernel entry or stop"
abbrev pub AllAlike : Desk → Memory → List Call → Desk → Memory → Desk → Memory → Type 0
AllAlike o m [] d x e y = Unit {0}
AllAlike o m (c ∷ cs) d x e y =
    Alike o m c d x e y × (event_of c d x ≡ quiet → AllAlike o m cs (next_desk c d x) (next_memory c d x)
    (next_desk c e y) (next_memory c e y))

-- the place in the list, from i, of the first kernel entry or stop, and which it is
abbrev pub end_at : ℕ → Event → Option (ℕ × Event) → Option (ℕ × Event)
end_at i quiet later = later
end_at i (entered n saved) later = some (i, entered n saved)
end_at i (stopped n) later = some (i, stopped n)

abbrev pub end_of : ℕ → List Call → Desk → Memory → Option (ℕ × Event)
end_of i [] d m = none
end_of i (c ∷ cs) d m = end_at i (event_of c d m) (end_of (suc i) cs (next_desk c d m) (next_memory c d m))

pub record Isolated (d : Desk) (m n : Memory) (cs : List Call) : Type 0 where
  -- the words mean the same frames in both memories
  pub reach : (f : FrameNumber) → Reached d.map m f ↔ Reached d.map n f
  pub write : (f : FrameNumber) → WritableReached d.map m f ↔ WritableReached d.map n f
  pub calls : AllAlike d m cs d m d n
  -- "If one comes, it comes at the same place in the list on both"
  pub ends : end_of 0 cs d m ≡ end_of 0 cs d n

abbrev pub Demand3 : Type 0
Demand3 = (d : Desk) (m n : Memory) → ((p : Premise) → Holds p d m n) → (cs : List Call) → Isolated d m n cs
