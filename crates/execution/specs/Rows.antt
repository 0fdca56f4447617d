-- Commands in a row, in the terms of `machine`: each runs after the one before has ended quietly.
use Rattle.std.specs.Prelude.{ℕ, zero, suc, ◌+◌, ◌≤◌, ◌<◌, ◌≡◌, true, false, List, ◌⊎◌, Result, Ok, Err}
use Rattle.machine.specs.declared.Fault.{Fault}
use Rattle.machine.specs.declared.Map.{Map}
use Rattle.machine.specs.Words.{Memory}
use Rattle.machine.specs.State.{Registers, reg}
use Rattle.watch.specs.Addresses.{among}
use Rattle.results.specs.declared.Out.{Out}
use Rattle.results.specs.declared.Out.TheVariants as out
use Rattle.results.specs.Ends.{End, command_done, system_called, halted, resumed, alarmed, out_as}
use Rattle.commands.specs.Execution.{exec_of}

-- the next command, where the one before ended quietly
abbrev pub followed : Map → End → End
followed map (command_done r s m) = exec_of s map r m
followed map (system_called x r m) = system_called x r m
followed map (halted r m) = halted r m
followed map (resumed a m) = resumed a m
followed map (alarmed k x m) = alarmed k x m

-- k commands, with status s and registers r over memory m
unfoldable pub in_row : ℕ → ℕ → Map → Registers → Memory → End
in_row zero s map r m = command_done r s m
in_row (suc k) s map r m = followed map (in_row k s map r m)

-- the next command, where there is one, is at none of these addresses
abbrev pub Elsewhere : List ℕ → End → Type 0
Elsewhere addresses (command_done r s m) = among (reg r 15) addresses ≡ false
Elsewhere addresses (system_called x r m) = Unit {0}
Elsewhere addresses (halted r m) = Unit {0}
Elsewhere addresses (resumed a m) = Unit {0}
Elsewhere addresses (alarmed k x m) = Unit {0}

-- of the first k commands, only the first of all may be at one of the addresses
abbrev pub Passed : List ℕ → ℕ → ℕ → Map → Registers → Memory → Type 0
Passed addresses k s map r m = (j : ℕ) → 0 < j → j < k → Elsewhere addresses (in_row j s map r m)

module _ (addresses : List ℕ) where
  -- k of n commands ended quietly and left registers q, status t and memory y: all of them, or up to one
  -- at one of the addresses
  pub record Paused (n s : ℕ) (map : Map) (r : Registers) (m : Memory) (q : Registers) (t k : ℕ)
      (y : Memory) : Type 0 where
    pub some : 0 < n → 0 < k
    pub few : k ≤ n
    pub quiet : command_done q t y ≡ in_row k s map r m
    pub passed : Passed addresses k s map r m
    pub ends : (k ≡ n) ⊎ (among (reg q 15) addresses ≡ true)

  -- k of n commands ended quietly and left registers q, status t and memory y; the next did not, and
  -- ended so with registers w
  pub record Halfway (n s : ℕ) (map : Map) (r : Registers) (m : Memory) (q : Registers) (t k : ℕ) (w : Registers)
      (y : Memory) (o : Result Out Fault) : Type 0 where
    pub more : k < n
    pub quiet : command_done q t y ≡ in_row k s map r m
    pub passed : Passed addresses (k + 1) s map r m
    pub next : out_as o w y ≡ exec_of t map q y

  -- what n commands came to; o is how the one after the quiet ones ended, where one did
  abbrev pub Rowed : ℕ → ℕ → Map → Registers → Memory → Registers → ℕ → ℕ → Registers → Memory → Result Out Fault → Type 0
  Rowed n s map r m q t k w y (Ok (out.Done u)) = Paused n s map r m q t k y
  Rowed n s map r m q t k w y (Ok (out.System x)) = Halfway n s map r m q t k w y (Ok (out.System x))
  Rowed n s map r m q t k w y (Ok out.Halt) = Halfway n s map r m q t k w y (Ok out.Halt)
  Rowed n s map r m q t k w y (Ok (out.Resume a)) = Halfway n s map r m q t k w y (Ok (out.Resume a))
  Rowed n s map r m q t k w y (Err e) = Halfway n s map r m q t k w y (Err e) × (w ≡ q)
