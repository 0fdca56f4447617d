-- A status keeps its flags; a store's end as a command's.
use Prim.Native.Nat.{ℕ}
use mathlib.Core.Path.{◌≡◌, refl}
use native.Mathlib.Omega.{arith}
use Rattle.machine.specs.Words.{Memory}
use Rattle.machine.specs.State.{flags_of, with_flags}
use Rattle.machine.specs.Alarms.{OrAlarm, got, alarm}
use Rattle.machine.specs.Map.{View, RealWrites, located}
use Rattle.machine.specs.Commands.{Done}
use Rattle.stores.specs.Answers.{StoreEnd, store_end_of}
use Rattle.results.specs.Ends.{after_store, written_end, done_end}

pub same_status : (s : ℕ) → with_flags s (flags_of s) ≡ s
unfolding with_flags
same_status s = omega arith

module _ (s : ℕ) (m : Memory) where
  -- a store of what a command writes ends the command
  pub written : (d : Done) (t : OrAlarm RealWrites)
      → after_store (store_end_of m t) d.registers (with_flags s d.flags) ≡ written_end s m d t
  written d (got ws) = refl
  written d (alarm n x) = refl

  -- and so does its answer
  pub stored-end : (v : View) (d : Done) (t : StoreEnd) → t ≡ store_end_of m (located v d.writes)
      → after_store t d.registers (with_flags s d.flags) ≡ done_end s m v (got d)
  stored-end v d t h = rw h (written d (located v d.writes))
