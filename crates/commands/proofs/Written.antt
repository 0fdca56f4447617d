-- A command that writes some bytes that were found, and nothing else, is done.
use Prim.Native.Nat.{ℕ, ◌<◌}
use mathlib.Core.Path.{◌≡◌}
use lib.Seq.{sets}
use Rattle.machine.specs.declared.Access.TheVariants.{Write}
use Rattle.machine.specs.declared.Map.{Map}
use Rattle.machine.specs.declared.RealAddress.{RealAddress}
use Rattle.machine.specs.declared.VirtualAddress.{VirtualAddress}
use Rattle.machine.specs.Words.{Memory, bytes_of}
use Rattle.machine.specs.State.{with_flags}
use Rattle.machine.specs.Alarms.{got}
use Rattle.machine.specs.Map.{view_by, writes_from}
use Rattle.machine.specs.Commands.{Done}
use Rattle.machine.proofs.Bytes.{bytes_length}
use Rattle.machine.proofs.Writes.{commit_from}
use Rattle.lookup.specs.Answers.{Fits}
use Rattle.lookup.proofs.Wholes.{adjoin_located}
use Rattle.results.specs.Ends.{command_done, done_end}
use Rattle.sure.specs.Answers.{Placed}
use Rattle.sure.proofs.Places.{placed_adjoins}

module _ {n : ℕ} (some : 0 < n) {s : ℕ} {map : Map} {m : Memory} {x : VirtualAddress} {a : RealAddress}
    (f : Placed s map m n x Write a) (fits : Fits map m) where
  pub written : (d : Done) (value : ℕ) {after : Memory} → d.writes ≡ writes_from x.0 (bytes_of n value)
      → after ≡ sets m a.0 (bytes_of n value)
      → command_done d.registers (with_flags s d.flags) after ≡ done_end s m (view_by s map m) (got d)
  written d value e h =
      rw (e, adjoin_located (bytes_of n value) (bytes_length n value) (placed_adjoins some f fits), commit_from, h)
