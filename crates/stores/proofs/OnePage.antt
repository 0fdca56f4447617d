-- What one lookup tells of the bytes in its page: a store of them.
use Rattle.std.proofs.Common.{◌≡◌, ℕ, List, length}
use lib.Seq.{sets}
use Rattle.machine.specs.declared.Access.TheVariants.{Write}
use Rattle.machine.specs.declared.Fault.{Fault}
use Rattle.machine.specs.declared.Map.{Map}
use Rattle.machine.specs.declared.RealAddress.{RealAddress}
use Rattle.machine.specs.declared.VirtualAddress.{VirtualAddress}
use Rattle.machine.specs.Words.{Memory}
use Rattle.machine.proofs.Writes.{commit_from}
use Rattle.lookup.proofs.Wholes.{Adjoin, adjoin_located, Stops, stops_located}
use Rattle.stores.specs.Answers.{wrote, failed, stored_in}

module _ {s : ℕ} {map : Map} {m : Memory} {x : VirtualAddress} (bs : List ℕ) {n : ℕ} (long : length bs ≡ n) where
  -- the first is found, and the memory has all of them laid there
  pub page_stored : {a : RealAddress} {after : Memory} → Adjoin s map m x Write n a → after ≡ sets m a.0 bs
      → wrote after ≡ stored_in s map m x bs
  page_stored f e = rw (adjoin_located bs long f, commit_from, e)

  -- the first has an alarm
  pub page_stopped : {e : Fault} → Stops s map m x Write n e → failed e.alarm e.argument m ≡ stored_in s map m x bs
  page_stopped f = rw (stops_located bs long f)
