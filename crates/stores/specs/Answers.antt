-- How a store ends, with the memory that it leaves, in the terms of `machine`.
use Rattle.std.specs.Prelude.{ℕ, List, Result, Ok, Err}
use Rattle.machine.specs.declared.Alarm.{Alarm}
use Rattle.machine.specs.declared.Fault.{Fault}
use Rattle.machine.specs.declared.Map.{Map}
use Rattle.machine.specs.declared.VirtualAddress.{VirtualAddress}
use Rattle.machine.specs.Words.{Memory}
use Rattle.machine.specs.Alarms.{OrAlarm, got, alarm}
use Rattle.machine.specs.Map.{view_by, RealWrites, writes_from, located, commit}

pub data StoreEnd : Type 0 where
  wrote : Memory → StoreEnd
  failed : Alarm → ℕ → Memory → StoreEnd

abbrev pub stored_as : Result (Unit {0}) Fault → Memory → StoreEnd
stored_as (Ok u) m = wrote m
stored_as (Err e) m = failed e.alarm e.argument m

abbrev pub store_end_of : Memory → OrAlarm RealWrites → StoreEnd
store_end_of m (got ws) = wrote (commit ws m)
store_end_of m (alarm k x) = failed k x m

-- some bytes to the addresses from x on, by status and map
abbrev pub stored_in : ℕ → Map → Memory → VirtualAddress → List ℕ → StoreEnd
stored_in s map m x bytes = store_end_of m (located (view_by s map m) (writes_from x.0 bytes))
