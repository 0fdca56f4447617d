-- Request F-1 of document 02: the call `load`, for every memory and every list. "Loading leaves
-- unmentioned memory untouched, and a refused list changes nothing. Refused: .. tried in that order
-- after 1."
use Rattle.std.specs.Prelude.{ℕ, List, length, Ok, Err}
use Rattle.machine.specs.Words.{Memory}
use Rattle.machine.specs.Map.{RealWrites, commit}
use Rattle.machine.specs.Calls.{passes1}
use Rattle.lists.specs.declared.LoadRefusal.TheVariants.{Length}
use Rattle.lists.specs.Lists.{puts_of}
use Rattle.lists.specs.Refusals.{LoadAnswer, unless, list_refusal}

-- an answer with the memory that it leaves
pub record Loaded : Type 0 where
  pub answer : LoadAnswer
  pub memory : Memory

abbrev pub loaded : LoadAnswer → Memory → Loaded
loaded a m = record { answer = a; memory = m }

-- "tried in that order after 1": of at most `limit` pieces, for a memory of n bytes
unfoldable pub load_refusal : ℕ → ℕ → List ℕ → LoadAnswer
load_refusal limit n list = unless (passes1 n) Length (list_refusal limit n list)

-- "a refused list changes nothing"
unfoldable pub loaded_by : LoadAnswer → RealWrites → Memory → Loaded
loaded_by (Ok u) puts m = loaded (Ok tt) (commit puts m)
loaded_by (Err k) puts m = loaded (Err k) m

-- a list of at most `limit` pieces
unfoldable pub load_of : ℕ → Memory → List ℕ → Loaded
load_of limit m list = loaded_by (load_refusal limit (length m) list) (puts_of list) m
