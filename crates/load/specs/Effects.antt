-- Request F-1 of document 02, what it says of loading beyond the answer, for every memory, every list
-- and every limit of pieces. Statements only.
use Rattle.std.specs.Prelude.{ℕ, ◌≡◌, List, length, Some, None, Ok, Err}
use Rattle.machine.specs.Words.{Memory, byte_at}
use Rattle.lists.specs.declared.LoadRefusal.{LoadRefusal}
use Rattle.lists.specs.Lists.{puts_of, last_put, or_old}
use Rattle.load.specs.Loading.{load_of}

pub record LoadEffects (limit : ℕ) (m : Memory) (list : List ℕ) : Type 0 where
  -- "a refused list changes nothing"
  pub refused : (k : LoadRefusal) → (load_of limit m list).answer ≡ Err k → (load_of limit m list).memory ≡ m
  -- a list that is loaded leaves at each address the byte of its last put there, else the old one
  pub each : (load_of limit m list).answer ≡ Ok tt → (a : ℕ)
      → byte_at (load_of limit m list).memory a ≡ or_old (last_put a (puts_of list)) (byte_at m a)
  -- "Loading leaves unmentioned memory untouched": an address at which no put is keeps its byte
  pub unmentioned : (a : ℕ) → last_put a (puts_of list) ≡ None → byte_at (load_of limit m list).memory a ≡ byte_at m a
  -- "a later put wins": where a list that is loaded puts, the byte of its last put there stands
  pub last : (load_of limit m list).answer ≡ Ok tt → (a b : ℕ) → last_put a (puts_of list) ≡ Some b
      → byte_at (load_of limit m list).memory a ≡ b
  -- the memory keeps its length
  pub length-kept : length (load_of limit m list).memory ≡ length m

abbrev pub Effects : Type 0
Effects = (limit : ℕ) (m : Memory) (list : List ℕ) → LoadEffects limit m list
