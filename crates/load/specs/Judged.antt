-- Not the request: what number 1 and the judgement of a list have shown before anything is put.
use Rattle.std.specs.Prelude.{ℕ, ◌+◌, ◌≤◌, ◌<◌, ◌≡◌, true, List, length}
use Rattle.machine.specs.Words.{Memory}
use Rattle.lists.specs.declared.Command.{Command}
use Rattle.lists.specs.Lists.{put_bytes, well_formed, puts_of}
use Rattle.lists.specs.Refusals.{all_inside}

-- what a command puts from a place on, if anything, lies inside the memory
pub record Puttable (m : Memory) (place : ℕ) (c : Command) : Type 0 where
  pub inside : 0 < length (put_bytes c) → place + length (put_bytes c) ≤ length m

-- a well formed list, whose puts lie inside the memory, which is one that number 1 allows
pub record Sound (m : Memory) (list : List ℕ) : Type 0 where
  pub memory : length m < 0x1_0000_0000
  pub whole : well_formed list ≡ true
  pub inside : all_inside (length m) (puts_of list) ≡ true
