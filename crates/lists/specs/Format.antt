-- A list is read as some commands exactly where it is the bytes of these, one after another, and an
-- end. Statements only.
use Rattle.std.specs.Prelude.{ℕ, ◌<◌, ◌≡◌, List, [], ◌∷◌, length}
use Rattle.machine.specs.Words.{byte_at}
use Rattle.lists.specs.declared.Command.{Command}
use Rattle.lists.specs.declared.Command.TheVariants.{Move, Byte, Four, Copies}
use Rattle.lists.specs.Lists.{bytes_of_command, list_of, width_of, commands, reading_of}

-- "a four-byte address", "a two-byte count": its numbers have room in them
abbrev pub HasRoom : Command → Type 0
HasRoom (Move a) = a.0 < 0x1_0000_0000
HasRoom (Byte b) = Unit {0}
HasRoom (Four a b c d) = Unit {0}
HasRoom (Copies n b) = n < 0x1_0000

abbrev pub AllHaveRoom : List Command → Type 0
AllHaveRoom [] = Unit {0}
AllHaveRoom (c ∷ cs) = HasRoom c × AllHaveRoom cs

-- what a slice holds: bytes
abbrev pub AllBytes : List ℕ → Type 0
AllBytes list = (i : ℕ) → byte_at list i < 256

pub record Format : Type 0 where
  -- commands whose numbers have room are read as they are written
  pub read : (cs : List Command) → AllHaveRoom cs → reading_of (list_of cs) ≡ commands cs
  -- a list that is read as some commands is those written, and their numbers have room
  pub only : (list : List ℕ) → AllBytes list → (cs : List Command) → reading_of list ≡ commands cs
      → (list ≡ list_of cs) × AllHaveRoom cs
  -- the width of a command is that of its bytes
  pub width : (c : Command) → length (bytes_of_command c) ≡ width_of c
