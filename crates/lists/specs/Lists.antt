-- Request F-1 of document 02, load lists: "Suppliers send code in parts with their own addresses, as
-- the load parts of document 000, 4.1. A list is a row of one-byte commands with operands of fixed
-- widths: 01h and a four-byte address moves the place, 02h and a byte puts it, 03h and four bytes
-- puts them, 04h with a two-byte count and a byte puts that many copies (0 puts none), 00h ends. Puts
-- advance the place, which starts at 0; a later put wins. 02h, 03h and 04h count as pieces." Document
-- 000 calls such an address one of the working store: it is a real address. The commands are the
-- cases of `Command` in src/lib.rt.
use Rattle.std.specs.Prelude.{ℕ, zero, suc, ◌+◌, ◌*◌, Bool, true, false, List, [], ◌∷◌, ◌++◌, leb, eqb, length, replicate}
use Rattle.std.specs.Prelude.{Option, Some, None, Result, Ok, Err}
use Rattle.machine.specs.Words.{pick, byte_at, bytes_of, word_at}
use Rattle.machine.specs.Map.{RealWrites, real_writes_from}
use Rattle.lists.specs.declared.Command.{Command}
use Rattle.lists.specs.declared.Command.TheVariants.{Move, Byte, Four, Copies}
use Rattle.lists.specs.declared.LoadRefusal.{LoadRefusal}
use Rattle.lists.specs.declared.LoadRefusal.TheVariants.{Malformed}

-- ---- How a list is written

abbrev pub bytes_of_command : Command → List ℕ
-- "01h and a four-byte address"
bytes_of_command (Move a) = 0x01 ∷ bytes_of 4 a.0
-- "02h and a byte"
bytes_of_command (Byte b) = 0x02 ∷ b ∷ []
-- "03h and four bytes"
bytes_of_command (Four a b c d) = 0x03 ∷ a ∷ b ∷ c ∷ d ∷ []
-- "04h with a two-byte count and a byte"
bytes_of_command (Copies n b) = 0x04 ∷ bytes_of 2 n ++ b ∷ []

-- "a row of one-byte commands"; "00h ends"
unfoldable pub list_of : List Command → List ℕ
list_of [] = 0x00 ∷ []
list_of (c ∷ cs) = bytes_of_command c ++ list_of cs

-- ---- How a list is read: that this is its inverse is the theorem of Format.antt

-- "operands of fixed widths": the bytes of a command, its own byte too
abbrev pub width_of : Command → ℕ
width_of (Move a) = 5
width_of (Byte b) = 2
width_of (Four a b c d) = 5
width_of (Copies n b) = 4

-- what stands at an offset of a list: a command, Ok (Some c); its end, Ok None; or neither, a refusal
abbrev pub Next : Type 0
Next = Result (Option Command) LoadRefusal

-- where nothing can be read any positive number will do
abbrev pub width_in : Next → ℕ
width_in (Ok None) = 1
width_in (Ok (Some c)) = width_of c
width_in (Err k) = 1

-- by the byte at an offset of a list, with the operands behind it; "unknown command"
unfoldable pub next_by : ℕ → List ℕ → ℕ → Next
next_by c list at =
    pick (eqb c 0x00) (Ok None)
    (pick (eqb c 0x01) (Ok (Some (Move (record { 0 = word_at list (at + 1) }))))
    (pick (eqb c 0x02) (Ok (Some (Byte (byte_at list (at + 1)))))
    (pick (eqb c 0x03)
    (Ok (Some (Four (byte_at list (at + 1)) (byte_at list (at + 2)) (byte_at list (at + 3)) (byte_at list (at + 4)))))
    (pick (eqb c 0x04)
    (Ok (Some (Copies (byte_at list (at + 1) * 0x100 + byte_at list (at + 2)) (byte_at list (at + 3)))))
    (Err Malformed)))))

-- what stands at an offset of a list, if the list has all its bytes; "a list cut short"
unfoldable pub next_at : List ℕ → ℕ → Next
next_at list at =
    let x = next_by (byte_at list at) list at in
    pick (leb (at + width_in x) (length list)) x (Err Malformed)

-- a list's commands up to its end; or that it is malformed
pub data Reading : Type 0 where
  malformed : Reading
  commands : List Command → Reading

abbrev pub before : Command → Reading → Reading
before c malformed = malformed
before c (commands cs) = commands (c ∷ cs)

-- by what stands at an offset, whether that is the list's last byte, and what is read behind it
unfoldable pub followed : Next → Bool → Reading → Reading
-- "00h ends"
followed (Ok None) true rest = commands []
-- "bytes after its end"
followed (Ok None) false rest = malformed
followed (Ok (Some c)) last rest = before c rest
followed (Err k) last rest = malformed

-- from an offset of the list on, at most so many commands, the end counted
unfoldable pub reading_from : ℕ → List ℕ → ℕ → Reading
reading_from zero list at = malformed
reading_from (suc n) list at =
    let x = next_at list at in
    let rest = reading_from n list (at + width_in x) in
    followed x (eqb (at + 1) (length list)) rest

-- the whole list, which has no more commands than bytes, the end counted
unfoldable pub reading_of : List ℕ → Reading
reading_of list = reading_from (length list) list 0

-- ---- What commands put

-- the bytes that a command puts, in order
abbrev pub put_bytes : Command → List ℕ
put_bytes (Move a) = []
put_bytes (Byte b) = b ∷ []
put_bytes (Four a b c d) = a ∷ b ∷ c ∷ d ∷ []
-- "that many copies (0 puts none)"
put_bytes (Copies n b) = replicate n b

-- "01h .. moves the place"; "Puts advance the place". A whole number: it does not wrap
abbrev pub place_after : ℕ → Command → ℕ
place_after place (Move a) = a.0
place_after place (Byte b) = place + 1
place_after place (Four a b c d) = place + 4
place_after place (Copies n b) = place + n

-- the puts of some commands, from a place on: each an address and its byte, in order
unfoldable pub puts_from : ℕ → List Command → RealWrites
puts_from place [] = []
puts_from place (c ∷ cs) = real_writes_from place (put_bytes c) ++ puts_from (place_after place c) cs

-- "02h, 03h and 04h count as pieces"
abbrev pub piece_count : Command → ℕ
piece_count (Move a) = 0
piece_count (Byte b) = 1
piece_count (Four a b c d) = 1
piece_count (Copies n b) = 1

unfoldable pub pieces_in : List Command → ℕ
pieces_in [] = 0
pieces_in (c ∷ cs) = piece_count c + pieces_in cs

-- ---- What a list puts: nothing, and it has no pieces, where it is malformed

abbrev pub commands_in : Reading → List Command
commands_in malformed = []
commands_in (commands cs) = cs

abbrev pub well_formed_in : Reading → Bool
well_formed_in malformed = false
well_formed_in (commands cs) = true

unfoldable pub well_formed : List ℕ → Bool
well_formed list = well_formed_in (reading_of list)

unfoldable pub pieces_of : List ℕ → ℕ
pieces_of list = pieces_in (commands_in (reading_of list))

-- "the place, which starts at 0"
unfoldable pub puts_of : List ℕ → RealWrites
puts_of list = puts_from 0 (commands_in (reading_of list))

-- ---- The last put at an address: "a later put wins"

-- a later byte, if there is one
abbrev pub later_or : Option ℕ → Option ℕ → Option ℕ
later_or (Some b) x = Some b
later_or None x = x

-- the byte of the last put at an address, if there is one
unfoldable pub last_put : ℕ → RealWrites → Option ℕ
last_put a [] = None
last_put a (w ∷ ws) = later_or (last_put a ws) (pick (eqb w.0.0 a) (Some w.1) None)

-- that byte, else the old one
abbrev pub or_old : Option ℕ → ℕ → ℕ
or_old (Some b) old = b
or_old None old = old
