-- A list of bytes puts bytes: numbers below 256.
use Prim.Native.Nat.{ℕ, zero, suc, ◌+◌, ◌*◌, ◌<◌}
use mathlib.Core.Path.{◌≡◌}
use mathlib.Core.Bool.{Bool, true, false}
use mathlib.Core.List.{List, [], ◌∷◌, ◌++◌}
use native.Mathlib.Omega.{arith}
use lib.Dec.{leb, eqb}
use lib.ListN.{length, replicate}
use Rattle.std.specs.Prelude.{Option, Some, None, Ok, Err}
use Rattle.machine.specs.Words.{pick, byte_at, word_at}
use Rattle.machine.specs.Map.{RealWrites, real_writes_from}
use Rattle.lists.specs.declared.Command.{Command}
use Rattle.lists.specs.declared.Command.TheVariants.{Move, Byte, Four, Copies}
use Rattle.lists.specs.declared.LoadRefusal.TheVariants.{Malformed}
use Rattle.lists.specs.Lists.{Next, width_in, next_by, next_at, Reading, malformed, commands, followed, reading_from}
use Rattle.lists.specs.Lists.{reading_of}
use Rattle.lists.specs.Lists.{commands_in, put_bytes, place_after, puts_from, puts_of, later_or, last_put}
use Rattle.lists.specs.Format.{AllBytes}

-- bytes in a row, of a command, of some commands, of some puts

Small : List ℕ → Type 0
Small [] = Unit {0}
Small (b ∷ bs) = (b < 256) × Small bs

SmallNext : Next → Type 0
SmallNext (Ok None) = Unit {0}
SmallNext (Ok (Some c)) = Small (put_bytes c)
SmallNext (Err u) = Unit {0}

SmallCommands : List Command → Type 0
SmallCommands [] = Unit {0}
SmallCommands (c ∷ cs) = Small (put_bytes c) × SmallCommands cs

SmallPuts : RealWrites → Type 0
SmallPuts [] = Unit {0}
SmallPuts (w ∷ ws) = (w.1 < 256) × SmallPuts ws

small_copies : (n b : ℕ) → b < 256 → Small (replicate n b)
unfolding Small
small_copies zero b h = tt
small_copies (suc n) b h = (h, small_copies n b h)

module _ (list : List ℕ) (all : AllBytes list) where
  -- by the tests for the byte at an offset
  small_by : (at : ℕ) (end move one four copies : Bool)
      → SmallNext
      (pick end (Ok None)
      (pick move (Ok (Some (Move (record { 0 = word_at list (at + 1) }))))
      (pick one (Ok (Some (Byte (byte_at list (at + 1)))))
      (pick four
      (Ok (Some (Four (byte_at list (at + 1)) (byte_at list (at + 2)) (byte_at list (at + 3)) (byte_at list (at + 4)))))
      (pick copies
      (Ok (Some (Copies (byte_at list (at + 1) * 0x100 + byte_at list (at + 2)) (byte_at list (at + 3)))))
      (Err Malformed))))))
  unfolding SmallNext Small
  small_by at true b c d e = tt
  small_by at false true c d e = tt
  small_by at false false true d e = (all (at + 1), tt)
  small_by at false false false true e = (all (at + 1), (all (at + 2), (all (at + 3), (all (at + 4), tt))))
  small_by at false false false false true =
      small_copies (byte_at list (at + 1) * 0x100 + byte_at list (at + 2)) (byte_at list (at + 3)) (all (at + 3))
  small_by at false false false false false = tt

  small_whole : (x : Next) (whole : Bool) → SmallNext x → SmallNext (pick whole x (Err Malformed))
  unfolding SmallNext
  small_whole x true h = h
  small_whole x false h = tt

  small_next : (at : ℕ) → SmallNext (next_at list at)
  unfolding next_at next_by
  small_next at =
      let k = byte_at list at in
      small_whole (next_by k list at) (leb (at + width_in (next_by k list at)) (length list))
      (small_by at (eqb k 0x00) (eqb k 0x01) (eqb k 0x02) (eqb k 0x03) (eqb k 0x04))

  small_followed : (x : Next) (last : Bool) (r : Reading) → SmallNext x → SmallCommands (commands_in r)
      → SmallCommands (commands_in (followed x last r))
  unfolding followed SmallNext SmallCommands
  small_followed (Ok None) true r h k = tt
  small_followed (Ok None) false r h k = tt
  small_followed (Ok (Some c)) last malformed h k = tt
  small_followed (Ok (Some c)) last (commands cs) h k = (h, k)
  small_followed (Err u) last r h k = tt

  small_reading : (n at : ℕ) → SmallCommands (commands_in (reading_from n list at))
  unfolding reading_from SmallCommands
  small_reading zero at = tt
  small_reading (suc n) at =
      let next = at + width_in (next_at list at) in
      small_followed (next_at list at) (eqb (at + 1) (length list)) (reading_from n list next) (small_next at)
      (small_reading n next)

small_append : (x y : RealWrites) → SmallPuts x → SmallPuts y → SmallPuts (x ++ y)
unfolding SmallPuts
small_append [] y h k = k
small_append (w ∷ ws) y h k = (h.0, small_append ws y h.1 k)

small_row : (a : ℕ) (bs : List ℕ) → Small bs → SmallPuts (real_writes_from a bs)
unfolding Small SmallPuts real_writes_from
small_row a [] h = tt
small_row a (b ∷ bs) h = (h.0, small_row (suc a) bs h.1)

small_puts : (place : ℕ) (cs : List Command) → SmallCommands cs → SmallPuts (puts_from place cs)
unfolding SmallCommands SmallPuts puts_from
small_puts place [] h = tt
small_puts place (c ∷ cs) h =
    small_append (real_writes_from place (put_bytes c)) _ (small_row place (put_bytes c) h.0)
    (small_puts (place_after place c) cs h.1)

small_last : (ws : RealWrites) (a b : ℕ) → SmallPuts ws → last_put a ws ≡ Some b → b < 256
unfolding SmallPuts last_put
small_last [] a b h e = let z : ◌≡◌ {A = ℕ} 0 1 = cc in omega arith
small_last (w ∷ ws) a b h e = go (last_put a ws) (eqb w.0.0 a) (small_last ws a b h.1) e
  where
    go : (x : Option ℕ) (t : Bool) → (x ≡ Some b → b < 256) → later_or x (pick t (Some w.1) None) ≡ Some b → b < 256
    go (Some d) t k f = k f
    go None true k f = let q : w.1 ≡ b = cc in omega (arith, h.0)
    go None false k f = let z : ◌≡◌ {A = ℕ} 0 1 = cc in omega arith

pub last_put_byte : (list : List ℕ) → AllBytes list → (a b : ℕ) → last_put a (puts_of list) ≡ Some b → b < 256
unfolding puts_of reading_of
last_put_byte list all a b =
    small_last (puts_of list) a b (small_puts 0 (commands_in (reading_of list)) (small_reading list all (length list) 0))
