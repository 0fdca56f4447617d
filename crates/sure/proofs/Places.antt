-- What is known of bytes that were found in one page: their address has 32 bits, they lie in memory,
-- and they may be read there, for whatever reason they were looked up.
use Prim.Native.Nat.{ℕ, ◌+◌, ◌≤◌, ◌<◌}
use mathlib.Core.Path.{◌≡◌, refl, sym, ap, ◌∙◌}
use mathlib.Core.Bool.{Bool, true, false}
use native.Mathlib.Omega.{arith}
use borrow.Author.Tests.{ltb-true}
use lib.Dec.{ltb}
use lib.ListN.{length}
use Rattle.machine.specs.declared.Access.{Access}
use Rattle.machine.specs.declared.Access.TheVariants.{Read}
use Rattle.machine.specs.declared.Alarm.{Alarm}
use Rattle.machine.specs.declared.Map.{Map}
use Rattle.machine.specs.declared.RealAddress.{RealAddress}
use Rattle.machine.specs.declared.Size.{Size}
use Rattle.machine.specs.declared.VirtualAddress.{VirtualAddress}
use Rattle.machine.specs.Words.{pick, Memory, length_of, value_at, word_at}
use Rattle.machine.specs.State.{user_mode}
use Rattle.machine.specs.Alarms.{got, alarm}
use Rattle.machine.specs.Map.{page_of, map_entry, present, frame_of, undamaged, Found, found_at, in_frame, allows_write}
use Rattle.machine.specs.Map.{allows_fetch, in_number_order, mapped, unmapped, view_by, read_bytes}
use Rattle.machine.specs.OnePage.{InOnePage}
use Rattle.machine.proofs.Bytes.{four_byte_value}
use Rattle.machine.proofs.Views.{order_got}
use Rattle.std.specs.Prelude.{Option, Some, Result, Ok}
use Rattle.machine.specs.declared.Fault.{Fault}
use Rattle.lookup.specs.Answers.{Fits, WholeOf}
use Rattle.words.proofs.Values.{length_bounds}
use Rattle.lookup.proofs.Wholes.{Adjoin, adjoin_inside, adjoin_read}
use Rattle.sure.specs.Answers.{Placed}

-- an answer that names a place
pub placed : {s : ℕ} {map : Map} {m : Memory} {n : ℕ} {x : VirtualAddress} {w : Access} {a : RealAddress} {q : Result (Option RealAddress) Fault}
    → q ≡ Ok (Some a) → WholeOf (view_by s map m) m x n w q → Placed s map m n x w a
placed {s} {map} {m} {n} {x} {w} {a} e h =
    let told : InOnePage x n × (view_by s map m x w ≡ got (found_at m a)) = rw e at h in
    record { hit = told.1; near = told.0 }

-- where bytes were found, so are the first of them
pub placed_fewer : {s : ℕ} {map : Map} {m : Memory} {n k : ℕ} {x : VirtualAddress} {w : Access} {a : RealAddress}
    → k ≤ n → Placed s map m n x w a → Placed s map m k x w a
placed_fewer h f = record { hit = f.hit; near = omega (arith, h, f.near) }

-- ---- An address that is found has 32 bits: the map and the memory are small

test_held : (b : Bool) (f g : Found) (k : Alarm) (y : ℕ) → pick b (got f) (alarm k y) ≡ got g → b ≡ true
test_held true f g k y h = refl
test_held false f g k y h = cc

found_small : (s : ℕ) {map : Map} {m : Memory} (x : VirtualAddress) (w : Access) {f : Found} → Fits map m
    → view_by s map m x w ≡ got f → x.0 < 0x1_0000_0000
unfolding view_by mapped unmapped
found_small s {map} {m} x w {f} fits = go (user_mode s)
  where
    go : (u : Bool) → pick u (mapped map m) (unmapped m) x w ≡ got f → x.0 < 0x1_0000_0000
    go true h = let below = ltb-true (page_of x) map.length (order_got _ _ _ _ _ _ _ _ h).0 in omega arith
    go false h =
        let below = ltb-true x.0 (length m) (test_held (ltb x.0 (length m)) _ _ _ _ h) in omega arith

-- ---- What is found for some reason may be read

readable : (s : ℕ) (map : Map) (m : Memory) (x : VirtualAddress) (w : Access) (f : Found)
    → view_by s map m x w ≡ got f → view_by s map m x Read ≡ got f
unfolding view_by mapped unmapped in_number_order allows_write allows_fetch
readable s map m x w f = go (user_mode s)
  where
    go : (u : Bool) → pick u (mapped map m) (unmapped m) x w ≡ got f
        → pick u (mapped map m) (unmapped m) x Read ≡ got f
    go true h =
        let e = map_entry map m (page_of x) in
        let t = order_got (ltb (page_of x) map.length) (present e) (undamaged (length m) e) (allows_write w e)
        (allows_fetch w e) x (found_at m (in_frame (frame_of e) x)) f h in
        rw (t.0, t.1, t.2) (ap got t.5)
    go false h = h

-- ---- The bytes

-- a value of a size has some
pub has_bytes : (size : Size) → 0 < length_of size
has_bytes size = omega (arith, length_bounds size)

module _ {n : ℕ} (some : 0 < n) where
  -- they adjoin each other, for any reason that the first is found for
  adjoins : {s : ℕ} {map : Map} {m : Memory} {x : VirtualAddress} {w : Access} {a : RealAddress} → Fits map m
      → InOnePage x n → view_by s map m x w ≡ got (found_at m a) → Adjoin s map m x w n a
  adjoins {s} {x = x} {w = w} fits near hit = record {
    bytes = record { frames = fits.whole; address = found_small s x w fits hit; some = some; page = near };
    hit = hit;
  }

  module _ {s : ℕ} {map : Map} {m : Memory} {x : VirtualAddress} {w : Access} {a : RealAddress}
      (f : Placed s map m n x w a) (fits : Fits map m) where
    pub placed_adjoins : Adjoin s map m x w n a
    placed_adjoins = adjoins fits f.near f.hit

    pub placed_inside : a.0 + n ≤ length m
    placed_inside = adjoin_inside placed_adjoins

    pub placed_read : read_bytes (view_by s map m) Read n x ≡ got (value_at m n a.0 0)
    placed_read = adjoin_read (adjoins fits f.near (readable s map m x w _ f.hit))

-- a word
pub word_read : {s : ℕ} {map : Map} {m : Memory} {x : VirtualAddress} {w : Access} {a : RealAddress}
    → Placed s map m 4 x w a → Fits map m → read_bytes (view_by s map m) Read 4 x ≡ got (word_at m a.0)
word_read {m = m} {a = a} f fits = placed_read (omega arith) f fits ∙ ap got (sym (four_byte_value m a.0))
