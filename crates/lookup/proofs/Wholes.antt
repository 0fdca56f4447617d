-- What an answer of `look_whole` says of all bytes that it was asked for, by `one_page` of
-- `machine`.
use Prim.Native.Nat.{ℕ, ◌+◌, ◌<◌, ◌≤◌}
use mathlib.Core.Path.{◌≡◌, ap, ◌∙◌}
use mathlib.Core.List.{List}
use lib.ListN.{length}
use Rattle.std.specs.Prelude.{Option, Some, Result, Ok, Err}
use Rattle.machine.specs.declared.Fault.{Fault}
use Rattle.machine.specs.declared.Access.{Access}
use Rattle.machine.specs.declared.Access.TheVariants.{Write}
use Rattle.machine.specs.declared.Map.{Map}
use Rattle.machine.specs.declared.RealAddress.{RealAddress}
use Rattle.machine.specs.declared.VirtualAddress.{VirtualAddress}
use Rattle.machine.specs.Words.{Memory, value_at}
use Rattle.machine.specs.Alarms.{got, alarm}
use Rattle.machine.specs.Map.{found_at, view_by, read_bytes, writes_from, real_writes_from, located}
use Rattle.machine.specs.OnePage.{InOnePage, whole_value, whole_writes, Together}
use Rattle.machine.proofs.OnePage.{one_page}
use Rattle.machine.proofs.Pages.{Alarms, Finds}
use Rattle.lookup.specs.Answers.{Fits, WholeOf}

-- the n bytes from x on lie in one page, and the first is found at place a
pub record Adjoin (s : ℕ) (map : Map) (m : Memory) (x : VirtualAddress) (w : Access) (n : ℕ) (a : RealAddress) : Type 0 where
  pub bytes : Together m x n
  pub hit : view_by s map m x w ≡ got (found_at m a)

-- and the first has the alarm of fault f
pub record Stops (s : ℕ) (map : Map) (m : Memory) (x : VirtualAddress) (w : Access) (n : ℕ) (f : Fault) : Type 0 where
  pub bytes : Together m x n
  pub miss : view_by s map m x w ≡ alarm f.alarm f.argument

module _ {s : ℕ} {map : Map} {m : Memory} {x : VirtualAddress} {w : Access} {n : ℕ} {q : Result (Option RealAddress) Fault} where
  pub whole-at : {a : RealAddress} → q ≡ Ok (Some a) → WholeOf (view_by s map m) m x n w q → Fits map m
      → x.0 < 0x1_0000_0000 → 0 < n → Adjoin s map m x w n a
  whole-at {a} e h fits small some =
      let told : InOnePage x n × (view_by s map m x w ≡ got (found_at m a)) = rw e at h in
      record {
        bytes = record { frames = fits.whole; address = small; some = some; page = told.0 };
        hit = told.1;
      }

  pub whole_alarm : {f : Fault} → q ≡ Err f → WholeOf (view_by s map m) m x n w q
      → Fits map m → x.0 < 0x1_0000_0000 → 0 < n → Stops s map m x w n f
  whole_alarm {f} e h fits small some =
      let told : InOnePage x n × (view_by s map m x w ≡ alarm f.alarm f.argument) = rw e at h in
      record {
        bytes = record { frames = fits.whole; address = small; some = some; page = told.0 };
        miss = told.1;
      }

-- ---- They are read

module _ {s : ℕ} {map : Map} {m : Memory} {x : VirtualAddress} {w : Access} {n : ℕ} where
  module _ {a : RealAddress} (f : Adjoin s map m x w n a) where
    pub adjoin_finds : Finds s map m x w a
    adjoin_finds = record { small = f.bytes.address; whole = f.bytes.frames; hit = f.hit }

    pub adjoin_inside : a.0 + n ≤ length m
    adjoin_inside = one_page.inside s map m x w n (found_at m a) f.bytes f.hit

    pub adjoin_read : read_bytes (view_by s map m) w n x ≡ got (value_at m n a.0 0)
    adjoin_read = one_page.value s map m x w n f.bytes ∙ ap (whole_value m n) f.hit

  module _ {e : Fault} (f : Stops s map m x w n e) where
    -- the fault names the first byte's own address
    pub stops_alarms : Alarms s map m x w e.alarm
    stops_alarms = record {
      small = f.bytes.address;
      miss = f.miss ∙ ap (alarm e.alarm) (one_page.own_address s map m x w e.alarm e.argument f.miss);
    }

    pub stops_read : read_bytes (view_by s map m) w n x ≡ alarm e.alarm e.argument
    stops_read = one_page.value s map m x w n f.bytes ∙ ap (whole_value m n) f.miss

-- ---- They are written

module _ {s : ℕ} {map : Map} {m : Memory} {x : VirtualAddress} {n : ℕ} (bs : List ℕ) (long : length bs ≡ n) where
  pub adjoin_located : {a : RealAddress} → Adjoin s map m x Write n a
      → located (view_by s map m) (writes_from x.0 bs) ≡ got (real_writes_from a.0 bs)
  adjoin_located f = one_page.writes s map m x bs (rw long f.bytes) ∙ ap (whole_writes bs) f.hit

  pub stops_located : {e : Fault} → Stops s map m x Write n e
      → located (view_by s map m) (writes_from x.0 bs) ≡ alarm e.alarm e.argument
  stops_located f = one_page.writes s map m x bs (rw long f.bytes) ∙ ap (whole_writes bs) f.miss
