-- What an answer of `look` says of the view.
use Prim.Native.Nat.{ℕ, ◌+◌, ◌-◌, ◌%◌, ◌≤◌, ◌<◌}
use mathlib.Core.Path.{◌≡◌, sym, ap, ◌∙◌}
use native.Mathlib.Omega.{arith}
use lib.ListN.{length}
use Rattle.machine.specs.declared.RealAddress.{RealAddress}
use Rattle.machine.specs.declared.VirtualAddress.{VirtualAddress}
use Rattle.machine.specs.declared.Map.{Map}
use Rattle.machine.specs.declared.Access.{Access}
use Rattle.machine.specs.Words.{Memory, wrap}
use Rattle.machine.specs.Alarms.{got, alarm}
use Rattle.machine.specs.Map.{found_at, view_by}
use Rattle.machine.proofs.Pages.{view_names, Alarms, found_inside, Finds, found_page}
use Rattle.lookup.specs.Answers.{Fits, lookup_as}
use Rattle.std.specs.Prelude.{Result, Ok, Err}
use Rattle.machine.specs.declared.Fault.{Fault}

-- ---- Answers

pub look_hit : (s : ℕ) (map : Map) (m : Memory) (x : VirtualAddress) (w : Access) (q : Result RealAddress Fault) (a : RealAddress)
    → q ≡ Ok a → lookup_as m q ≡ view_by s map m x w → view_by s map m x w ≡ got (found_at m a)
look_hit s map m x w q a e h = sym h ∙ rw e

pub look_miss : (s : ℕ) (map : Map) (m : Memory) (x : VirtualAddress) (w : Access) (q : Result RealAddress Fault) (f : Fault)
    → q ≡ Err f → lookup_as m q ≡ view_by s map m x w
    → view_by s map m x w ≡ alarm f.alarm f.argument
look_miss s map m x w q f e h = sym h ∙ rw e

pub look_inside : (s : ℕ) (map : Map) (m : Memory) (x : VirtualAddress) (w : Access) (q : Result RealAddress Fault) (a : RealAddress)
    → q ≡ Ok a → lookup_as m q ≡ view_by s map m x w → a.0 < length m
look_inside s map m x w q a e h = found_inside s map m x w a (look_hit s map m x w q a e h)

module _ {s : ℕ} {map : Map} {m : Memory} {x : VirtualAddress} {w : Access} {q : Result RealAddress Fault} where
  pub look_found : {a : RealAddress} → q ≡ Ok a → lookup_as m q ≡ view_by s map m x w → Fits map m
      → x.0 < 0x1_0000_0000 → Finds s map m x w a
  look_found {a} e h fits small = record { small = small; whole = fits.whole; hit = look_hit s map m x w q a e h }

  pub look_alarm : {f : Fault} → q ≡ Err f → lookup_as m q ≡ view_by s map m x w → x.0 < 0x1_0000_0000
      → Alarms s map m x w f.alarm
  look_alarm {f} e h small =
      let miss = look_miss s map m x w q f e h in
      record { small = small; miss = miss ∙ ap (alarm f.alarm) (view_names s map m x w f.alarm f.argument miss) }

-- ---- A byte later in the page

module _ {s : ℕ} {map : Map} {m : Memory} {start : VirtualAddress} {w : Access} {a : RealAddress}
    (f : Finds s map m start w a) where
  pub finds_later : (x : VirtualAddress) → x.0 < 0x1_0000_0000 → start.0 ≤ x.0
      → start.0 % 512 + (x.0 - start.0) < 512 → Finds s map m x w (record { 0 = a.0 + (x.0 - start.0) })
  finds_later x small l p =
      let e : wrap (start.0 + (x.0 - start.0)) ≡ x.0 = omega arith in
      record { small = small; whole = f.whole; hit = rw e at (found_page f (x.0 - start.0) p) }
