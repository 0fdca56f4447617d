-- RESUME writes nothing.
use Prim.Native.Nat.{◌+◌}
use mathlib.Core.Path.{◌≡◌, refl}
use mathlib.Core.Bool.{Bool, true, false, ◌&&◌}
use lib.ListN.{length}
use Rattle.machine.specs.declared.Map.{Map}
use Rattle.machine.specs.declared.RealAddress.{RealAddress}
use Rattle.machine.specs.declared.Desk.{Desk}
use Rattle.machine.specs.Words.{pick, Memory, word_at}
use Rattle.machine.specs.State.{valid_user_status, control_block_bytes, block_fits, map_fits}
use Rattle.machine.specs.Map.{commit}
use Rattle.machine.specs.Steps.{Outcome, stop, resume}

pick_quiet : {m : Memory} (b : Bool) (x y : Outcome) → commit x.writes m ≡ m → commit y.writes m ≡ m
    → commit (pick b x y).writes m ≡ m
pick_quiet true x y e f = e
pick_quiet false x y e f = f

pub resume_quiet : (d : Desk) (m : Memory) (a : RealAddress) → commit (resume d m a).writes m ≡ m
unfolding resume stop commit
resume_quiet d m a =
    let map : Map = record { base = record { 0 = word_at m (a.0 + 72) }; length = word_at m (a.0 + 76) } in
    pick_quiet (block_fits a control_block_bytes (length m) && map_fits map (length m) && valid_user_status
    (word_at m (a.0 + 64))) _ _ refl refl
