-- What the callees of `run_to` come to together: a run with the armed addresses, and the place found after it, is a run
-- with the list.
use mathlib.Core.Path.{◌≡◌, ◌∙◌}
use Prim.Native.Nat.{ℕ}
use mathlib.Core.List.{List}
use lib.ListN.{take}
use Rattle.machine.specs.declared.Desk.{Desk}
use Rattle.machine.specs.State.{reg}
use Rattle.machine.specs.Words.{Memory}
use Rattle.breakpoints.specs.declared.armed.Armed.{Armed}
use Rattle.breakpoints.specs.declared.Breakpoint.{Breakpoint}
use Rattle.std.specs.Prelude.{Option}
use Rattle.breakpoints.specs.declared.RunToReply.{RunToReply}
use Rattle.breakpoints.specs.Breakpoints.{first_armed, most}
use Rattle.breakpoints.specs.Gathered.{Gathers, run_armed_of, placed_reply, placed_by}
use Rattle.breakpoints.specs.RunTo.{RanTo, points_at, run_to_of}
use Rattle.breakpoints.proofs.Placing.{placed_run}

-- a reply, with the memory that is left
abbrev pub left : RunToReply → Memory → RanTo
left r m = record { reply = r; memory = m }

module _ (a : Armed) (ps : List Breakpoint) (gathered : Gathers a ps) where
  -- what the four calls after `gather` ensure, together
  pub run_to_is : (n : ℕ) (d : Desk) (m : Memory) (r : RunToReply) (zs : Memory) → left r zs ≡ run_armed_of a n d m
      → (r15 : ℕ) → r15 ≡ reg r.desk.registers 15 → (found : Option ℕ) → found ≡ first_armed r15 (take most ps)
      → (z : RunToReply) → z ≡ placed_reply r found → left z zs ≡ run_to_of ps n d m
  run_to_is n d m r zs ran r15 is-r15 found is_first z placed = composed ∙ placed_run a ps gathered n d m
    where
      composed : left z zs ≡ placed_by (points_at (take most ps)) (run_armed_of a n d m)
      composed = rw (placed, is_first, is-r15, ← ran)
