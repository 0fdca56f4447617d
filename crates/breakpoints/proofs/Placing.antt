-- A run is held at the same steps by two lists that hold at the same R15, and its place is then that of the list that
-- is asked for it: so a run over the armed addresses alone, and the first armed breakpoint where it was held, are the
-- run over the list.
use Rattle.std.specs.Prelude.{Option, Some, None, is_some, Ok, Err}
use Prim.Native.Nat.{ℕ, zero, suc}
use mathlib.Core.Path.{◌≡◌, refl, sym, ◌∙◌}
use mathlib.Core.Bool.{Bool, true, false}
use mathlib.Core.List.{List}
use native.Mathlib.Omega.{arith}
use borrow.Author.Tests.{leb-true}
use lib.ListN.{length, take}
use lib.Seq.{take_all}
use Rattle.machine.specs.declared.Desk.{Desk}
use Rattle.machine.specs.Words.{pick, Memory}
use Rattle.machine.specs.State.{reg, is_running}
use Rattle.machine.specs.Map.{commit}
use Rattle.machine.specs.Calls.{Answer, step_refusal, step_outcome}
use Rattle.watch.specs.Addresses.{among}
use Rattle.breakpoints.specs.declared.armed.Armed.{Armed}
use Rattle.breakpoints.specs.declared.Breakpoint.{Breakpoint}
use Rattle.breakpoints.specs.Breakpoints.{most, few}
use Rattle.breakpoints.specs.RunTo.{RanTo, ran_to, interrupt_due, hold_of, unless_held, steps_to, points_at}
use Rattle.breakpoints.specs.RunTo.{run_to_unless, run_to_of}
use Rattle.breakpoints.specs.Gathered.{armed_addresses, Gathers, among_at, run_armed_of, placed_reply, placed_by}
use Rattle.breakpoints.proofs.FirstArmed.{among_is_armed}
use Rattle.breakpoints.proofs.Steps.{held_tells}

module _ (at other : ℕ → Option ℕ) (same : (r15 : ℕ) → is_some (at r15) ≡ is_some (other r15)) where
  holds_same : (k : ℕ) (d : Desk) → is_some (hold_of at k d) ≡ is_some (hold_of other k d)
  unfolding hold_of
  holds_same zero d = refl
  holds_same (suc k) d = go (interrupt_due d)
    where
      go : (b : Bool) → is_some (pick b None (at (reg d.registers 15)))
          ≡ is_some (pick b None (other (reg d.registers 15)))
      go true = refl
      go false = same (reg d.registers 15)

  module _ (k : ℕ) (d : Desk) (m : Memory) (rest placed : RanTo) (e : placed ≡ placed_by other rest) where
    unless_held_lem : (f g : Option ℕ) → hold_of at k d ≡ f → hold_of other k d ≡ g → is_some f ≡ is_some g
        → unless_held g k d m placed ≡ placed_by other (unless_held f k d m rest)
    unfolding placed_reply
    unless_held_lem None None u v t = e
    unless_held_lem None (Some j) u v t = absurd (let z : ◌≡◌ {A = ℕ} 0 1 = cc in omega arith)
    unless_held_lem (Some i) None u v t = absurd (let z : ◌≡◌ {A = ℕ} 0 1 = cc in omega arith)
    unless_held_lem (Some i) (Some j) u v t = rw (held_tells other k d j v).2

  pub placed_steps : (n k : ℕ) (d : Desk) (m : Memory)
      → steps_to other n k d m ≡ placed_by other (steps_to at n k d m)
  unfolding steps_to placed_reply
  placed_steps zero k d m = refl
  placed_steps (suc n) k d m =
      go (placed_steps n (suc k) (step_outcome d m).desk (commit (step_outcome d m).writes m))
      (is_running d.mark)
    where
      next : Desk
      next = (step_outcome d m).desk

      left : Memory
      left = commit (step_outcome d m).writes m

      go : steps_to other n (suc k) next left ≡ placed_by other (steps_to at n (suc k) next left) → (b : Bool)
          → pick b (unless_held (hold_of other k d) k d m (steps_to other n (suc k) next left)) (ran_to (Ok None) k d m)
          ≡ placed_by other
          (pick b (unless_held (hold_of at k d) k d m (steps_to at n (suc k) next left)) (ran_to (Ok None) k d m))
      go e true = unless_held_lem k d m _ _ e (hold_of at k d) (hold_of other k d) refl refl (holds_same k d)
      go e false = refl

-- ---- The whole run

module _ (a : Armed) (ps : List Breakpoint) (gathers : Gathers a ps) (n : ℕ) (d : Desk) (m : Memory) where
  abbrev addresses : List ℕ
  addresses = take a.count a.addresses

  armed_same : few ps ≡ true → (r15 : ℕ) → is_some (among_at addresses r15) ≡ is_some (points_at ps r15)
  armed_same f r15 =
      rw (gathers.few (leb-true _ _ f)).1 (is_among (among r15 (armed_addresses ps)) ∙ among_is_armed r15 ps)
    where
      is_among : (b : Bool) → is_some {T = ℕ} (pick b (Some 0) None) ≡ b
      is_among true = refl
      is_among false = refl

  -- the place is looked for among the first ones
  pub placed_run : placed_by (points_at (take most ps)) (run_armed_of a n d m) ≡ run_to_of ps n d m
  unfolding run_armed_of run_to_of run_to_unless placed_reply
  placed_run =
      rw gathers.long (go (step_refusal d (length m)) (few ps) refl)
    where
      go : (q : Answer) (b : Bool) → few ps ≡ b
          → placed_by (points_at (take most ps)) (run_to_unless q b d m (steps_to (among_at addresses) n 0 d m))
          ≡ run_to_unless q b d m (steps_to (points_at ps) n 0 d m)
      go (Err k) b f = refl
      go (Ok u) false f = refl
      go (Ok u) true f =
          rw (take_all most ps (leb-true _ _ f))
          (sym (placed_steps (among_at addresses) (points_at ps) (armed_same f) n 0 d m))
