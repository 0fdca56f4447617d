-- Two memories that one user desk cannot tell apart, and what keeps them so.
use Prim.Native.Nat.{ℕ}
use mathlib.Core.Path.{◌≡◌, sym, ◌∙◌}
use mathlib.Core.Logic.{◌≢◌}
use native.Mathlib.Omega.{arith}
use lib.ListN.{length}
use Rattle.machine.specs.declared.Desk.{Desk}
use Rattle.machine.specs.Words.{Memory, byte_at}
use Rattle.machine.specs.State.{frame_around, system_block_of}
use Rattle.machine.specs.Map.{mapped, view_by, view_of, RealWrites, commit, Reached, WritableReached, InMap}
use Rattle.machine.specs.Steps.{one_step}
use Rattle.machine.specs.Calls.{step_refusal, step_outcome}
use Rattle.machine.specs.Isolation.{Call, step, request, outcome_of}
use Rattle.machine.proofs.Writes.{Each, each_map, commit-length, commit_same, commit-other}
use Rattle.machine.proofs.Views.{view_same, located-writable}
use Rattle.machine.proofs.UserCalls.{Kept, FitOutcome, user_step_fit, unless_fit, request_fit}

-- the map and the frames are those of desk o over m; desk d, some calls later, stands over x and
-- over y
pub record Indistinguishable (o : Desk) (m : Memory) (d : Desk) (x y : Memory) : Type 0 where
  pub kept : Kept o d
  pub lengthx : length x ≡ length m
  pub lengthy : length y ≡ length m
  pub mapx : (a : ℕ) → InMap o.map m a → byte_at x a ≡ byte_at m a
  pub mapy : (a : ℕ) → InMap o.map m a → byte_at y a ≡ byte_at m a
  pub frames : (a : ℕ) → Reached o.map m (frame_around a) → byte_at x a ≡ byte_at y a

abbrev pub Free : Desk → Memory → ℕ → Type 0
Free o m a = WritableReached o.map m (frame_around a)

-- no writable entry names a frame that holds part of the map
abbrev pub Apart : Desk → Memory → Type 0
Apart o m = (a : ℕ) → InMap o.map m a → Free o m a → ⊥

module _ (o : Desk) (m : Memory) (d : Desk) where
  user_view : (x : Memory) → Kept o d → view_of d x ≡ mapped o.map x
  unfolding view_by
  user_view x k = rw (k.user, k.map)

  pub near_view : (x y : Memory) → Indistinguishable o m d x y → view_of d x ≡ view_of d y
  near_view x y h =
      user_view x h.kept ∙ view_same o.map m x y h.lengthx h.mapx h.lengthy h.mapy h.frames
      ∙ sym (user_view y h.kept)

  pub call_fit : (c : Call) (x y : Memory) → Indistinguishable o m d x y → FitOutcome d (Free o m) (outcome_of c d x)
  unfolding step_outcome one_step
  call_fit step x y h =
      unless_fit d (Free o m) h.kept.user (step_refusal d (length x)) _
      (rw h.kept.user (user_step_fit d (Free o m) h.kept.user (view_of d x) (system_block_of d x)
      (rw (user_view x h.kept) (located-writable o.map m x h.lengthx h.mapx))))
  call_fit (request level) x y h = request_fit d (Free o m) h.kept.user level

  pub flip : (x y : Memory) → Indistinguishable o m d x y → Indistinguishable o m d y x
  flip x y h =
      record {
        kept = h.kept;
        lengthx = h.lengthy;
        lengthy = h.lengthx;
        mapx = h.mapy;
        mapy = h.mapx;
        frames = λ a r. sym (h.frames a r);
      }

  -- the same writes, to writable reached frames only, on both
  pub near_next : Apart o m → (e : Desk) (x y : Memory) (ws : RealWrites) → Indistinguishable o m d x y
      → Kept d e × Each (Free o m) ws → Indistinguishable o m e (commit ws x) (commit ws y)
  near_next apart e x y ws h f =
      let k = h.kept in
      let j = f.0 in
      let l : length x ≡ length y = omega (arith, h.lengthx, h.lengthy) in
      let off : (a : ℕ) → InMap o.map m a → Each (λ i. a ≢ i) ws = λ a r. each_map ws
      (λ i w q. apart a r (rw (← q) at w)) f.1 in
      record {
        kept = record { user = j.user; map = cc; system = cc; control = cc };
        lengthx = commit-length ws x ∙ h.lengthx;
        lengthy = commit-length ws y ∙ h.lengthy;
        mapx = λ a r. commit-other ws x a (off a r) ∙ h.mapx a r;
        mapy = λ a r. commit-other ws y a (off a r) ∙ h.mapy a r;
        frames = λ a r. commit_same ws x y a l (h.frames a r);
      }
