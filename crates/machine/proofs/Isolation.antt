-- Demand 3. No proof here looks into a command, so a change to the commands moves none of it.
use Prim.Native.Nat.{ℕ, suc}
use mathlib.Core.Path.{◌≡◌, refl, sym, ap, ◌∙◌, subst}
use mathlib.Core.List.{List, [], ◌∷◌}
use mathlib.Core.Option.{Option}
use native.Mathlib.Omega.{arith}
use lib.ListN.{length}
use Rattle.machine.specs.declared.Desk.{Desk}
use Rattle.machine.specs.Words.{Memory, byte_at}
use Rattle.machine.specs.State.{system_block_of}
use Rattle.machine.specs.Map.{view_of, RealWrites, commit, InMap}
use Rattle.machine.specs.Steps.{Event, quiet, entered, stopped, Outcome, one_step}
use Rattle.machine.specs.Calls.{step_outcome}
use Rattle.machine.specs.Isolation.{Call, step, request, refusal_of, outcome_of, next_desk, next_memory, event_of}
use Rattle.machine.specs.Isolation.{InSystemBlock, inUserMode, oneLength, sameMap, sameSystemBlock}
use Rattle.machine.specs.Isolation.{sameReachedFrames, mapNotWritable, Changed, Alike, AllAlike, end_at, end_of}
use Rattle.machine.specs.Isolation.{Demand3}
use Rattle.machine.proofs.Writes.{Each, each_map, commit-length, commit_same, commit-other, commit_from}
use Rattle.machine.proofs.Views.{block_same, reached_same, writable_same}
use Rattle.machine.proofs.UserCalls.{Kept, Fit}
use Rattle.machine.proofs.Indistinguishable.{Indistinguishable, Free, Apart, near_view, call_fit, flip}
use Rattle.machine.proofs.Indistinguishable.{near_next}

end_same : (i : ℕ) (ev : Event) (r s : Option (ℕ × Event)) → (ev ≡ quiet → r ≡ s) → end_at i ev r ≡ end_at i ev s
end_same i quiet r s h = h refl
end_same i (entered n b) r s h = refl
end_same i (stopped n) r s h = refl

module _ (o : Desk) (m : Memory) (apart : Apart o m) where
  -- the two memories agree on the system block too
  record Inv (d : Desk) (x y : Memory) : Type 0 where
    near : Indistinguishable o m d x y
    block : (a : ℕ) → InSystemBlock o a → byte_at x a ≡ byte_at y a

  sizes : (d : Desk) (x y : Memory) → Inv d x y → length x ≡ length y
  sizes d x y h = omega (arith, h.near.lengthx, h.near.lengthy)

  call_same : (c : Call) (d : Desk) (x y : Memory) → Inv d x y
      → (refusal_of c d x ≡ refusal_of c d y) × (outcome_of c d x ≡ outcome_of c d y)
  unfolding step_outcome one_step
  call_same step d x y h =
      let l = sizes d x y h in
      let u = h.near.kept.user in
      let s = h.near.kept.system in
      let v : view_of d x ≡ view_of d y = near_view o m d x y h.near in
      let b : system_block_of d x ≡ system_block_of d y = block_same d x y l
      (λ a r. h.block a (record { low = rw s at r.low; high = rw s at r.high })) in
      (rw l, rw (u, l, v, b))
  call_same (request level) d x y h = (refl, refl)

  changed_by : (ev : Event) (d e : Desk) (ws : RealWrites) (x : Memory) → Kept o d → Fit d (Free o m) ev e ws
      → Changed o m ev x (commit ws x)
  unfolding commit
  changed_by quiet d e ws x k h =
      (commit-length ws x, λ a f. commit-other ws x a (each_map ws (λ i w q. f (rw (← q) at w)) h.1))
  changed_by (entered i s) d e ws x k h = (h.0, rw (h.1, k.control) (commit_from s o.control.0 x))
  changed_by (stopped n) d e ws x k h = rw h

  call_changes : (c : Call) (d : Desk) (x y : Memory) → Indistinguishable o m d x y
      → Changed o m (event_of c d x) x (next_memory c d x)
  call_changes c d x y h =
      changed_by (event_of c d x) d (next_desk c d x) (outcome_of c d x).writes x h.kept (call_fit o m d c x y h)

  alike : (c : Call) (d : Desk) (x y : Memory) → Inv d x y → Alike o m c d x d y
  alike c d x y h =
      let same = call_same c d x y h in
      record {
        refusals = same.0;
        desks = ap (λ r. r.desk) same.1;
        reached =
            λ a r. rw same.1 (commit_same (outcome_of c d y).writes x y a (sizes d x y h) (h.near.frames a r));
        events = ap (λ r. r.event) same.1;
        changes = call_changes c d x y h.near;
        changes' = call_changes c d y x (flip o m d x y h.near);
      }

  all_alike : (cs : List Call) (d : Desk) (x y : Memory) → Inv d x y → AllAlike o m cs d x d y
  all_alike [] d x y h = tt
  all_alike (c ∷ cs) d x y h = (
    alike c d x y h,
    λ q.
        let ws = (outcome_of c d x).writes in
        let fit : Kept d (next_desk c d x) × Each (Free o m) ws = rw q at (call_fit o m d c x y h.near) in
        subst (λ (z : Outcome). AllAlike o m cs (next_desk c d x) (next_memory c d x) z.desk (commit z.writes y))
        (call_same c d x y h).1
        (all_alike cs (next_desk c d x) (commit ws x) (commit ws y) (record {
          near = near_next o m d apart (next_desk c d x) x y ws h.near fit;
          block = λ a r. commit_same ws x y a (sizes d x y h) (h.block a r);
        })),
  )

  ends_alike : (i : ℕ) (cs : List Call) (d e : Desk) (x y : Memory) → AllAlike o m cs d x e y
      → end_of i cs d x ≡ end_of i cs e y
  ends_alike i [] d e x y h = refl
  ends_alike i (c ∷ cs) d e x y h =
      rw h.0.events (end_same i (event_of c e y) _ _ λ q. ends_alike (suc i) cs _ _ _ _ (h.1 (h.0.events ∙ q)))

pub demand3 : Demand3
demand3 d m n holds cs =
    let size = holds oneLength in
    let map : (a : ℕ) → InMap d.map n a → byte_at m a ≡ byte_at n a
    = λ a r. holds sameMap a (record { low = r.low; high = r.high; inside = rw size r.inside }) in
    let all = all_alike d m (holds mapNotWritable) cs d m n (record {
      near = record {
        kept = record { user = holds inUserMode; map = refl; system = refl; control = refl };
        lengthx = refl;
        lengthy = sym size;
        mapx = λ a r. refl;
        mapy = λ a r. sym (holds sameMap a r);
        frames = holds sameReachedFrames;
      };
      block = holds sameSystemBlock;
    }) in
    record {
      reach =
          λ f. (
            reached_same d.map m n (sym size) (λ a r. sym (holds sameMap a r)) f,
            reached_same
                d.map n m size map f,
          );
      write =
          λ f. (
            writable_same d.map m n (sym size) (λ a r. sym (holds sameMap a r)) f,
            writable_same
                d.map n m size map f,
          );
      calls = all;
      ends = ends_alike d m (holds mapNotWritable) 0 cs d d m n all;
    }
