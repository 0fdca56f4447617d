-- The theorem `holding_points`: what request F-3 says of a run with breakpoints, for every list, every number of steps,
-- every desk and memory.
use Rattle.std.specs.Prelude.{Option, Some, None, Ok, Err}
use Prim.Native.Nat.{ℕ, zero, suc, ◌+◌, ◌-◌, ◌<◌}
use mathlib.Core.Path.{◌≡◌, refl, sym, ap, subst, ◌∙◌}
use mathlib.Core.Bool.{Bool, true, false}
use mathlib.Core.Logic.{◌≢◌}
use mathlib.Core.List.{List}
use native.Mathlib.Nat.{add-zero, zero-add}
use native.Mathlib.Omega.{arith}
use borrow.Author.Tests.{ltb-true, ltb-false}
use lib.Dec.{ltb}
use lib.ListN.{length}
use Rattle.machine.specs.declared.Desk.{Desk}
use Rattle.machine.specs.declared.Refusal.{Refusal}
use Rattle.machine.specs.Words.{Memory}
use Rattle.machine.specs.State.{reg, user_mode, level_of, flags_of, without_level}
use Rattle.machine.specs.Map.{View}
use Rattle.machine.specs.Commands.{user_command}
use Rattle.machine.specs.Steps.{Plan, enters, due, of_user_command, interrupted, user_plan}
use Rattle.machine.specs.Calls.{Answer, Ran, ran, step_refusal, steps_of, run_unless, run_of}
use Rattle.machine.proofs.Accepted.{passes, accepted, steps_done}
use Rattle.machine.proofs.Widths.{and_true}
use Rattle.breakpoints.specs.declared.Breakpoint.{Breakpoint}
use Rattle.breakpoints.specs.declared.RunToRefusal.{RunToRefusal}
use Rattle.breakpoints.specs.declared.RunToRefusal.TheVariants.{Run, Breakpoints}
use Rattle.breakpoints.specs.Breakpoints.{few}
use Rattle.breakpoints.specs.RunTo.{RunToAnswer, RanTo, ran_to, interrupt_due, hold_of, steps_to, points_at, run_to_unless, run_to_of}
use Rattle.breakpoints.specs.Holding.{unheld, after, after_to, Due, HeldBy, Holding, HoldingPoints}
use Rattle.breakpoints.proofs.FirstArmed.{NoneHolds, is_first, none_holds, all_off as none_armed}
use Rattle.breakpoints.proofs.Steps.{Ends, Made, to_made, held_tells, free_tells, never_held, counted_from}

-- a run that ends without a hold is the one without breakpoints, for every list
abbrev NotHeld : Type 0
NotHeld =
    (qs : List Breakpoint) (k : ℕ) (d : Desk) (m : Memory) → (run_to_of qs k d m).reply.answer ≡ Ok None
    → run_to_of qs k d m ≡ unheld (run_of k d m)

module _ (ps : List Breakpoint) (n : ℕ) (d : Desk) (m : Memory) where
  abbrev at : ℕ → Option ℕ
  at = points_at ps

  -- an accepted run is its steps
  run_steps : (i : ℕ) → step_refusal d (length m) ≡ Ok tt → run_of i d m ≡ steps_of i 0 d m
  unfolding run_of run_unless
  run_steps i e = rw e

  -- a run is refused, or it is its steps
  by_refusal : (P : RanTo → Type 0)
      → ((k : Refusal) → step_refusal d (length m) ≡ Err k → P (ran_to (Err (Run k)) 0 d m))
      → (step_refusal d (length m) ≡ Ok tt → few ps ≡ false → P (ran_to (Err Breakpoints) 0 d m))
      → (step_refusal d (length m) ≡ Ok tt → few ps ≡ true → P (steps_to at n 0 d m))
      → P (run_to_of ps n d m)
  unfolding run_to_of run_to_unless
  by_refusal P refused many made = go (step_refusal d (length m)) refl (few ps) refl
    where
      go : (a : Answer) → step_refusal d (length m) ≡ a → (b : Bool) → few ps ≡ b
          → P (run_to_unless a b d m (steps_to at n 0 d m))
      go (Err k) e b f = refused k e
      go (Ok u) e false f = many e f
      go (Ok u) e true f = made e f

  -- where a step was made and no interrupt was due, no breakpoint held
  abbrev PassedNone : RanTo → Type 0
  PassedNone q = (k : ℕ) → 0 < k → k < q.reply.steps → interrupt_due (run_of k d m).reply.desk ≡ false
      → NoneHolds (reg (run_of k d m).reply.desk.registers 15) ps

  module _ (e : step_refusal d (length m) ≡ Ok tt) where
    abbrev r : RanTo
    r = steps_to at n 0 d m

    t : Made at n 0 d m r
    t = to_made at n 0 d m (λ h. passes d (length m) e)

    -- what it counts is what it has made
    all : 0 + t.made ≡ r.reply.steps
    all = sym t.count

    made_all : t.made ≡ r.reply.steps
    made_all = sym (zero-add t.made) ∙ all

    -- as many steps without breakpoints
    same_steps : run_of r.reply.steps d m ≡ ran (Ok tt) r.reply.steps r.reply.desk r.memory
    same_steps =
        run_steps r.reply.steps e ∙ ap (λ (i : ℕ). steps_of i 0 d m) (sym made_all) ∙ t.steps
        ∙ ap (λ (i : ℕ). ran (Ok tt) i r.reply.desk r.memory) all

    passed : PassedNone r
    passed k some h none =
        let free : hold_of at k (run_of k d m).reply.desk ≡ None =
        ap (λ (q : Ran). hold_of at k q.reply.desk) (run_steps k e)
        ∙ ap (λ (i : ℕ). hold_of at i (steps_of k 0 d m).reply.desk) (sym (zero-add k))
        ∙ t.passed k (omega (arith, h, made_all)) in
        none_holds _ ps (free_tells at k (run_of k d m).reply.desk some none free)

    not_refused : (q : RunToRefusal) → r.reply.answer ≢ Err q
    not_refused q a = subst (λ (x : RunToAnswer). Ends at n 0 t.made d m x r.reply.desk r.memory) a t.ends

    ended : r.reply.answer ≡ Ok None → r ≡ unheld (run_of n d m)
    ended a =
        let ends : Ends at n 0 t.made d m (Ok None) r.reply.desk r.memory =
        subst (λ (x : RunToAnswer). Ends at n 0 t.made d m x r.reply.desk r.memory) a t.ends in
        let whole : run_of n d m ≡ ran (Ok tt) r.reply.steps r.reply.desk r.memory =
        run_steps n e ∙ ends ∙ ap (λ (i : ℕ). ran (Ok tt) i r.reply.desk r.memory) all in
        ap (λ (x : RunToAnswer). ran_to x r.reply.steps r.reply.desk r.memory) a ∙ ap unheld (sym whole)

    held_by : NotHeld → (i : ℕ) → r.reply.answer ≡ Ok (Some i) → HeldBy ps n d m i r
    unfolding run_of run_unless
    held_by not_held i a =
        let ends : Ends at n 0 t.made d m (Ok (Some i)) r.reply.desk r.memory =
        subst (λ (x : RunToAnswer). Ends at n 0 t.made d m x r.reply.desk r.memory) a t.ends in
        let tells = held_tells at (0 + t.made) r.reply.desk i ends.2 in
        let k = r.reply.steps in
        let rest : run_of (n - k) r.reply.desk r.memory ≡ steps_of (n - k) 0 r.reply.desk r.memory =
        rw (accepted r.reply.desk (length r.memory) (t.lasts ends.1)) in
        let counted : steps_of (n - k) k r.reply.desk r.memory
        ≡ after k (steps_of (n - k) 0 r.reply.desk r.memory) =
        ap (λ (j : ℕ). steps_of (n - k) j r.reply.desk r.memory) (sym (add-zero k))
        ∙ counted_from k (n - k) 0 r.reply.desk r.memory in
        let through : run_of n d m ≡ steps_of (n - k) k r.reply.desk r.memory =
        run_steps n e ∙ ends.3 ∙ rw (all, made_all) in
        let on : after k (run_of (n - k) r.reply.desk r.memory) ≡ run_of n d m =
        ap (after k) rest ∙ sym counted ∙ sym through in
        record {
          some = omega (arith, tells.0, all);
          fewer = omega (arith, ends.0, made_all);
          accepted = accepted r.reply.desk (length r.memory) (t.lasts ends.1);
          none-due = tells.1;
          point = is_first _ ps i tells.2;
          gone_on = on;
          gone_on_to = λ qs a. ap (after_to k) (not_held qs (n - k) r.reply.desk r.memory a) ∙ ap unheld on;
        }

  refused_run : (k : Refusal) (i : ℕ) → step_refusal d (length m) ≡ Err k
      → run_of i d m ≡ ran (Err k) 0 d m
  unfolding run_of run_unless
  refused_run k i e = rw e

  -- a run of no steps that is not refused
  no_steps : step_refusal d (length m) ≡ Ok tt → run_of 0 d m ≡ ran (Ok tt) 0 d m
  no_steps e = run_steps 0 e ∙ steps_done 0 0 d m refl

  -- the run without breakpoints of as many steps
  abbrev SameSteps : RanTo → Type 0
  SameSteps q =
      run_of q.reply.steps d m ≡ ran (step_refusal d (length m)) q.reply.steps q.reply.desk q.memory

  unheld_run : (run_to_of ps n d m).reply.answer ≡ Ok None → run_to_of ps n d m ≡ unheld (run_of n d m)
  unheld_run =
      by_refusal (λ (q : RanTo). q.reply.answer ≡ Ok None → q ≡ unheld (run_of n d m))
      (λ k e a. absurd (let z : ◌≡◌ {A = ℕ} 0 1 = cc in omega arith))
      (λ e g a. absurd (let z : ◌≡◌ {A = ℕ} 0 1 = cc in omega arith))
      (λ e g. ended e)

  holding_by : NotHeld → Holding ps n d m
  unfolding run_to_of run_to_unless
  holding_by not_held = record {
    refused = λ k e. rw e;
    too_many = λ e f. rw (e, f);
    accepted = λ e f. rw (e, f) (not_refused e);
    all_off = λ f off. by_refusal (λ (q : RanTo). q ≡ unheld (run_of n d m))
        (λ k e. ap unheld (sym (refused_run k n e)))
        (λ e g. absurd (let z : ◌≡◌ {A = ℕ} 0 1 = cc in omega arith))
        (λ e g. never_held at (λ r15. none_armed r15 ps off) n 0 d m ∙ ap unheld (sym (run_steps n e)));
    not_held = unheld_run;
    steps = by_refusal SameSteps (λ k e. rw e (refused_run k 0 e)) (λ e g. rw e (no_steps e))
        (λ e g. rw e (same_steps e));
    passed_none = by_refusal PassedNone (λ k e i some h. absurd (omega (arith, h)))
        (λ e g i some h. absurd (omega (arith, h))) (λ e g. passed e);
    held = by_refusal (λ (q : RanTo). (i : ℕ) → q.reply.answer ≡ Ok (Some i) → HeldBy ps n d m i q)
        (λ k e i a. absurd (let z : ◌≡◌ {A = ℕ} 0 1 = cc in omega arith))
        (λ e g i a. absurd (let z : ◌≡◌ {A = ℕ} 0 1 = cc in omega arith))
        (λ e g. held_by e not_held);
  }

-- ---- What an interrupt that is due means

module _ (d : Desk) (v : View) where
  abbrev level : ℕ
  level = due 15 d.pending (level_of d.status)

  abbrev plain : Plan
  plain = of_user_command d.registers d.status d.pending v (user_command v d.registers (flags_of d.status))

  enters-level : (k : ℕ) → 0 < k → interrupted k d.registers d.pending plain
      ≡ enters (16 + k) d.registers k (without_level d.pending k)
  unfolding interrupted
  enters-level zero h = absurd (omega (arith, h))
  enters-level (suc k) h = refl

  enters_none : (k : ℕ) → ltb 0 k ≡ false → interrupted k d.registers d.pending plain ≡ plain
  unfolding interrupted
  enters_none zero h = refl
  enters_none (suc k) h = absurd (omega (arith, ltb-false 0 (suc k) h))

is_due : (d : Desk) → Due d
unfolding interrupt_due user_plan
is_due d = record {
  entered = λ e v.
      let both = and_true (user_mode d.status) (ltb 0 (level d v)) e in
      let some : 0 < level d v = ltb-true 0 (level d v) both.1 in
      (level d v, (some, both.0, enters-level d v (level d v) some));
  command = λ e u v. enters_none d v (level d v) (rw u at e);
}

pub holding_points : HoldingPoints
holding_points = record { interrupts = is_due; runs = λ ps n d m. holding_by ps n d m unheld_run }
