-- `steps` is right: each iteration makes steps of the run, and one more that stops the desk ends it.
use Prim.Native.Nat.{ℕ}
use mathlib.Core.Path.{◌≡◌, refl, sym, ap, ◌∙◌}
use native.Mathlib.Omega.{arith}
use borrow.Author.Rules.{rules}
use Rattle.std.specs.Prelude.{Result, Ok, Err}
use Rattle.machine.specs.declared.Fault.{Fault}
use Rattle.machine.specs.declared.VirtualAddress.{VirtualAddress}
use Rattle.machine.specs.State.{is_running}
use Rattle.results.specs.declared.Out.{Out}
use Rattle.results.specs.declared.Out.TheVariants as out
use Rattle.breakpoints.specs.Gathered.{among_at}
use Rattle.breakpoints.specs.RunTo.{steps_to}
use Rattle.execution.proofs.Rows.{next_one}
use Rattle.levels.specs.Due.{interrupt_of}
use Rattle.levels.proofs.Pending.{level_pending}
use Rattle.runs.proofs.Ending.{resumes_in_kernel_mode}
use Rattle.runs.proofs.Holds.{told_some, told_held, told_free}
use Rattle.runs.proofs.Runs.{blocks, map_fits_lem, After, start, go_on, stopped, finished, held}
use Rattle.runs.proofs.Runs.{after-level, after_quiet, after_command, along, next_free}
use Rattle.runs.proofs.steps.Goals as goal
use Rattle.runs.proofs.steps.Goals.{Joined-level-gt0, then-level-gt0, else-level-gt0+else-held_at+else-not-is_ok_and}
use Rattle.runs.proofs.steps.Goals.{else-level-gt0+else-held_at+then-not-is_ok_and}

-- what is none of the others is Done
done : (o : Result Out Fault) → ((x : ℕ) → o ≡ Ok (out.System x) → ⊥) → (o ≡ Ok out.Halt → ⊥)
    → ((a : VirtualAddress) → o ≡ Ok (out.Resume a) → ⊥) → ((f : Fault) → o ≡ Err f → ⊥)
    → (u : ℕ) × (o ≡ Ok (out.Done u))
done (Ok (out.Done u)) s h r f = (u, refl)
done (Ok (out.System x)) s h r f = absurd (s x refl)
done (Ok out.Halt) s h r f = absurd (h refl)
done (Ok (out.Resume a)) s h r f = absurd (r a refl)
done (Err e) s h r f = absurd (f e refl)

-- an iteration makes steps of the run
turn : (c : Joined-level-gt0)
    → After c.args.watched.now c.args.n c.loop-count.count c.if-level-gt0.count
    (steps_to (among_at c.args.watched.now) c.args.n 0 c.args.d c.args.mem.now) c.args.d c.args.mem.now
    c.if-level-gt0.last c.if-level-gt0.desk c.if-level-gt0.mem
turn c =
    let l = c.loop-count in
    let left = c.loop-count-test.true in
    let level = c.interrupt-level.ensures.value in
    elim c.if-level-gt0.branch [
      | then-level-gt0 w ↦
          rw (w.mem-is, w.desk-is, w.last-is, w.count-is)
          (after-level l.invariant.1 left w.enter_level-reply.result _ _ w.enter_level-reply.auto.mem level
          w.if-level-gt0.true w.enter_level-reply.ensures)
      | else-level-gt0+else-held_at+else-not-is_ok_and w ↦
          let none : interrupt_of l.desk.status l.desk.pending ≡ 0 = omega (arith, level, w.if-level-gt0.false) in
          let free = told_free _ l.desk _ (sym w.held_at.ensures ∙ w.if-held_at.false) in
          let a = along l.invariant.1 none free left _ _ _ _ _ w.exec-e.result.out w.exec-e.ensures in
          let told = w.if-not-is_ok_and.false in
          let quiet = done w.exec-e.result.out
          (λ x e. let f = rw e at w.is_ok_and.ensures in search rules)
          (λ e. let f = rw e at w.is_ok_and.ensures in search rules)
          (λ x e. let f = rw e at w.is_ok_and.ensures in search rules)
          (λ x e. let f = rw e at w.is_ok_and.ensures in search rules) in
          let some = (rw quiet.1 at w.exec-e.ensures).some in
          rw (w.mem-is, w.desk-is, w.last-is, w.count-is, w.running-desk.ensures)
          (after_quiet a (some (omega (arith, left))))
      | else-level-gt0+else-held_at+then-not-is_ok_and w ↦
          let none : interrupt_of l.desk.status l.desk.pending ≡ 0 = omega (arith, level, w.if-level-gt0.false) in
          let free = told_free _ l.desk _ (sym w.held_at.ensures ∙ w.if-held_at.false) in
          let a = along l.invariant.1 none free left _ _ _ _ _ w.exec-e.result.out w.exec-e.ensures in
          let unquiet : (u : ℕ) → w.exec-e.result.out ≡ Ok (out.Done u) → ⊥ = λ u e.
          let f = rw e at w.is_ok_and.ensures in let told = w.if-not-is_ok_and.true in search rules in
          let next = next_one w.exec-e.result.out unquiet w.exec-e.ensures in
          let next-not-held = next_free l.invariant.1 none free _ _ _ _ next.quiet next.passed in
          rw (w.mem-is, w.desk-is, w.last-is, w.count-is)
          (after_command a next-not-held (omega (arith, next.more)) next.next w.conclude-reply.result _
          w.conclude-reply.auto.mem (rw w.running-desk.ensures at w.conclude-reply.ensures))
    ]

pub loop-count-init : goal.loop-count-init
loop-count-init c = (search rules, start _ _ _ _ c.requires.mem_value, λ h. absurd (omega (arith, h)))

pub enter_level-reply-requires : goal.enter_level-reply-requires
enter_level-reply-requires c = (
  blocks _ _ c.loop-count.invariant.1.passes,
  c.interrupt-level.ensures.small,
  level_pending _ _ _ c.interrupt-level.ensures.value c.if-level-gt0.true,
)

pub returns-then-held_at : goal.returns-then-held_at
returns-then-held_at c =
    let l = c.loop-count in
    let left = c.loop-count-test.true in
    let none : interrupt_of l.desk.status l.desk.pending ≡ 0 = omega (arith, c.interrupt-level.ensures.value, c.if-level-gt0.false) in
    let told = sym c.held_at.ensures ∙ c.if-held_at.true in
    let some = told_some c.args.watched.now l.desk l.count told in record {
      all = rw c.made.ensures (held l.invariant.1 left (told_held _ l.desk _ none told));
      one = rw c.made.ensures (λ e. absurd (omega (arith, e, left, some)));
    }

pub exec-e-requires-clause-fits : goal.exec-e-requires-clause-fits
exec-e-requires-clause-fits c = map_fits_lem _ _ c.loop-count.invariant.1.passes

pub conclude-reply-requires : goal.conclude-reply-requires
conclude-reply-requires c =
    let l = c.loop-count in
    let none : interrupt_of l.desk.status l.desk.pending ≡ 0 = omega (arith, c.interrupt-level.ensures.value, c.if-level-gt0.false) in
    let free = told_free _ l.desk _ (sym c.held_at.ensures ∙ c.if-held_at.false) in
    let a = along l.invariant.1 none free c.loop-count-test.true _ _ _ _ _ c.exec-e.result.out c.exec-e.ensures in
    let unquiet : (u : ℕ) → c.exec-e.result.out ≡ Ok (out.Done u) → ⊥ = λ u e.
    let f = rw e at c.is_ok_and.ensures in let told = c.if-not-is_ok_and.true in search rules in
    let next = next_one c.exec-e.result.out unquiet c.exec-e.ensures in
    rw c.running-desk.ensures (
      blocks _ _ a.midway.passes,
      resumes_in_kernel_mode _ _ _ _ c.exec-e.result.out _ _ next.next,
    )

pub loop-count-preserved : goal.loop-count-preserved
loop-count-preserved c =
    let t = turn (goal.at.loop-count-preserved c).Joined-level-gt0 in
    (t.few, go_on t (ap is_running c.in-Running.is), t.one)

pub returns-in-Stopped : goal.returns-in-Stopped
returns-in-Stopped c =
    let t = turn (goal.at.returns-in-Stopped c).Joined-level-gt0 in
    record {
      all = rw c.made-in-Stopped.ensures (stopped t (ap is_running c.in-Stopped.is));
      one = rw c.made-in-Stopped.ensures (λ h. t.one (omega (arith, h, t.made, t.few)));
    }

pub returns : goal.returns
returns c =
    let l = c.loop-count in
    let t = c.loop-count-test.false in
    record {
      all = rw c.made-2.ensures (finished l.invariant.1 t);
      one = rw c.made-2.ensures (λ h. l.invariant.2 (omega (arith, h, t, l.invariant.0)));
    }
