-- `exec` is right: each command, by one way or the other, is one more in the row, or the one that ends it.
use mathlib.Core.Path.{◌≡◌, refl, sym, ◌∙◌}
use Rattle.watch.proofs.Filters.{nothing_watched}
use Rattle.results.specs.Ends.{command_done}
use Rattle.commands.specs.Execution.{exec_of}
use Rattle.execution.proofs.Rows.{none_yet, none_passed, unchanged, unsure, sure, one_ends, one_alarms, goes_on, pauses}
use Rattle.execution.proofs.exec.Goals as goal
use Rattle.execution.proofs.exec.Goals.{After-unwrap-now, then-is_none+in-Ok+in-Done, else-is_none}
use Rattle.execution.proofs.exec.Goals.{else-filter-ne0-via-then-filter-ne0+else-met, else-filter-ne0-via-else-filter-ne0}

pub loop-count-init : goal.loop-count-init
loop-count-init c = (none_yet _ _ _ _, none_passed _ _ _ _ _)

pub returns-in_default : goal.returns-in_default
returns-in_default c =
    let general = unchanged c.loop-count.invariant.0 (unsure _ _ _ _ _ _ _ c.if-is_none.ensures c.command-quiet.ensures) in
    rw c.in_default.is
    (one_alarms general _ c.loop-count.invariant.1 c.loop-count-test.true _ _ c.in_default.field-0 c.in_default.ensures, refl)

pub returns-in_default-end : goal.returns-in_default-end
returns-in_default-end c =
    let general = unchanged c.loop-count.invariant.0 (unsure _ _ _ _ _ _ _ c.if-is_none.ensures c.command-quiet.ensures) in
    one_ends general _ c.loop-count.invariant.1 c.loop-count-test.true _ _ c.in-Ok.end c.in_default-end.not-Done c.in-Ok.ensures

-- the command ended quietly, by one way or the other
one_done : (c : After-unwrap-now)
    → command_done c.if-is_none.regs c.unwrap-now.result c.if-is_none.mem
    ≡ exec_of c.loop-count.now c.args.map c.loop-count.regs c.loop-count.mem
one_done c =
    elim c.if-is_none.branch [
      | then-is_none+in-Ok+in-Done w ↦
          let same : w.in-Done.s ≡ c.unwrap-now.result = cc in
          let general = unsure _ _ _ _ _ _ _ w.if-is_none.ensures c.command-quiet.ensures in
          rw (w.regs-is, w.mem-is, ← same, ← general.0, ← general.1) (rw w.in-Done.is at w.in-Ok.ensures)
      | else-is_none w ↦
          rw (w.regs-is, w.mem-is) (sure _ _ _ _ _ _ _ (sym w.quiet-is ∙ c.unwrap-now.ensures) c.command-quiet.ensures)
    ]

pub returns-then-met : goal.returns-then-met
returns-then-met c =
    let step = one_done (goal.at.returns-then-met c).After-unwrap-now in
    rw c.paused.ensures
    (pauses _ c.loop-count.invariant.0 c.loop-count.invariant.1 (c.if-is_none.auto.mem ∙ c.command-quiet.auto.mem) step
    c.loop-count-test.true (sym c.met.ensures ∙ c.if-met.true))

pub loop-count-preserved : goal.loop-count-preserved
loop-count-preserved c =
    let step = one_done (goal.at.loop-count-preserved c).After-unwrap-now in
    elim c.else-filter-ne0.branch [
      | else-filter-ne0-via-then-filter-ne0+else-met w ↦
          let next = goes_on _ c.loop-count.invariant.0 c.loop-count.invariant.1
          (c.if-is_none.auto.mem ∙ c.command-quiet.auto.mem) step (sym w.met.ensures ∙ w.if-met.false) in
          (next.0, next.1)
      | else-filter-ne0-via-else-filter-ne0 w ↦
          let next = goes_on _ c.loop-count.invariant.0 c.loop-count.invariant.1
          (c.if-is_none.auto.mem ∙ c.command-quiet.auto.mem) step
          (nothing_watched _ _ c.requires.covers w.if-filter-ne0.false _) in
          (next.0, next.1)
    ]
