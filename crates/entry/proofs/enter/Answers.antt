-- `enter` is right: the system block names the new R15 and status; where that status is valid the
-- registers are saved, and nothing changes where it is not.
use mathlib.Core.Path.{sym, ◌∙◌}
use Rattle.machine.specs.Steps.{stop, enter_if, concluded}
use Rattle.machine.specs.Map.{commit}
use Rattle.machine.specs.State.{system_block_of}
use Rattle.entry.proofs.enter.Goals as goal

pub returns-then-not-valid : goal.returns-then-not-valid
unfolding system_block_of commit stop enter_if concluded
returns-then-not-valid c =
    simp (
      c.stop.ensures,
      ← c.entry_status-status.ensures,
      sym c.is_valid_kernel-valid.ensures ∙ c.if-not-valid.true,
    )

pub returns : goal.returns
unfolding system_block_of enter_if concluded
returns c =
    simp (
      c.with-desk.ensures,
      c.save.ensures,
      ← c.entry_status-status.ensures,
      ← c.entry_r15-start.ensures,
      sym c.is_valid_kernel-valid.ensures ∙ c.if-not-valid.false,
    )
