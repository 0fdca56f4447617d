-- `entry_r15` is right: an entry of the system block is a word of memory; past the block there is
-- none.
use Prim.Native.Nat.{◌*◌}
use mathlib.Core.Path.{sym, ◌∙◌}
use native.Mathlib.Omega.{arith}
use Rattle.machine.proofs.Blocks.{block-word, no_word}
use Rattle.blocks.proofs.entry_r15.Goals as goal

pub returns-then-cause-lt32 : goal.returns-then-cause-lt32
returns-then-cause-lt32 c =
    let a = c.args in
    c.word.ensures ∙ sym (block-word a.mem.now a.system.0 (8 * a.cause) (omega arith))

pub returns : goal.returns
returns c =
    let a = c.args in
    sym (no_word a.mem.now a.system.0 (8 * a.cause) (omega arith))
