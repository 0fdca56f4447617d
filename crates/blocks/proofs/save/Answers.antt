-- `save` is right: the registers' bytes, then two words more.
use mathlib.Core.Path.{◌≡◌, sym}
use borrow.Author.Rules.{rules}
use lib.ListN.{length}
use Rattle.machine.specs.State.{registers_from, saved_bytes}
use Rattle.machine.proofs.Blocks.{sets_two_more}
use Rattle.machine.proofs.Writes.{commit_from}
use Rattle.blocks.proofs.Registers.{registers_left}
use Rattle.blocks.proofs.save.Goals as goal

pub returns : goal.returns
unfolding saved_bytes
returns c =
    let a = c.args in
    let l : length a.regs.now ≡ 16 = search rules in
    let all : registers_from 16 0 a.regs.now ≡ a.regs.now = registers_left 16 0 a.regs.now (sym l) in
    rw (c.value_to-2.ensures, c.value_to.ensures, c.put_words.ensures, all, commit_from)
    (sym (sets_two_more a.regs.now a.status a.argument a.mem.now a.control.0 16 l))
