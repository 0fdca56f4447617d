-- `ret` is right: where the word at SP is found, it goes to R15 and SP is raised; elsewhere nothing
-- is done.
-- the word at SP is found
use mathlib.Core.Path.{ap, ◌∙◌}
use native.Mathlib.Omega.{arith}
use Rattle.std.proofs.Common.{Ok}
use Rattle.machine.specs.declared.Access.TheVariants.{Read}
use Rattle.machine.specs.State.{reg}
use Rattle.machine.specs.Map.{located, commit}
use Rattle.machine.specs.Commands.{returned}
use Rattle.reads.proofs.Reading.{read-virtual}
use Rattle.results.proofs.Ends.{same_status}
use Rattle.sure.specs.Answers.{Placed}
use Rattle.sure.proofs.Places.{placed, placed_inside, word_read}
use Rattle.quick.proofs.ret.Goals as goal

pub word-requires : goal.word-requires
word-requires c =
    let found : (let a = c.args in
    Placed a.status a.map a.mem.now 4 (record { 0 = reg a.regs.now 14 }) Read c.in-Ok-Some.r) =
    placed (c.in-Ok-Some.is ∙ ap Ok (rw c.in-Ok-Some.is at c.in-Ok-Some.field-0-is)) c.look_whole-found.ensures in
    placed_inside (omega arith) found c.requires

pub returns : goal.returns
unfolding returned located commit
returns c =
    let found : (let a = c.args in
    Placed a.status a.map a.mem.now 4 (record { 0 = reg a.regs.now 14 }) Read c.in-Ok-Some.r) =
    placed (c.in-Ok-Some.is ∙ ap Ok (rw c.in-Ok-Some.is at c.in-Ok-Some.field-0-is)) c.look_whole-found.ensures in
    rw (
      read-virtual,
      word_read found c.requires,
      same_status,
      c.plus.ensures,
      c.word.ensures,
    )
