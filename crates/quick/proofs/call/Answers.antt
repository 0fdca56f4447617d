-- `call` is right: where the word below the stack's top is found, R15 is written there and the
-- command ends so; elsewhere nothing is done.
-- the word at the lowered SP is found
use mathlib.Core.Path.{ap, ◌∙◌}
use native.Mathlib.Omega.{arith}
use Rattle.std.proofs.Common.{Ok}
use Rattle.machine.specs.declared.Access.TheVariants.{Write}
use Rattle.machine.specs.State.{reg, flags_of}
use Rattle.machine.specs.Commands.{called}
use Rattle.results.proofs.Ends.{same_status}
use Rattle.sure.specs.Answers.{Placed}
use Rattle.sure.proofs.Places.{placed, placed_inside}
use Rattle.commands.proofs.Written.{written}
use Rattle.quick.proofs.call.Goals as goal

pub value_to-requires : goal.value_to-requires
value_to-requires c =
    let found : (let a = c.args in
    Placed a.status a.map a.mem.now 4 (record { 0 = c.minus-sp.result }) Write
    c.in-Ok-Some.r) =
    placed (c.in-Ok-Some.is ∙ ap Ok (rw c.in-Ok-Some.is at c.in-Ok-Some.field-0-is)) c.look_whole-found.ensures in
    placed_inside (omega arith) found
    c.requires

pub returns : goal.returns
unfolding called
returns c =
    let found : (let a = c.args in
    Placed a.status a.map a.mem.now 4 (record { 0 = c.minus-sp.result }) Write
    c.in-Ok-Some.r) =
    placed (c.in-Ok-Some.is ∙ ap Ok (rw c.in-Ok-Some.is at c.in-Ok-Some.field-0-is)) c.look_whole-found.ensures in
    let a = c.args in
    let sp = c.minus-sp.ensures in
    rw sp
    (rw same_status
    at (written (omega arith) found c.requires
    (called a.a a.regs.now (flags_of a.status)) (reg a.regs.now 15) (rw sp)
    c.value_to.ensures))
