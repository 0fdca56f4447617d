-- `put` is right: a result for a place that was found is written there, the others go to their target.
-- the place of a word was found, and so that of a result of any size
use mathlib.Core.Path.{refl}
use Rattle.machine.specs.declared.Access.TheVariants.{Write}
use Rattle.machine.specs.declared.Target.TheVariants.{Memory}
use Rattle.machine.specs.Words.{length_of}
use Rattle.machine.specs.Commands.{stored}
use Rattle.words.proofs.Values.{length_bounds}
use Rattle.sure.specs.Answers.{Placed}
use Rattle.sure.proofs.Places.{has_bytes, placed_fewer, placed_inside}
use Rattle.commands.proofs.Written.{written}
use Rattle.commands.proofs.put.Goals as goal

pub value_to-requires : goal.value_to-requires
value_to-requires c =
    let found : (let a = c.args in
    Placed a.status a.map a.mem.now (length_of a.size) c.in-Found.field-0 Write c.in-Found.r) =
    placed_fewer (length_bounds c.args.size).1 (rw c.in-Found.is at c.requires.1) in
    placed_inside (has_bytes c.args.size) found c.requires.0

pub returns-in-Found : goal.returns-in-Found
unfolding stored
returns-in-Found c =
    let found : (let a = c.args in
    Placed a.status a.map a.mem.now (length_of a.size) c.in-Found.field-0 Write c.in-Found.r) =
    placed_fewer (length_bounds c.args.size).1 (rw c.in-Found.is at c.requires.1) in
    let a = c.args in
    rw (c.in-Found.is, c.with_flags.ensures)
    (written (has_bytes a.size) found c.requires.0
    (stored (length_of a.size) a.x (Memory c.in-Found.field-0) a.regs.now) a.x.value refl
    c.value_to.ensures)
