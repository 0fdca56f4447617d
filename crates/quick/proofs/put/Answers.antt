-- `put` is right for each target: a register keeps the rest of its bytes, and a result for the memory
-- is written where its place was found.
use mathlib.Core.Path.{refl}
use Rattle.machine.specs.declared.Access.TheVariants.{Write}
use Rattle.machine.specs.declared.Target.TheVariants.{Memory}
use Rattle.machine.specs.Words.{length_of}
use Rattle.machine.specs.Map.{located, commit}
use Rattle.machine.specs.Commands.{stored}
use Rattle.sure.specs.Answers.{Placed}
use Rattle.sure.proofs.Places.{has_bytes, placed_inside}
use Rattle.commands.proofs.Written.{written}
use Rattle.quick.proofs.put.Goals as goal

pub value_to-requires : goal.value_to-requires
value_to-requires c =
    let found : (let a = c.args in
    Placed a.status a.map a.mem.now (length_of a.size) c.in-Memory.field-0 Write c.in-Memory.r) =
    rw c.in-Memory.is at c.requires.1 in
    placed_inside (has_bytes c.args.size) found c.requires.0

pub returns-in-Nowhere : goal.returns-in-Nowhere
unfolding stored located commit
returns-in-Nowhere c = rw (c.in-Nowhere.is, c.with_flags-s.ensures)

pub returns-in-Register : goal.returns-in-Register
unfolding stored located commit
returns-in-Register c =
    rw (
      c.in-Register.is,
      c.kept_rest.ensures,
      c.with_flags-s.ensures,
    )

pub returns-in-Memory : goal.returns-in-Memory
unfolding stored
returns-in-Memory c =
    let found : (let a = c.args in
    Placed a.status a.map a.mem.now (length_of a.size) c.in-Memory.field-0 Write c.in-Memory.r) =
    rw c.in-Memory.is at c.requires.1 in
    let a = c.args in
    rw (c.in-Memory.is, c.with_flags-s.ensures)
    (written (has_bytes a.size) found c.requires.0
    (stored (length_of a.size) a.x (Memory c.in-Memory.field-0) a.regs.now) a.x.value refl
    c.value_to.ensures)
