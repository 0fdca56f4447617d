-- `short` is right: each operation is the definition's, the second number op the first.
use Rattle.machine.specs.Floats.{computed}
use Rattle.floats.proofs.short.Goals as goal

pub returns-in-Add : goal.returns-in-Add
unfolding computed
returns-in-Add c = rw c.in-Add.is

pub returns-in-Sub : goal.returns-in-Sub
unfolding computed
returns-in-Sub c = rw c.in-Sub.is

pub returns-in-Mult : goal.returns-in-Mult
unfolding computed
returns-in-Mult c = rw c.in-Mult.is

pub returns-in-Div : goal.returns-in-Div
unfolding computed
returns-in-Div c = rw c.in-Div.is
