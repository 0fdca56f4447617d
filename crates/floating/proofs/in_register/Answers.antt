-- `in_register` is right: an F is one register, a D two, the high word in the first.
use Rattle.machine.specs.FloatCode.{bits_in_register}
use Rattle.floating.proofs.in_register.Goals as goal

pub returns-in-F : goal.returns-in-F
unfolding bits_in_register
returns-in-F c = rw c.in-F.is c.wide.ensures

pub returns-in-D : goal.returns-in-D
unfolding bits_in_register
returns-in-D c =
    rw (
      c.in-D.is,
      ← c.next-j.ensures.place,
    ) c.joined.ensures
