-- `behind` is right: the word was found in one page, and the address that it holds wraps once.
use mathlib.Core.Path.{ap, ◌∙◌}
use native.Mathlib.Omega.{arith}
use Rattle.std.specs.Prelude.{Ok}
use Rattle.machine.specs.declared.Access.TheVariants.{Read}
use Rattle.sure.specs.Answers.{Placed}
use Rattle.sure.proofs.Places.{placed, placed_inside, word_read}
use Rattle.allforms.proofs.behind.Goals as goal

pub word-w-requires : goal.word-w-requires
word-w-requires c =
    let found : (let a = c.args in Placed a.status a.map a.mem.now 4 a.a Read c.in-Ok-Some.r) =
    placed (c.in-Ok-Some.is ∙ ap Ok (rw c.in-Ok-Some.is at c.in-Ok-Some.field-0-is)) c.look_whole-found.ensures in
    placed_inside (omega arith) found c.requires

pub returns : goal.returns
returns c =
    let found : (let a = c.args in Placed a.status a.map a.mem.now 4 a.a Read c.in-Ok-Some.r) =
    placed (c.in-Ok-Some.is ∙ ap Ok (rw c.in-Ok-Some.is at c.in-Ok-Some.field-0-is)) c.look_whole-found.ensures in
    record { same = λ r. simp (word_read found c.requires, ← c.plus.ensures, ← c.word-w.ensures) }
