-- `beside` is right: as far as x lies behind start in the page, so far its byte lies behind that of
-- start in memory.
use native.Mathlib.Omega.{arith}
use Rattle.lookup.proofs.Lookups.{finds_later}
use Rattle.lookup.proofs.beside.Goals as goal

pub returns-then-start-k : goal.returns-then-start-k
returns-then-start-k c =
    let a = c.args in (
      omega arith,
      record {
        hit = λ s map m w whole hit. (finds_later (record { small = omega arith; whole = whole; hit = hit }) a.x
            (omega arith) (omega arith) (omega arith)).hit;
      },
    )
