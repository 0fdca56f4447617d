-- `fields_bytewise` is right: three reads, each from the wrapped address that the definition names,
-- and the first alarm ends them.
use Rattle.std.proofs.Common.{◌≡◌, arith}
use Rattle.std.proofs.lemmas.Result.{err_from_is_err_and}
use Rattle.machine.specs.Words.{wrap}
use Rattle.machine.specs.Operands.{fields_at}
use Rattle.fetches.proofs.fields_bytewise.Goals as goal

pub returns-in_err-form : goal.returns-in_err-form
unfolding fields_at
returns-in_err-form c =
    let p = err_from_is_err_and c.from_residual.result c.from_residual.ensures.1 in
    let unwrapped : wrap c.args.x.0 ≡ c.args.x.0 = omega arith in
    rw (p.1, p.2) (simp (unwrapped, c.in_err-form.was, ← c.read_bytewise.ensures.value))

pub returns-in_err-pair : goal.returns-in_err-pair
unfolding fields_at
returns-in_err-pair c =
    let p = err_from_is_err_and c.from_residual-in_err-pair.result c.from_residual-in_err-pair.ensures.1 in
    let unwrapped : wrap c.args.x.0 ≡ c.args.x.0 = omega arith in
    rw (p.1, p.2)
    (simp (
      unwrapped,
      c.in_err-pair.was,
      ← c.read_bytewise-2.ensures.value,
      ← c.plus.ensures,
      c.in_ok-form.was,
      ← c.read_bytewise.ensures.value,
    ))

pub returns-in_err-z : goal.returns-in_err-z
unfolding fields_at
returns-in_err-z c =
    let p = err_from_is_err_and c.from_residual-in_err-z.result c.from_residual-in_err-z.ensures.1 in
    let unwrapped : wrap c.args.x.0 ≡ c.args.x.0 = omega arith in
    rw (p.1, p.2)
    (simp (
      unwrapped,
      c.in_err-z.was,
      ← c.read_bytewise-3.ensures.value,
      ← c.plus-2.ensures,
      c.in_ok-pair.was,
      ← c.read_bytewise-2.ensures.value,
      ← c.plus.ensures,
      c.in_ok-form.was,
      ← c.read_bytewise.ensures.value,
    ))

pub returns : goal.returns
unfolding fields_at
returns c =
    let unwrapped : wrap c.args.x.0 ≡ c.args.x.0 = omega arith in
    simp (
      unwrapped,
      c.fields_of.ensures,
      c.in_ok-z.was,
      ← c.read_bytewise-3.ensures.value,
      ← c.plus-2.ensures,
      c.in_ok-pair.was,
      ← c.read_bytewise-2.ensures.value,
      ← c.plus.ensures,
      c.in_ok-form.was,
      ← c.read_bytewise.ensures.value,
    )
