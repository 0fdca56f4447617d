-- `fetch` is right: a command byte is a value of one byte, and what a slice of bytes holds is below
-- 256.
use Rattle.std.proofs.Common.{◌≡◌, sym, ap, ◌∙◌, arith}
use Rattle.std.proofs.lemmas.Result.{err_from_is_err_and}
use Rattle.machine.specs.Alarms.{got}
use Rattle.machine.proofs.Pages.{read_page}
use Rattle.lookup.proofs.Lookups.{look_found, look_miss, look_inside}
use Rattle.machine.proofs.Bytes.{one_byte_value}
use Rattle.machine.specs.Map.{read_from}
use Rattle.machine.specs.Words.{wrap}
use Rattle.fetches.proofs.fetch.Goals as goal

pub returns-in_err-r-clause-value : goal.returns-in_err-r-clause-value
unfolding read_from
returns-in_err-r-clause-value c =
    let p = err_from_is_err_and c.from_residual.result c.from_residual.ensures.1 in
    let unwrapped : wrap c.args.x.0 ≡ c.args.x.0 = omega arith in
    rw (p.1, p.2, unwrapped, look_miss _ _ _ _ _ _ _ c.in_err-r.was c.look.ensures)

pub bounds-mem-r : goal.bounds-mem-r
bounds-mem-r c = look_inside _ _ _ _ _ _ _ c.in_ok-r.was c.look.ensures

pub returns-clause-value : goal.returns-clause-value
returns-clause-value c =
    let found = look_found c.in_ok-r.was c.look.ensures c.requires (omega arith) in
    ap got (c.wide.ensures.0 ∙ one_byte_value _ _) ∙ sym (read_page found 1 (omega arith))
