-- `push_all` is right: where the sixty bytes go to one page, the answer for the first is that for
-- all; others are stored byte by byte.
use Rattle.std.proofs.Common.{ap, ◌∙◌, Ok, arith}
use Rattle.std.proofs.lemmas.Result.{err_from_is_err_and}
use Rattle.machine.specs.declared.Access.TheVariants.{Write}
use Rattle.lookup.proofs.Wholes.{Adjoin, whole-at, adjoin_inside, whole_alarm}
use Rattle.stores.proofs.OnePage.{page_stored, page_stopped}
use Rattle.stack.proofs.Stack.{row_bytes}
use Rattle.stack.proofs.push_all.Goals as goal

pub returns-in_err-r : goal.returns-in_err-r
returns-in_err-r c =
    let p = err_from_is_err_and c.from_residual.result c.from_residual.ensures.1 in
    rw (p.1, p.2)
    (page_stopped _ (row_bytes c.args.regs.now)
    (whole_alarm c.in_err-r.was c.look_whole.ensures c.requires (omega arith) (omega arith)))

pub lay-requires : goal.lay-requires
lay-requires c =
    let adjoin : (let a = c.args in
    Adjoin a.status a.map a.mem.now a.x Write 60 c.in-Some.r) =
    whole-at (c.in_ok-r.was ∙ ap Ok c.in-Some.is) c.look_whole.ensures c.requires (omega arith)
    (omega arith) in
    adjoin_inside adjoin

pub returns-in-Some : goal.returns-in-Some
returns-in-Some c =
    let adjoin : (let a = c.args in
    Adjoin a.status a.map a.mem.now a.x Write 60 c.in-Some.r) =
    whole-at (c.in_ok-r.was ∙ ap Ok c.in-Some.is) c.look_whole.ensures c.requires (omega arith)
    (omega arith) in
    page_stored _ (row_bytes c.args.regs.now) adjoin
    c.lay.ensures
