-- `pop` is right: where the sixty bytes lie in one page, the answer for the first is that for all;
-- others are read word by word.
use Rattle.std.proofs.Common.{ap, ◌∙◌, refl, sym, Ok, arith}
use Rattle.std.proofs.lemmas.Result.{err_from_is_err_and}
use Rattle.machine.specs.declared.Access.TheVariants.{Read}
use Rattle.machine.specs.State.{reg}
use Rattle.machine.specs.Map.{view_by, located, commit}
use Rattle.lookup.proofs.Wholes.{Adjoin, whole-at, adjoin_finds, adjoin_inside}
use Rattle.reads.proofs.Reading.{read_all, read_stops}
use Rattle.results.proofs.Ends.{same_status}
use Rattle.stack.proofs.Stack.{popped_page, popped_alarm}
use Rattle.stack.proofs.pop.Goals as goal

pub returns-in_err-r : goal.returns-in_err-r
returns-in_err-r c =
    let a = c.args in
    let p = err_from_is_err_and c.from_residual.result c.from_residual.ensures.1 in
    let v = view_by a.status a.map a.mem.now in
    let sp = reg a.regs.now 14 in
    rw (
      p.1,
      p.2,
      popped_alarm v 15 0 a.regs.now (omega arith) _ _
          (sym (read_all v Read sp 4 ∙ read_stops v Read sp 4 0 0 sp (omega arith) (omega arith) _ _ c.in_err-r.ensures.1)),
    )

pub fill-requires : goal.fill-requires
fill-requires c =
    let adjoin : (let a = c.args in
    Adjoin a.status a.map a.mem.now (record { 0 = reg a.regs.now 14 }) Read 60 c.in-Some.r) =
    whole-at (c.in_ok-r.was ∙ ap Ok c.in-Some.is) c.look_whole.ensures c.requires (omega arith) (omega arith) in
    adjoin_inside adjoin

pub returns-in-Some : goal.returns-in-Some
unfolding located commit
returns-in-Some c =
    let adjoin : (let a = c.args in
    Adjoin a.status a.map a.mem.now (record { 0 = reg a.regs.now 14 }) Read 60 c.in-Some.r) =
    whole-at (c.in_ok-r.was ∙ ap Ok c.in-Some.is) c.look_whole.ensures c.requires (omega arith) (omega arith) in
    let a = c.args in
    rw (
      popped_page (adjoin_finds adjoin) adjoin.bytes.page a.regs.now refl (omega arith),
      same_status,
      c.fill.ensures,
    )
