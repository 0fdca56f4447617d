-- `store` is right: where the bytes go to one page, the answer for the first is that for all;
-- others are stored byte by byte.
use Rattle.std.proofs.Common.{Ok, ap, ◌∙◌, arith}
use Rattle.std.proofs.lemmas.Result.{err_from_is_err_and}
use Rattle.machine.specs.declared.Access.TheVariants.{Write}
use Rattle.machine.specs.Words.{length_of}
use Rattle.machine.proofs.Bytes.{bytes_length}
use Rattle.lookup.proofs.Wholes.{Adjoin, whole-at, whole_alarm, adjoin_inside}
use Rattle.words.proofs.Values.{length_bounds}
use Rattle.stores.proofs.OnePage.{page_stored, page_stopped}
use Rattle.stores.proofs.store.Goals as goal

pub returns-in_err-r : goal.returns-in_err-r
returns-in_err-r c =
    let p = err_from_is_err_and c.from_residual.result c.from_residual.ensures.1 in
    rw (p.1, p.2)
    (page_stopped _ (bytes_length (length_of c.args.size) c.args.value)
    (whole_alarm c.in_err-r.was (rw c.length-n.ensures at c.look_whole.ensures) c.requires (omega arith)
    (omega (arith, length_bounds c.args.size))))

-- the bytes lie from a place on
pub value_to-requires : goal.value_to-requires
value_to-requires c =
    let adjoin : (let a = c.args in Adjoin a.status a.map a.mem.now a.x Write (length_of a.size) c.in-Some.r) =
    whole-at (c.in_ok-r.was ∙ ap Ok c.in-Some.is) (rw c.length-n.ensures at c.look_whole.ensures) c.requires
    (omega arith) (omega (arith, length_bounds c.args.size)) in
    adjoin_inside adjoin

pub returns-in-Some : goal.returns-in-Some
returns-in-Some c =
    let a = c.args in
    let adjoin : Adjoin a.status a.map a.mem.now a.x Write (length_of a.size) c.in-Some.r =
    whole-at (c.in_ok-r.was ∙ ap Ok c.in-Some.is) (rw c.length-n.ensures at c.look_whole.ensures) c.requires
    (omega arith) (omega (arith, length_bounds c.args.size)) in
    page_stored _ (bytes_length (length_of a.size) a.value) adjoin c.value_to.ensures
