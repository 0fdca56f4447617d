-- `store` is right: where the eight bytes go to one page, the answer for the first is that for all;
-- others are stored byte by byte.
use mathlib.Core.Path.{◌≡◌, ◌∙◌, sym, ap}
use native.Mathlib.Omega.{arith}
use lib.ListN.{replicate}
use lib.Seq.{take_all}
use Rattle.std.proofs.Common.{Ok}
use Rattle.std.proofs.lemmas.Result.{err_from_is_err_and}
use Rattle.machine.specs.declared.Access.TheVariants.{Write}
use Rattle.machine.specs.Words.{bytes_of}
use Rattle.machine.proofs.Blocks.{bytes_first}
use Rattle.machine.proofs.Bytes.{bytes_length}
use Rattle.lookup.proofs.Wholes.{Adjoin, whole-at, whole_alarm, adjoin_inside}
use Rattle.stores.proofs.OnePage.{page_stored, page_stopped}
use Rattle.doubles.proofs.store.Goals as goal

pub returns-in_err-r : goal.returns-in_err-r
returns-in_err-r c =
    let p = err_from_is_err_and c.from_residual.result c.from_residual.ensures.1 in
    rw (p.1, p.2)
    (page_stopped _ (bytes_length 8 c.args.bits)
    (whole_alarm c.in_err-r.was c.look_whole.ensures c.requires (omega arith) (omega arith)))

-- the bytes lie from a place on
pub lay-requires : goal.lay-requires
lay-requires c =
    let adjoin : (let a = c.args in Adjoin a.status a.map a.mem.now a.x Write 8 c.in-Some.r) =
    whole-at (c.in_ok-r.was ∙ ap Ok c.in-Some.is) c.look_whole.ensures c.requires (omega arith) (omega arith) in
    adjoin_inside adjoin

pub returns-in-Some : goal.returns-in-Some
returns-in-Some c =
    let adjoin : (let a = c.args in Adjoin a.status a.map a.mem.now a.x Write 8 c.in-Some.r) =
    whole-at (c.in_ok-r.was ∙ ap Ok c.in-Some.is) c.look_whole.ensures c.requires (omega arith) (omega arith) in
    page_stored _ (bytes_length 8 c.args.bits) adjoin c.lay.ensures

-- the eight bytes are all of the row
pub returns-in-None : goal.returns-in-None
returns-in-None c =
    let bits = c.args.bits in
    let row = c.lay-in-None.new.bytes in
    let all : row ≡ bytes_of 8 bits = sym (take_all 8 row (omega arith))
    ∙ rw c.lay-in-None.ensures (bytes_first 8 bits (replicate 8 0) (omega arith)) in
    rw all at c.store_each.ensures
