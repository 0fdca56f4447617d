-- `take_memory` is right: an address is not looked up; a value that is written is looked up for
-- writing, and may then be read there too.
use mathlib.Core.Path.{◌≡◌, sym, ap, ◌∙◌}
use Rattle.std.specs.Prelude.{Ok}
use Rattle.machine.specs.declared.Access.TheVariants.{Read}
use Rattle.machine.specs.Words.{length_of}
use Rattle.machine.specs.Alarms.{got}
use Rattle.machine.specs.Map.{read_bytes, view_by}
use Rattle.sure.specs.Answers.{Placed}
use Rattle.sure.proofs.Places.{placed, has_bytes, placed_inside, placed_read}
use Rattle.sure.proofs.Taking.{takes_address, takes_written, takes_value}
use Rattle.sure.proofs.take_memory.Goals as goal

pub returns-then-addresses-clause-value : goal.returns-then-addresses-clause-value
returns-then-addresses-clause-value c = takes_address _ _ _ _ (sym c.if-addresses.ensures)

pub value_at-requires : goal.value_at-requires
value_at-requires c =
    let found : (let a = c.args in Placed a.status a.map a.mem.now (length_of a.size) a.a c.access.result c.in-Ok-Some.r) =
    placed (c.in-Ok-Some.is ∙ ap Ok (rw c.in-Ok-Some.is at c.in-Ok-Some.field-0-is)) (rw c.length.ensures at c.look_whole-found.ensures) in
    placed_inside (has_bytes c.args.size) found c.requires

pub returns-then-writes-clause-value : goal.returns-then-writes-clause-value
returns-then-writes-clause-value c =
    let found : (let a = c.args in Placed a.status a.map a.mem.now (length_of a.size) a.a c.access.result c.in-Ok-Some.r) =
    placed (c.in-Ok-Some.is ∙ ap Ok (rw c.in-Ok-Some.is at c.in-Ok-Some.field-0-is)) (rw c.length.ensures at c.look_whole-found.ensures) in
    let read : (let a = c.args in read_bytes (view_by a.status a.map a.mem.now) Read (length_of a.size) a.a ≡ got c.value_at.result) =
    rw c.value_at.ensures (placed_read (has_bytes c.args.size) found c.requires) in
    rw c.number-number.ensures (takes_written _ _ _ _ read _ _ (sym c.if-writes.ensures))

pub returns-else-writes-clause-value : goal.returns-else-writes-clause-value
returns-else-writes-clause-value c =
    let found : (let a = c.args in Placed a.status a.map a.mem.now (length_of a.size) a.a c.access.result c.in-Ok-Some.r) =
    placed (c.in-Ok-Some.is ∙ ap Ok (rw c.in-Ok-Some.is at c.in-Ok-Some.field-0-is)) (rw c.length.ensures at c.look_whole-found.ensures) in
    let read : (let a = c.args in read_bytes (view_by a.status a.map a.mem.now) Read (length_of a.size) a.a ≡ got c.value_at.result) =
    rw c.value_at.ensures (placed_read (has_bytes c.args.size) found c.requires) in
    rw c.number-number.ensures
    (takes_value _ _ _ _ read _ (sym c.if-addresses.ensures) (sym c.if-writes.ensures))
