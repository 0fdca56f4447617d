-- `next_at` is right: each test says that the command's bytes are there and which it is, and where all of
-- them fail there is none.
use Prim.Native.Nat.{◌+◌, ◌≤◌}
use mathlib.Core.Path.{sym}
use native.Mathlib.Omega.{arith}
use borrow.Author.Tests.{le-leb}
use lib.ListN.{length}
use Rattle.lists.proofs.Reading.{at_00, at_01, at_02, at_03, at_04, at_none, at-end}
use Rattle.lists.proofs.next_at.Goals as goal

pub returns-then-left-eq0 : goal.returns-then-left-eq0
returns-then-left-eq0 c = sym (at-end _ _ (omega arith))

pub returns-then-c-eq2 : goal.returns-then-c-eq2
returns-then-c-eq2 c =
    let there : c.args.at + 2 ≤ length c.args.list.now = omega arith in
    rw (at_02 _ _ c.if-c-eq2.true, le-leb _ _ there)

pub returns-then-c-eq3 : goal.returns-then-c-eq3
returns-then-c-eq3 c =
    let there : c.args.at + 5 ≤ length c.args.list.now = omega arith in
    rw (at_03 _ _ c.if-c-eq3.true, le-leb _ _ there)

pub returns-then-c-eq4 : goal.returns-then-c-eq4
returns-then-c-eq4 c =
    let there : c.args.at + 4 ≤ length c.args.list.now = omega arith in
    rw (at_04 _ _ c.if-c-eq4.true, le-leb _ _ there, c.wide.ensures.0, c.wide-then-c-eq4.ensures.0)

pub returns-then-c-eq1 : goal.returns-then-c-eq1
returns-then-c-eq1 c =
    let there : c.args.at + 5 ≤ length c.args.list.now = omega arith in
    rw (at_01 _ _ c.if-c-eq1.true, le-leb _ _ there, c.word.ensures)

pub returns-then-c-eq0 : goal.returns-then-c-eq0
returns-then-c-eq0 c =
    let there : c.args.at + 1 ≤ length c.args.list.now = omega arith in
    rw (at_00 _ _ c.if-c-eq0.true, le-leb _ _ there)

pub returns : goal.returns
returns c =
    sym
    (at_none _ _ (λ e. omega arith) (λ e. omega arith) (λ e. omega arith) (λ e. omega arith) c.if-c-eq0.false)
