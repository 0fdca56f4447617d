-- `near` is right: in the page of the byte that was fetched the six bytes lie as far from it in
-- memory as in the page.
use Rattle.std.proofs.Common.{◌+◌, ◌%◌, ◌≤◌, ap, ◌∙◌, arith}
use Rattle.machine.specs.declared.Access.TheVariants.{Fetch}
use Rattle.machine.specs.Alarms.{got}
use Rattle.machine.proofs.Pages.{found_inside, Finds, page_inside}
use Rattle.fetches.proofs.OnePage.{fields_page}
use Rattle.fetches.proofs.near.Goals as goal

pub beside-requires : goal.beside-requires
beside-requires c =
    (omega (arith, found_inside _ _ _ _ _ _ c.requires.1.hit, c.requires.0.small), omega arith, omega arith)

pub fields_in-requires : goal.fields_in-requires
fields_in-requires c =
    let found : (let a = c.args in
    (a.x.0 % 512 + 6 ≤ 512) × Finds a.status a.map a.mem.now a.x Fetch c.in_ok-r.r) =
    let a = c.args in
    let near = rw c.in_ok-r.was at c.beside.ensures in (
      near.0,
      record {
        small = omega arith;
        whole = c.requires.0.whole;
        hit = near.1.hit a.status a.map a.mem.now Fetch c.requires.0.whole c.requires.1.hit;
      },
    ) in
    page_inside found.1 6 (omega arith) found.0

pub returns : goal.returns
returns c =
    let found : (let a = c.args in
    (a.x.0 % 512 + 6 ≤ 512) × Finds a.status a.map a.mem.now a.x Fetch c.in_ok-r.r) =
    let a = c.args in
    let near = rw c.in_ok-r.was at c.beside.ensures in (
      near.0,
      record {
        small = omega arith;
        whole = c.requires.0.whole;
        hit = near.1.hit a.status a.map a.mem.now Fetch c.requires.0.whole c.requires.1.hit;
      },
    ) in
    ap got c.fields_in.ensures ∙ fields_page found.1 found.0
