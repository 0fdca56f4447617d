-- `among_sixteen` is right: sixteen elements four by four.
use Rattle.std.proofs.Common.{◌≡◌, sym, ap, take, arith, ◌∙◌}
use lib.Seq.{take_all}
use Rattle.watch.specs.Addresses.{among}
use Rattle.watch.proofs.Parts.{among_quarters}
use Rattle.watch.proofs.among_sixteen.Goals as goal

pub returns : goal.returns
returns c =
    let xs = c.args.addresses.now in
    let whole : take 16 xs ≡ xs = take_all 16 xs (omega arith) in
    rw (c.among_four.ensures, c.among_four-2.ensures, c.among_four-3.ensures, c.among_four-4.ensures)
    (sym (among_quarters c.args.r15 xs 4 0) ∙ ap (among c.args.r15) whole)
