-- `resume` is right: the tests are those of the definition, and each that fails stops with 14; else
-- the block is loaded.
use Prim.Native.Nat.{◌+◌, ◌≤◌}
use mathlib.Core.Path.{◌≡◌, sym, ◌∙◌}
use mathlib.Core.Bool.{true}
use native.Mathlib.Omega.{arith}
use lib.ListN.{length}
use Rattle.machine.specs.State.{block_fits}
use Rattle.machine.specs.Steps.{resume}
use Rattle.machine.proofs.Accepted.{block_inside}
use Rattle.entry.proofs.resume.Goals as goal

pub returns-then-not-fits : goal.returns-then-not-fits
unfolding resume
returns-then-not-fits c = simp (c.stop_for.ensures, sym c.block_fits-fits.ensures ∙ c.if-not-fits.true)

pub word-requires : goal.word-requires
word-requires c =
    let fits : block_fits c.args.a 80
    (length c.args.mem.now) ≡ true =
    (sym c.block_fits-fits.ensures ∙ c.if-not-fits.false) in
    let inside : c.args.a.0 + 80 ≤ length
    c.args.mem.now =
    block_inside _ _ _ fits in
    omega (arith, inside)

pub word-requires-2 : goal.word-requires-2
word-requires-2 c =
    let fits : block_fits c.args.a 80
    (length c.args.mem.now) ≡ true =
    (sym c.block_fits-fits.ensures ∙ c.if-not-fits.false) in
    let inside : c.args.a.0 + 80 ≤ length
    c.args.mem.now =
    block_inside _ _ _ fits in
    omega (arith, inside)

pub returns-then-not-map_fits : goal.returns-then-not-map_fits
unfolding resume
returns-then-not-map_fits c =
    let fits : block_fits c.args.a 80
    (length c.args.mem.now) ≡ true =
    (sym c.block_fits-fits.ensures ∙ c.if-not-fits.false) in
    simp (
      c.stop_for-then-not-map_fits.ensures,
      ← c.word.ensures,
      ← c.word-2.ensures,
      fits,
      (sym c.map_fits-map_fits.ensures ∙ c.if-not-map_fits.true),
    )

pub word-status-requires : goal.word-status-requires
word-status-requires c =
    let fits : block_fits c.args.a 80
    (length c.args.mem.now) ≡ true =
    (sym c.block_fits-fits.ensures ∙ c.if-not-fits.false) in
    let inside : c.args.a.0 + 80 ≤ length
    c.args.mem.now =
    block_inside _ _ _ fits in
    omega (arith, inside)

pub returns-then-not-valid : goal.returns-then-not-valid
unfolding resume
returns-then-not-valid c =
    let fits : block_fits c.args.a 80
    (length c.args.mem.now) ≡ true =
    (sym c.block_fits-fits.ensures ∙ c.if-not-fits.false) in
    simp (
      c.stop_for-then-not-valid.ensures,
      ← c.word.ensures,
      ← c.word-2.ensures,
      ← c.word-status.ensures,
      fits,
      (sym c.map_fits-map_fits.ensures ∙ c.if-not-map_fits.false),
      (sym c.is_valid_user-valid.ensures ∙ c.if-not-valid.true),
    )

pub sixteen-registers-requires : goal.sixteen-registers-requires
sixteen-registers-requires c =
    let fits : block_fits c.args.a 80
    (length c.args.mem.now) ≡ true =
    (sym c.block_fits-fits.ensures ∙ c.if-not-fits.false) in
    let inside : c.args.a.0 + 80 ≤ length
    c.args.mem.now =
    block_inside _ _ _ fits in
    omega (arith, inside)

pub returns : goal.returns
unfolding resume
returns c =
    let fits : block_fits c.args.a 80
    (length c.args.mem.now) ≡ true =
    (sym c.block_fits-fits.ensures ∙ c.if-not-fits.false) in
    simp (
      c.resumed-desk.ensures,
      c.sixteen-registers.ensures,
      ← c.word.ensures,
      ← c.word-2.ensures,
      ← c.word-status.ensures,
      fits,
      (sym c.map_fits-map_fits.ensures ∙ c.if-not-map_fits.false),
      (sym c.is_valid_user-valid.ensures ∙ c.if-not-valid.false),
    )
