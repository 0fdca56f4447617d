-- `found` is right: the whole scratch is cleared, and the rounds leave their part of it as it was.
use mathlib.Core.Path.{sym, ◌∙◌}
use lib.ListN.{take-append-drop}
use lib.Seq.{length-take-le}
use Rattle.load.proofs.Outcomes.{as_long}
use Rattle.clash.proofs.Rounds.{filled, part_length, part_zeros}
use Rattle.clash.proofs.found.Goals as goal

pub slice_bounds-bytes_differ-end-2 : goal.slice_bounds-bytes_differ-end-2
slice_bounds-bytes_differ-end-2 c =
    let s = c.args.scratch.now in
    sym (part_length _ s _ (c.fill.ensures ∙ filled s) c.requires.n_in_bounds)

pub bytes_differ-requires : goal.bytes_differ-requires
bytes_differ-requires c =
    let s = c.args.scratch.now in
    let zeros = c.fill.ensures ∙ filled s in
    let long = part_length _ s _ zeros c.requires.n_in_bounds ∙ sym (length-take-le _ s c.requires.n_in_bounds) in record {
      sound = as_long c.requires.sound long;
      sound_2 = as_long c.requires.sound_2 long;
      scratch_value = part_zeros _ s _ zeros c.requires.n_in_bounds;
    }

pub returns : goal.returns
returns c = let rounds = c.bytes_differ.ensures in
    let s = c.args.scratch.now in
    let zeros = c.fill.ensures ∙ filled s in record {
      answer = rw (part_length c.args.n s c.fill.new.mem zeros c.requires.n_in_bounds) at rounds.answer;
      zeros = rw rounds.zeros (take-append-drop c.args.n _ ∙ zeros);
    }
