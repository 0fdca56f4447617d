-- `carry_out` is right: the operands of a row that begins with a word are all words, those of the
-- others but CONV's all of the size of their byte.
use mathlib.Core.Path.{refl, sym, ◌∙◌}
use Rattle.rules.proofs.OneSize as row
use Rattle.sure.proofs.Remaining.{nothing_changed}
use Rattle.quick.proofs.carry_out.Goals as goal

pub carry_out_words-requires-clause-all_of : goal.carry_out_words-requires-clause-all_of
carry_out_words-requires-clause-all_of c =
    let rows = c.requires.b_bound in
    rw rows.1 (row.words _ rows.0 (c.in-W.ensures ∙ rows.2))

pub returns-then-b-eq33 : goal.returns-then-b-eq33
returns-then-b-eq33 c = (nothing_changed _, refl)

pub carry_out_narrow-requires : goal.carry_out_narrow-requires
carry_out_narrow-requires c =
    let rows = c.requires.b_bound in
    let own = row.narrow _ rows.0 c.if-b-eq33.false
    (λ e. c.in_default.not-W (c.size_in.ensures ∙ rows.2 ∙ sym e)) in record {
      fits = c.requires.fits;
      rules_value = rw (rows.2, rows.1) (own.own, own.all);
    }
