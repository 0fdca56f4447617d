-- `take_memory` is right: what is read goes with its target, and where nothing is read 0 does.
use Rattle.std.proofs.Common.{sym, ◌∙◌}
use Rattle.std.proofs.lemmas.Result.{err_from_is_err_and}
use Rattle.floating.proofs.Taking.{memory_unread, memory_value, memory_alarm}
use Rattle.floating.proofs.take_memory.Goals as goal

pub returns-in_err-bits-clause-value : goal.returns-in_err-bits-clause-value
returns-in_err-bits-clause-value c =
    let p = err_from_is_err_and c.from_residual.result c.from_residual.ensures.1 in
    record {
      same = λ place r.
          rw (p.1, p.2)
          (memory_alarm _ place _ r _ _ (sym c.reads.ensures ∙ c.if-reads.true) _ _ c.in_err-bits.ensures);
    }

pub returns-in_ok-bits-clause-value : goal.returns-in_ok-bits-clause-value
returns-in_ok-bits-clause-value c = record {
  same = λ place r.
      rw c.target_for-target.ensures.value
      (memory_value _ place _ r _ _ (sym c.reads.ensures ∙ c.if-reads.true) _ c.in_ok-bits.ensures);
}

pub returns-else-reads-clause-value : goal.returns-else-reads-clause-value
returns-else-reads-clause-value c = record {
  same = λ place r.
      rw c.target_for-target.ensures.value
      (memory_unread _ place _ r _ _ (sym c.reads.ensures ∙ c.if-reads.false));
}
