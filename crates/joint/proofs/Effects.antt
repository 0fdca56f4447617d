-- The theorems of the request: what joint loading answers, and what it leaves.
use Prim.Native.Nat.{ℕ}
use mathlib.Core.Path.{◌≡◌, refl, sym, ◌∙◌, ap}
use mathlib.Core.Bool.{Bool, true, false, true≢false}
use mathlib.Core.List.{List}
use lib.ListN.{length, length-replicate}
use Rattle.std.specs.Prelude.{Ok, Err}
use Rattle.machine.specs.Words.{Memory, byte_at}
use Rattle.machine.proofs.Writes.{commit-length}
use Rattle.lists.specs.Lists.{puts_of}
use Rattle.lists.specs.Refusals.{all_inside, desk_pieces}
use Rattle.lists.proofs.Accepted.{passed}
use Rattle.load.specs.Loading.{Loaded}
use Rattle.clash.specs.Clashes.{agree}
use Rattle.joint.specs.declared.JointRefusal.TheVariants.{Scratch, Clash}
use Rattle.joint.specs.Joint.{JointAnswer}
use Rattle.joint.specs.Joint.{unless, long_enough, joint_refusal}
use Rattle.joint.specs.Effects.{Loads, Unequal, Answers, Leaves, Effects}
use Rattle.joint.proofs.Agreement.{some_unequal, unequal_found, first_stands}
use Rattle.joint.proofs.Answers.{refused_not_accepted, accepted_not_refused, loads_facts, alone, as_first}
use Rattle.joint.proofs.Answers.{as_second, by_both, clashed, joined, kept_scratch, scratch_as_long}
use Rattle.joint.proofs.Answers.{when_refused, when_loaded, answered, both_loaded, inside_first, agree_here}
use Rattle.joint.proofs.Answers.{at_each}
use Rattle.joint.proofs.Orders.{orders, alone_too}

-- ---- What a call answers

module _ (m : Memory) (first second s : List ℕ) where
  answers : Answers m first second s
  answers = record {
    first_refused_lem = λ k h. answered m first second s ∙ as_first m first second s k h;
    second_refused = λ k f h. answered m first second s ∙ as_second m first second s (loads_facts m first f) k h;
    too_short = λ f g l. answered m first second s ∙ both f g ∙ rw l;
    clash = λ f g l u.
        answered m first second s ∙ both f g
        ∙ rw (l, unequal_found (length m) first second (inside f) u);
    else_loaded = λ f g l none.
        answered m first second s ∙ both f g
        ∙ rw l (unless_clash (agree (length m) (puts_of first) (puts_of second)) refl none);
    loads_first = λ h.
        let j = both_loaded m first second s h in
        ap (λ (r : Loaded). r.answer) (alone m first j.allowed j.first_alone);
    loads_second = λ h.
        let j = both_loaded m first second s h in
        ap (λ (r : Loaded). r.answer) (alone m second j.allowed j.second_alone);
    enough = λ h. (both_loaded m first second s h).room;
    none_unequal = λ h u.
        let j = both_loaded m first second s h in
        true≢false (sym j.same ∙ unequal_found (length m) first second (inside_first m first second s j) u);
    some_unequal = λ h.
        some_unequal (length m) first second (clashed m first second s (sym (answered m first second s) ∙ h));
  }
    where
      both : Loads m first → Loads m second
          → joint_refusal (length m) first second (length s)
          ≡ unless (long_enough (length m) (length s)) Scratch
          (unless (agree (length m) (puts_of first) (puts_of second)) Clash (Ok tt))
      both f g = by_both m first second s (loads_facts m first f) (loads_facts m second g)

      inside : Loads m first → all_inside (length m) (puts_of first) ≡ true
      inside f = (passed desk_pieces (length m) first (loads_facts m first f).listed).inside

      unless_clash : (b : Bool) → agree (length m) (puts_of first) (puts_of second) ≡ b → (Unequal first second → ⊥)
          → unless b Clash (Ok tt) ≡ Ok tt
      unless_clash true e none = refl
      unless_clash false e none = absurd (none (some_unequal (length m) first second e))

-- ---- What a call leaves

module _ (m : Memory) (first second s : List ℕ) where
  leaves : Leaves m first second s
  leaves = go (joint_refusal (length m) first second (length s)) refl
    where
      go : (r : JointAnswer) → joint_refusal (length m) first second (length s) ≡ r → Leaves m first second s
      go (Ok u) e =
          let j = joined m first second s e in
          let d = when_loaded m first second s e in
          record {
            first's = λ h a b q.
                rw d
                (at_each m first second s j a
                ∙ first_stands _ _ b (byte_at m a) q (agree_here m first second s j a));
            second's = λ h a b q. rw d (rw q at (at_each m first second s j a));
            elsewhere = λ a p q. rw d (rw (p, q) at (at_each m first second s j a));
            refused = λ k h. absurd (accepted_not_refused (rw d at h));
            after-loading = λ h. rw d;
            after_clash = λ h. absurd (accepted_not_refused (rw d at h));
            otherwise = λ k n h. absurd (accepted_not_refused (rw d at h));
            memory_length = rw d (commit-length _ m);
            scratch_length = rw (d, length-replicate);
          }
      go (Err k) e =
          let d = when_refused m first second s k e in
          record {
            first's = λ h. absurd (refused_not_accepted (rw d at h));
            second's = λ h. absurd (refused_not_accepted (rw d at h));
            elsewhere = λ a p q. rw d;
            refused = λ i h. rw d;
            after-loading = λ h. absurd (refused_not_accepted (rw d at h));
            after_clash = λ h. let q : ◌≡◌ {A = JointAnswer} (Err k) (Err Clash) = rw d at h in let z : k ≡ Clash = cc in rw (d, z);
            otherwise = λ i n h.
                let q : ◌≡◌ {A = JointAnswer} (Err k) (Err i) = rw d at h in
                rw d (kept_scratch k s (λ z. n cc));
            memory_length = rw d;
            scratch_length = rw d (scratch_as_long k s);
          }

pub effects : Effects
effects = (answers, leaves, orders, alone_too)
