-- The order of two lists does not matter, and a list with an empty one, or with itself, is loaded as it is
-- alone.
use Prim.Native.Nat.{ℕ}
use mathlib.Core.Path.{◌≡◌, refl, sym, ◌∙◌, ap}
use mathlib.Core.Bool.{Bool, true, false}
use mathlib.Core.List.{List, [], ◌++◌, append-nil}
use lib.ListN.{length}
use Rattle.std.specs.Prelude.{Ok, Err}
use Rattle.machine.specs.Words.{Memory}
use Rattle.machine.specs.State.{allowed_length}
use Rattle.machine.specs.Map.{commit}
use Rattle.machine.proofs.Writes.{commit-length}
use Rattle.lists.specs.Refusals.{LoadAnswer}
use Rattle.lists.specs.declared.LoadRefusal.TheVariants.{Length}
use Rattle.lists.specs.Lists.{next_by, next_at, followed, reading_from, reading_of, list_of, well_formed, pieces_in, pieces_of}
use Rattle.lists.specs.Lists.{puts_from, puts_of}
use Rattle.lists.specs.Refusals.{all_inside, desk_pieces, list_refusal}
use Rattle.lists.specs.Refusals as lists
use Rattle.lists.proofs.Puts.{commit_append}
use Rattle.load.specs.Loading.{Loaded, loaded, load_refusal, loaded_by, load_of}
use Rattle.load.proofs.Outcomes.{puts_inside}
use Rattle.clash.specs.Clashes.{cleared}
use Rattle.joint.specs.declared.JointRefusal.TheVariants.{Load, Scratch, Clash}
use Rattle.joint.specs.Joint.{JointAnswer}
use Rattle.joint.specs.Joint.{unless, after_list, long_enough, joint_refusal, LoadedBoth, loaded_both, joint_of}
use Rattle.joint.specs.Effects.{empty_list, Orders, AsAlone, Alone}
use Rattle.joint.proofs.Agreement.{agree_swap, agree_itself, agree-none, either_order, twice}
use Rattle.joint.proofs.Answers.{MayLoad, loads_facts, alone, joined, by_both, when_refused, when_loaded}
use Rattle.joint.proofs.Answers.{answered, both_loaded, inside_first, inside_second}

-- ---- Two orders

-- the same answer in either order, of lists of which nothing is refused alone
swapped : (m : Memory) (first second s : List ℕ) → MayLoad m first → MayLoad m second
    → joint_refusal (length m) second first (length s) ≡ joint_refusal (length m) first second (length s)
swapped m first second s f g =
    by_both m second first s g f
    ∙ ap (λ (b : Bool). unless (long_enough (length m) (length s)) Scratch (unless b Clash (Ok tt)))
    (agree_swap (length m) (puts_of second) (puts_of first))
    ∙ sym (by_both m first second s f g)

exchanged : (m : Memory) (first second s : List ℕ) → MayLoad m first → MayLoad m second
    → joint_of m second first s ≡ joint_of m first second s
exchanged m first second s f g = go (joint_refusal (length m) first second (length s)) refl
  where
    same : joint_refusal (length m) second first (length s) ≡ joint_refusal (length m) first second (length s)
    same = swapped m first second s f g

    go : (r : JointAnswer) → joint_refusal (length m) first second (length s) ≡ r
        → joint_of m second first s ≡ joint_of m first second s
    go (Ok u) e =
        let j = joined m first second s e in
        when_loaded m second first s (same ∙ e)
        ∙ ap (λ (x : Memory). loaded_both (Ok tt) x (cleared s))
        (either_order m (puts_of first) (puts_of second) (inside_first m first second s j)
        (inside_second m first second s j) j.same)
        ∙ sym (when_loaded m first second s e)
    go (Err k) e = when_refused m second first s k (same ∙ e) ∙ sym (when_refused m first second s k e)

after-other : (m : Memory) (first second s : List ℕ) → (joint_of m first second s).answer ≡ Ok tt
    → load_of desk_pieces (load_of desk_pieces m first).memory second
    ≡ loaded (Ok tt) (joint_of m first second s).memory
after-other m first second s h =
    let e : joint_refusal (length m) first second (length s) ≡ Ok tt = sym (answered m first second s) ∙ h in
    let j = joined m first second s e in
    let one : (load_of desk_pieces m first).memory ≡ commit (puts_of first) m =
    ap (λ (r : Loaded). r.memory) (alone m first j.allowed j.first_alone) in
    let n : length (commit (puts_of first) m) ≡ length m = commit-length (puts_of first) m in
    rw (one, when_loaded m first second s e, commit_append)
    (alone (commit (puts_of first) m) second (rw n j.allowed) (rw n j.second_alone))

pub orders : (m : Memory) (first second s : List ℕ) → Orders m first second s
orders m first second s = record {
  exchange = swap;
  exchange_any = λ f g.
      exchanged m first second s (loads_facts m first f) (loads_facts m second g);
  one-after-other = after-other m first second s;
  other-after-one = λ h.
      after-other m second first s (ap (λ (r : LoadedBoth). r.answer) (swap h) ∙ h)
      ∙ ap (λ (r : LoadedBoth). loaded (Ok tt) r.memory) (swap h);
}
  where
    swap : (joint_of m first second s).answer ≡ Ok tt → joint_of m second first s ≡ joint_of m first second s
    swap h =
        let j = both_loaded m first second s h in
        exchanged m first second s (record { allowed = j.allowed; listed = j.first_alone })
        (record { allowed = j.allowed; listed = j.second_alone })

-- ---- With an empty list, or with itself

empty_puts : puts_of empty_list ≡ []
unfolding list_of puts_of puts_from reading_of reading_from next_at next_by followed
empty_puts = refl

empty_accepted : (n : ℕ) → list_refusal desk_pieces n empty_list ≡ Ok tt
unfolding list_of well_formed pieces_of pieces_in puts_of puts_from reading_of reading_from next_at next_by followed all_inside
    list_refusal
empty_accepted n = refl

-- number 1 is asked before a list by either call
length_first : (a : Bool) (x : LoadAnswer)
    → unless a (Load Length) (after_list x (Ok tt)) ≡ after_list (lists.unless a Length x) (Ok tt)
length_first true x = refl
length_first false x = refl

-- refused exactly as a list alone, where the scratch is long enough
module _ (n : ℕ) (list : List ℕ) (room : ℕ) (l : long_enough n room ≡ true) where
  before_refusal : joint_refusal n list empty_list room ≡ after_list (load_refusal desk_pieces n list) (Ok tt)
  unfolding joint_refusal load_refusal
  before_refusal =
      rw (empty_accepted n, empty_puts, agree-none n (puts_of list), l)
      (length_first (allowed_length n) (list_refusal desk_pieces n list))

  after_refusal : joint_refusal n empty_list list room ≡ after_list (load_refusal desk_pieces n list) (Ok tt)
  unfolding joint_refusal load_refusal
  after_refusal =
      rw (empty_accepted n, empty_puts, agree_swap n [] (puts_of list), agree-none n (puts_of list), l)
      (length_first (allowed_length n) (list_refusal desk_pieces n list))

  itself_refusal : joint_refusal n list list room ≡ after_list (load_refusal desk_pieces n list) (Ok tt)
  unfolding joint_refusal load_refusal
  itself_refusal = rw (agree_itself n (puts_of list), l) (go (allowed_length n) (list_refusal desk_pieces n list))
    where
      go : (a : Bool) (x : LoadAnswer)
          → unless a (Load Length) (after_list x (after_list x (Ok tt))) ≡ after_list (lists.unless a Length x) (Ok tt)
      go true (Ok u) = refl
      go true (Err k) = refl
      go false x = refl

-- and loaded as that
module _ (m : Memory) (first second list s : List ℕ)
    (refusal : joint_refusal (length m) first second (length s)
    ≡ after_list (load_refusal desk_pieces (length m) list) (Ok tt))
    (puts : all_inside (length m) (puts_of list) ≡ true
    → commit (puts_of first ++ puts_of second) m ≡ commit (puts_of list) m) where
  as_alone : AsAlone m first second list s
  unfolding load_of loaded_by
  as_alone = go (load_refusal desk_pieces (length m) list) refl
    where
      go : (x : LoadAnswer) → load_refusal desk_pieces (length m) list ≡ x → AsAlone m first second list s
      go (Ok u) e =
          let d = when_loaded m first second s (rw e at refusal) in
          record { answer = rw (d, e); memory = rw (d, e) (puts (puts_inside desk_pieces m list e)) }
      go (Err k) e =
          let d = when_refused m first second s (Load k) (rw e at refusal) in
          record { answer = rw (d, e); memory = rw (d, e) }

pub alone_too : (m : Memory) (list s : List ℕ) → Alone m list s
alone_too m list s = record {
  before_empty = λ l.
      as_alone m list empty_list list s (before_refusal (length m) list (length s) l) (λ i. rw (empty_puts, append-nil));
  after_empty = λ l.
      as_alone m empty_list list list s (after_refusal (length m) list (length s) l) (λ i. rw empty_puts);
  with_itself = λ l.
      as_alone m list list list s (itself_refusal (length m) list (length s) l) (twice m (puts_of list));
}
