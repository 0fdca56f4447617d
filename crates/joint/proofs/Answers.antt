-- What an answer of joint loading says of its lists, and what it leaves.
use Prim.Native.Nat.{ℕ}
use mathlib.Core.Path.{◌≡◌, refl, sym, ◌∙◌}
use mathlib.Core.Bool.{Bool, true, false}
use mathlib.Core.List.{List, ◌++◌}
use native.Mathlib.Omega.{arith}
use lib.ListN.{length, length-replicate}
use Rattle.std.specs.Prelude.{Ok, Err}
use Rattle.machine.specs.Words.{Memory, byte_at}
use Rattle.machine.specs.State.{allowed_length}
use Rattle.machine.specs.Map.{commit}
use Rattle.lists.specs.Refusals.{LoadAnswer}
use Rattle.lists.specs.declared.LoadRefusal.{LoadRefusal}
use Rattle.lists.specs.declared.LoadRefusal.TheVariants.{Length}
use Rattle.lists.specs.Lists.{puts_of, later_or, last_put, or_old}
use Rattle.lists.specs.Refusals.{all_inside, desk_pieces, list_refusal}
use Rattle.lists.specs.Refusals as lists
use Rattle.lists.proofs.Accepted.{passed}
use Rattle.load.specs.Loading.{loaded, load_refusal, loaded_by, load_of}
use Rattle.load.proofs.Outcomes.{list_loaded}
use Rattle.clash.specs.Clashes.{same_last, agree, cleared}
use Rattle.joint.specs.declared.JointRefusal.{JointRefusal}
use Rattle.joint.specs.declared.JointRefusal.TheVariants.{Load, Scratch, Clash}
use Rattle.joint.specs.Joint.{JointAnswer}
use Rattle.joint.specs.Joint.{unless, after_list, long_enough, joint_refusal, loaded_both, loaded_both_by, joint_of}
use Rattle.joint.specs.Effects.{Loads}
use Rattle.joint.proofs.Agreement.{agree_at, both_last}

-- ---- What an answer says

pub refused_not_accepted : {k : JointRefusal} → ◌≡◌ {A = JointAnswer} (Err k) (Ok tt) → ⊥
refused_not_accepted {k} e = let z : ◌≡◌ {A = ℕ} 0 1 = cc in omega arith

pub accepted_not_refused : {k : JointRefusal} → ◌≡◌ {A = JointAnswer} (Ok tt) (Err k) → ⊥
accepted_not_refused {k} e = refused_not_accepted (sym e)

-- a list that may be loaded alone
pub record MayLoad (m : Memory) (list : List ℕ) : Type 0 where
  pub allowed : allowed_length (length m) ≡ true
  pub listed : list_refusal desk_pieces (length m) list ≡ Ok tt

pub loads_facts : (m : Memory) (list : List ℕ) → Loads m list → MayLoad m list
unfolding load_of load_refusal loaded_by
loads_facts m list = go (allowed_length (length m)) refl (list_refusal desk_pieces (length m) list) refl
  where
    go : (a : Bool) → allowed_length (length m) ≡ a → (x : LoadAnswer) → list_refusal desk_pieces (length m) list ≡ x
        → (loaded_by (lists.unless a Length x) (puts_of list) m).answer ≡ Ok tt → MayLoad m list
    go true p (Ok u) q e = record { allowed = p; listed = q }
    go true p (Err k) q e = record { allowed = p; listed = cc }
    go false p x q e = record { allowed = cc; listed = cc }

pub alone : (m : Memory) (list : List ℕ) → allowed_length (length m) ≡ true
    → list_refusal desk_pieces (length m) list ≡ Ok tt
    → load_of desk_pieces m list ≡ loaded (Ok tt) (commit (puts_of list) m)
alone m list a h = sym (list_loaded desk_pieces m list a h)

-- a load alone answers what is refused
load_answered : (m : Memory) (list : List ℕ)
    → (load_of desk_pieces m list).answer ≡ load_refusal desk_pieces (length m) list
unfolding load_of loaded_by
load_answered m list = go (load_refusal desk_pieces (length m) list)
  where
    go : (x : LoadAnswer) → (loaded_by x (puts_of list) m).answer ≡ x
    go (Ok u) = refl
    go (Err k) = refl

-- two lists that are loaded
pub record Joined (m : Memory) (first second s : List ℕ) : Type 0 where
  pub allowed : allowed_length (length m) ≡ true
  pub first_alone : list_refusal desk_pieces (length m) first ≡ Ok tt
  pub second_alone : list_refusal desk_pieces (length m) second ≡ Ok tt
  pub room : long_enough (length m) (length s) ≡ true
  pub same : agree (length m) (puts_of first) (puts_of second) ≡ true

module _ (m : Memory) (first second s : List ℕ) where
  pub joined : joint_refusal (length m) first second (length s) ≡ Ok tt → Joined m first second s
  unfolding joint_refusal
  joined =
      go (allowed_length (length m)) refl (list_refusal desk_pieces (length m) first) refl
      (list_refusal desk_pieces (length m) second) refl (long_enough (length m) (length s)) refl
      (agree (length m) (puts_of first) (puts_of second)) refl
    where
      go : (a : Bool) → allowed_length (length m) ≡ a
          → (x : LoadAnswer) → list_refusal desk_pieces (length m) first ≡ x
          → (y : LoadAnswer) → list_refusal desk_pieces (length m) second ≡ y
          → (b : Bool) → long_enough (length m) (length s) ≡ b
          → (c : Bool) → agree (length m) (puts_of first) (puts_of second) ≡ c
          → unless a (Load Length) (after_list x (after_list y (unless b Scratch (unless c Clash (Ok tt))))) ≡ Ok tt
          → Joined m first second s
      go true p (Ok u) f (Ok v) g true r true t e =
          record { allowed = p; first_alone = f; second_alone = g; room = r; same = t }
      go true p (Ok u) f (Ok v) g true r false t e = absurd (refused_not_accepted e)
      go true p (Ok u) f (Ok v) g false r c t e = absurd (refused_not_accepted e)
      go true p (Ok u) f (Err k) g b r c t e = absurd (refused_not_accepted e)
      go true p (Err k) f y g b r c t e = absurd (refused_not_accepted e)
      go false p x f y g b r c t e = absurd (refused_not_accepted e)

  pub clashed : joint_refusal (length m) first second (length s) ≡ Err Clash
      → agree (length m) (puts_of first) (puts_of second) ≡ false
  unfolding joint_refusal
  clashed =
      go (allowed_length (length m)) (list_refusal desk_pieces (length m) first) (list_refusal desk_pieces (length m) second)
      (long_enough (length m) (length s)) (agree (length m) (puts_of first) (puts_of second))
    where
      go : (a : Bool) (x y : LoadAnswer) (b c : Bool)
          → unless a (Load Length) (after_list x (after_list y (unless b Scratch (unless c Clash (Ok tt)))))
          ≡ Err Clash → c ≡ false
      go true (Ok u) (Ok v) true false e = refl
      go true (Ok u) (Ok v) true true e = absurd (accepted_not_refused e)
      go true (Ok u) (Ok v) false c e = cc
      go true (Ok u) (Err k) b c e = cc
      go true (Err k) y b c e = cc
      go false x y b c e = cc

  -- what is refused, by what is refused of each alone
  pub as_first : (k : LoadRefusal) → (load_of desk_pieces m first).answer ≡ Err k
      → joint_refusal (length m) first second (length s) ≡ Err (Load k)
  unfolding joint_refusal load_refusal
  as_first k h =
      go (allowed_length (length m)) (list_refusal desk_pieces (length m) first) (sym (load_answered m first) ∙ h)
    where
      go : (a : Bool) (x : LoadAnswer) → lists.unless a Length x ≡ Err k
          → unless a (Load Length)
          (after_list x
          (after_list (list_refusal desk_pieces (length m) second)
          (unless (long_enough (length m) (length s)) Scratch
          (unless (agree (length m) (puts_of first) (puts_of second)) Clash (Ok tt)))))
          ≡ Err (Load k)
      go true (Ok u) e = cc
      go true (Err j) e = cc
      go false x e = cc

  module _ (f : MayLoad m first) where
    pub as_second : (k : LoadRefusal) → (load_of desk_pieces m second).answer ≡ Err k
        → joint_refusal (length m) first second (length s) ≡ Err (Load k)
    unfolding joint_refusal load_refusal
    as_second k h =
        let e : list_refusal desk_pieces (length m) second ≡ Err k =
        rw f.allowed at (sym (load_answered m second) ∙ h) in
        rw (f.allowed, f.listed, e)

    -- and where nothing is, by the scratch and by a clash
    pub by_both : MayLoad m second
        → joint_refusal (length m) first second (length s)
        ≡ unless (long_enough (length m) (length s)) Scratch
        (unless (agree (length m) (puts_of first) (puts_of second)) Clash (Ok tt))
    unfolding joint_refusal
    by_both g = rw (f.allowed, f.listed, g.listed)

-- ---- What a call leaves

-- the scratch after a refusal
abbrev pub left_scratch : JointRefusal → List ℕ → List ℕ
left_scratch (Load k) s = s
left_scratch Scratch s = s
left_scratch Clash s = cleared s

pub kept_scratch : (k : JointRefusal) (s : List ℕ) → (k ≡ Clash → ⊥) → left_scratch k s ≡ s
kept_scratch (Load k) s h = refl
kept_scratch Scratch s h = refl
kept_scratch Clash s h = absurd (h refl)

pub scratch_as_long : (k : JointRefusal) (s : List ℕ) → length (left_scratch k s) ≡ length s
scratch_as_long (Load k) s = refl
scratch_as_long Scratch s = refl
scratch_as_long Clash s = rw length-replicate

module _ (m : Memory) (first second s : List ℕ) where
  pub when_refused : (k : JointRefusal) → joint_refusal (length m) first second (length s) ≡ Err k
      → joint_of m first second s ≡ loaded_both (Err k) m (left_scratch k s)
  unfolding joint_of loaded_both_by
  when_refused (Load k) e = rw e
  when_refused Scratch e = rw e
  when_refused Clash e = rw e

  pub when_loaded : joint_refusal (length m) first second (length s) ≡ Ok tt
      → joint_of m first second s ≡ loaded_both (Ok tt) (commit (puts_of first ++ puts_of second) m) (cleared s)
  unfolding joint_of loaded_both_by
  when_loaded e = rw e

  -- an answer is what the refusals say
  pub answered : (joint_of m first second s).answer ≡ joint_refusal (length m) first second (length s)
  answered = go (joint_refusal (length m) first second (length s)) refl
    where
      go : (r : JointAnswer) → joint_refusal (length m) first second (length s) ≡ r
          → (joint_of m first second s).answer ≡ joint_refusal (length m) first second (length s)
      go (Ok u) e = rw (when_loaded e, e)
      go (Err k) e = rw (when_refused k e, e)

  pub both_loaded : (joint_of m first second s).answer ≡ Ok tt → Joined m first second s
  both_loaded h = joined m first second s (sym answered ∙ h)

  module _ (j : Joined m first second s) where
    pub inside_first : all_inside (length m) (puts_of first) ≡ true
    inside_first = (passed desk_pieces (length m) first j.first_alone).inside

    pub inside_second : all_inside (length m) (puts_of second) ≡ true
    inside_second = (passed desk_pieces (length m) second j.second_alone).inside

    pub agree_here : (a : ℕ) → same_last (last_put a (puts_of first)) (last_put a (puts_of second)) ≡ true
    agree_here = agree_at (length m) (puts_of first) (puts_of second) inside_first j.same

    pub at_each : (a : ℕ)
        → byte_at (commit (puts_of first ++ puts_of second) m) a
        ≡ or_old (later_or (last_put a (puts_of second)) (last_put a (puts_of first))) (byte_at m a)
    at_each = both_last m (puts_of first) (puts_of second) inside_first inside_second
