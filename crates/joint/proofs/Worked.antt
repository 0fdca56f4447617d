-- Worked joint loads, by computation: what two lists leave in memory and scratch, and which refusal comes
-- first.
use Prim.Native.Nat.{ℕ}
use mathlib.Core.Path.{◌≡◌, refl}
use mathlib.Core.List.{List, [], ◌∷◌}
use lib.ListN.{replicate}
use lib.Seq.{sets}
use Rattle.std.specs.Prelude.{Ok, Err}
use Rattle.machine.specs.Words.{Memory, word_at}
use Rattle.machine.specs.State.{allowed_length}
use Rattle.machine.specs.Map.{real_writes_from, commit}
use Rattle.lists.specs.declared.LoadRefusal.TheVariants.{Malformed, Outside}
use Rattle.lists.specs.Lists.{next_by, next_at, followed, reading_from, reading_of, puts_from, puts_of, pieces_in, pieces_of}
use Rattle.lists.specs.Lists.{well_formed, last_put}
use Rattle.lists.specs.Refusals.{all_inside, list_refusal}
use Rattle.clash.specs.Clashes.{agree}
use Rattle.joint.specs.declared.JointRefusal.TheVariants.{Load, Scratch, Clash}
use Rattle.joint.specs.Joint.{joint_refusal, LoadedBoth, loaded_both, loaded_both_by, joint_of}

-- a joint load, with every definition unfolded that it computes with
unfoldable pub whole_joint : Memory → List ℕ → List ℕ → List ℕ → LoadedBoth
unfolding word_at allowed_length real_writes_from commit next_by next_at followed reading_from reading_of puts_from puts_of
    pieces_in pieces_of well_formed last_put all_inside list_refusal agree joint_refusal loaded_both_by joint_of
whole_joint m first second s = joint_of m first second s

-- 1 2 3 0 from address 0 on
abbrev one : List ℕ
one = 0x03 ∷ 1 ∷ 2 ∷ 3 ∷ 0 ∷ 0x00 ∷ []

-- from address 3 on 9 and 8, then 0 in the place of the 9
abbrev other : List ℕ
other = 0x01 ∷ 0 ∷ 0 ∷ 0 ∷ 3 ∷ 0x02 ∷ 9 ∷ 0x02 ∷ 8 ∷ 0x01 ∷ 0 ∷ 0 ∷ 0 ∷ 3 ∷ 0x02 ∷ 0 ∷ 0x00 ∷ []

-- 16 at address 3, which is 0 there in its low half alone
abbrev unlike : List ℕ
unlike = 0x01 ∷ 0 ∷ 0 ∷ 0 ∷ 3 ∷ 0x02 ∷ 16 ∷ 0x00 ∷ []

-- a byte at address 512; a list without its end
abbrev past : List ℕ
past = 0x01 ∷ 0 ∷ 0 ∷ 2 ∷ 0 ∷ 0x02 ∷ 9 ∷ 0x00 ∷ []

abbrev cut : List ℕ
cut = 0x02 ∷ 9 ∷ []

-- a memory of 512 bytes of 5, a scratch of 513 bytes of 7: an earlier byte that differs is no clash, and all
-- of the scratch becomes zeros
pub loads_both : whole_joint (replicate 512 5) one other (replicate 513 7)
    ≡ loaded_both (Ok tt) (sets (replicate 512 5) 0 (1 ∷ 2 ∷ 3 ∷ 0 ∷ 8 ∷ [])) (replicate 513 0)
unfolding whole_joint
loads_both = refl

-- 23: the memory stays, the scratch does not
pub refuses_clash : whole_joint (replicate 512 5) one unlike (replicate 513 7)
    ≡ loaded_both (Err Clash) (replicate 512 5) (replicate 513 0)
unfolding whole_joint
refuses_clash = refl

-- 22 comes before 23, and touches nothing
pub refuses_short : whole_joint (replicate 512 5) one unlike (replicate 511 7)
    ≡ loaded_both (Err Scratch) (replicate 512 5) (replicate 511 7)
unfolding whole_joint
refuses_short = refl

-- the first list's 19 comes before the second's 17, and both before 22
pub first_list_first :
    (whole_joint (replicate 512 5) past cut [] ≡ loaded_both (Err (Load Outside)) (replicate 512 5) [])
    × (whole_joint (replicate 512 5) cut past [] ≡ loaded_both (Err (Load Malformed)) (replicate 512 5) [])
    × (whole_joint (replicate 512 5) one past [] ≡ loaded_both (Err (Load Outside)) (replicate 512 5) [])
unfolding whole_joint
first_list_first = (refl, refl, refl)
