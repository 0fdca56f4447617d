-- Request F-5 of document 02, two lists and one memory: "Two load lists are to be loaded together. The
-- result holds, at each address, the last byte that either puts there, and elsewhere the old byte; where
-- both put the same address, their last bytes there must be equal. .. The caller lends a scratch buffer at
-- least as long as the memory; it is all zeros after loading or a clash, and otherwise unchanged. Memory
-- changes only on success. Refused: 22, scratch too short; 23, two unequal last bytes at one address; after
-- 1 come the first list's 17 to 19, then the second's, then 22, then 23."
use Rattle.std.specs.Prelude.{ℕ, Bool, List, ◌++◌, leb, length, Result, Ok, Err}
use Rattle.machine.specs.Words.{pick, Memory}
use Rattle.machine.specs.Map.{RealWrites, commit}
use Rattle.machine.specs.Calls.{passes1, number_or_0}
use Rattle.lists.specs.declared.LoadRefusal.TheVariants.{Length}
use Rattle.lists.specs.Lists.{puts_of}
use Rattle.lists.specs.Refusals.{LoadAnswer, desk_pieces, load_refusal_number, list_refusal}
use Rattle.clash.specs.Clashes.{agree, cleared}
use Rattle.joint.specs.declared.JointRefusal.{JointRefusal}
use Rattle.joint.specs.declared.JointRefusal.TheVariants.{Load, Scratch, Clash}

-- ---- Numbers

abbrev pub joint_refusal_number : JointRefusal → ℕ
-- "1", "17 to 19": as of a list alone
joint_refusal_number (Load k) = load_refusal_number k
-- "scratch too short"
joint_refusal_number Scratch = 22
-- "two unequal last bytes at one address"
joint_refusal_number Clash = 23

-- whether two lists are loaded: Ok tt, or Err with the refusal
abbrev pub JointAnswer : Type 0
JointAnswer = Result (Unit {0}) JointRefusal

-- 0 for none
abbrev pub joint_answer_number : JointAnswer → ℕ
joint_answer_number = number_or_0 joint_refusal_number

-- ---- Tests

-- refused where the test does not hold; else what comes next
abbrev pub unless : Bool → JointRefusal → JointAnswer → JointAnswer
unless test k next = pick test next (Err k)

-- refused as a list alone is; else what comes next
abbrev pub after_list : LoadAnswer → JointAnswer → JointAnswer
after_list (Ok u) next = next
after_list (Err k) next = Err (Load k)

-- "a scratch buffer at least as long as the memory": for a memory of n bytes one of `room` bytes
abbrev pub long_enough : ℕ → ℕ → Bool
long_enough n room = leb n room

-- "after 1 come the first list's 17 to 19, then the second's, then 22, then 23". Number 18 has the desk's
-- limit for each list
unfoldable pub joint_refusal : ℕ → List ℕ → List ℕ → ℕ → JointAnswer
joint_refusal n first second room =
    unless (passes1 n) (Load Length)
    (after_list (list_refusal desk_pieces n first)
    (after_list (list_refusal desk_pieces n second)
    (unless (long_enough n room) Scratch
    (unless (agree n (puts_of first) (puts_of second)) Clash
    (Ok tt)))))

-- ---- The call

-- an answer with the memory and the scratch that it leaves
pub record LoadedBoth : Type 0 where
  pub answer : JointAnswer
  pub memory : Memory
  pub scratch : List ℕ

abbrev pub loaded_both : JointAnswer → Memory → List ℕ → LoadedBoth
loaded_both a m s = record { answer = a; memory = m; scratch = s }

-- "Memory changes only on success"; "all zeros after loading or a clash, and otherwise unchanged"
unfoldable pub loaded_both_by : JointAnswer → RealWrites → Memory → List ℕ → LoadedBoth
loaded_both_by (Ok u) puts m s = loaded_both (Ok tt) (commit puts m) (cleared s)
loaded_both_by (Err (Load k)) puts m s = loaded_both (Err (Load k)) m s
loaded_both_by (Err Scratch) puts m s = loaded_both (Err Scratch) m s
loaded_both_by (Err Clash) puts m s = loaded_both (Err Clash) m (cleared s)

-- the first list's puts, then the second's: where nothing is refused their last bytes are equal, so that the
-- order does not matter (Effects: exchange)
unfoldable pub joint_of : Memory → List ℕ → List ℕ → List ℕ → LoadedBoth
joint_of m first second s =
    loaded_both_by (joint_refusal (length m) first second (length s)) (puts_of first ++ puts_of second) m s
