-- Request F-5 of document 02, what it says of joint loading, and what follows, for every memory, every two
-- lists and every scratch. Statements only.
use Rattle.std.specs.Prelude.{ℕ, ◌≡◌, ◌≢◌, true, false, List, [], length, Some, None, Ok, Err}
use Rattle.machine.specs.Words.{Memory, byte_at}
use Rattle.lists.specs.declared.LoadRefusal.{LoadRefusal}
use Rattle.lists.specs.Lists.{list_of, puts_of, last_put}
use Rattle.lists.specs.Refusals.{desk_pieces}
use Rattle.load.specs.Loading.{loaded, load_of}
use Rattle.clash.specs.Clashes.{cleared}
use Rattle.joint.specs.declared.JointRefusal.{JointRefusal}
use Rattle.joint.specs.declared.JointRefusal.TheVariants.{Load, Scratch, Clash}
use Rattle.joint.specs.Joint.{after_list, long_enough, joint_of}

-- a list that may be loaded alone
abbrev pub Loads : Memory → List ℕ → Type 0
Loads m list = (load_of desk_pieces m list).answer ≡ Ok tt

-- the scratch is long enough
abbrev pub Enough : Memory → List ℕ → Type 0
Enough m s = long_enough (length m) (length s) ≡ true

-- an address at which two lists put, and their last bytes there, which differ
pub record Unequal (first second : List ℕ) : Type 0 where
  pub address : ℕ
  pub one : ℕ
  pub other : ℕ
  pub first_puts : last_put address (puts_of first) ≡ Some one
  pub second_puts : last_put address (puts_of second) ≡ Some other
  pub unequal : one ≢ other

-- ---- What a call answers

pub record Answers (m : Memory) (first second s : List ℕ) : Type 0 where
  -- "after 1 come the first list's 17 to 19": what refuses the first list alone, number 1 too
  pub first_refused_lem : (k : LoadRefusal) → (load_of desk_pieces m first).answer ≡ Err k
      → (joint_of m first second s).answer ≡ Err (Load k)
  -- "then the second's"
  pub second_refused : (k : LoadRefusal) → Loads m first → (load_of desk_pieces m second).answer ≡ Err k
      → (joint_of m first second s).answer ≡ Err (Load k)
  -- "then 22"
  pub too_short : Loads m first → Loads m second → long_enough (length m) (length s) ≡ false
      → (joint_of m first second s).answer ≡ Err Scratch
  -- "then 23": "where both put the same address, their last bytes there must be equal"
  pub clash : Loads m first → Loads m second → Enough m s → Unequal first second
      → (joint_of m first second s).answer ≡ Err Clash
  -- nothing else is refused
  pub else_loaded : Loads m first → Loads m second → Enough m s → (Unequal first second → ⊥)
      → (joint_of m first second s).answer ≡ Ok tt
  -- two lists that are loaded may each be loaded alone, the scratch is long enough, and they have no unequal
  -- last bytes at one address
  pub loads_first : (joint_of m first second s).answer ≡ Ok tt → Loads m first
  pub loads_second : (joint_of m first second s).answer ≡ Ok tt → Loads m second
  pub enough : (joint_of m first second s).answer ≡ Ok tt → Enough m s
  pub none_unequal : (joint_of m first second s).answer ≡ Ok tt → Unequal first second → ⊥
  -- "23, two unequal last bytes at one address": there are such
  pub some_unequal : (joint_of m first second s).answer ≡ Err Clash → Unequal first second

-- ---- What a call leaves

pub record Leaves (m : Memory) (first second s : List ℕ) : Type 0 where
  -- "at each address, the last byte that either puts there"
  pub first's : (joint_of m first second s).answer ≡ Ok tt → (a b : ℕ) → last_put a (puts_of first) ≡ Some b
      → byte_at (joint_of m first second s).memory a ≡ b
  pub second's : (joint_of m first second s).answer ≡ Ok tt → (a b : ℕ) → last_put a (puts_of second) ≡ Some b
      → byte_at (joint_of m first second s).memory a ≡ b
  -- "and elsewhere the old byte"
  pub elsewhere : (a : ℕ) → last_put a (puts_of first) ≡ None → last_put a (puts_of second) ≡ None
      → byte_at (joint_of m first second s).memory a ≡ byte_at m a
  -- "Memory changes only on success"
  pub refused : (k : JointRefusal) → (joint_of m first second s).answer ≡ Err k
      → (joint_of m first second s).memory ≡ m
  -- "all zeros after loading or a clash"
  pub after-loading : (joint_of m first second s).answer ≡ Ok tt → (joint_of m first second s).scratch ≡ cleared s
  pub after_clash : (joint_of m first second s).answer ≡ Err Clash
      → (joint_of m first second s).scratch ≡ cleared s
  -- "and otherwise unchanged"
  pub otherwise : (k : JointRefusal) → k ≢ Clash → (joint_of m first second s).answer ≡ Err k
      → (joint_of m first second s).scratch ≡ s
  -- memory and scratch keep their lengths
  pub memory_length : length (joint_of m first second s).memory ≡ length m
  pub scratch_length : length (joint_of m first second s).scratch ≡ length s

-- ---- Two orders

pub record Orders (m : Memory) (first second s : List ℕ) : Type 0 where
  -- "Exchanging two lists that load gives the same memory": the same answer and scratch, too
  pub exchange : (joint_of m first second s).answer ≡ Ok tt → joint_of m second first s ≡ joint_of m first second s
  -- also where they clash or the scratch is too short
  pub exchange_any : Loads m first → Loads m second → joint_of m second first s ≡ joint_of m first second s
  -- one after the other, in either order, they give the joint memory
  pub one-after-other : (joint_of m first second s).answer ≡ Ok tt
      → load_of desk_pieces (load_of desk_pieces m first).memory second
      ≡ loaded (Ok tt) (joint_of m first second s).memory
  pub other-after-one : (joint_of m first second s).answer ≡ Ok tt
      → load_of desk_pieces (load_of desk_pieces m second).memory first
      ≡ loaded (Ok tt) (joint_of m first second s).memory

-- ---- A list and nothing new

-- 00h alone
abbrev pub empty_list : List ℕ
empty_list = list_of []

-- two lists are loaded as `list` is alone
pub record AsAlone (m : Memory) (first second list s : List ℕ) : Type 0 where
  pub answer : (joint_of m first second s).answer ≡ after_list (load_of desk_pieces m list).answer (Ok tt)
  pub memory : (joint_of m first second s).memory ≡ (load_of desk_pieces m list).memory

pub record Alone (m : Memory) (list s : List ℕ) : Type 0 where
  pub before_empty : Enough m s → AsAlone m list empty_list list s
  pub after_empty : Enough m s → AsAlone m empty_list list list s
  pub with_itself : Enough m s → AsAlone m list list list s

abbrev pub Effects : Type 0
Effects =
    ((m : Memory) (first second s : List ℕ) → Answers m first second s)
    × ((m : Memory) (first second s : List ℕ) → Leaves m first second s)
    × ((m : Memory) (first second s : List ℕ) → Orders m first second s)
    × ((m : Memory) (list s : List ℕ) → Alone m list s)
