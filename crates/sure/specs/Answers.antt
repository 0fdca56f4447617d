-- What is sure of an operand, in the terms of `machine`. Of what is unsure nothing is said.
use Rattle.std.specs.Prelude.{ℕ, ◌<◌, ◌≡◌, List, set, eqb, Option, Some, None}
use Rattle.machine.specs.declared.Access.{Access}
use Rattle.machine.specs.declared.Access.TheVariants.{Read, Write}
use Rattle.machine.specs.declared.Map.{Map}
use Rattle.machine.specs.declared.RealAddress.{RealAddress}
use Rattle.machine.specs.declared.Role.{Role}
use Rattle.machine.specs.declared.Role.TheVariants.{Value, Address, Destination, Update}
use Rattle.machine.specs.declared.Target.{Target}
use Rattle.machine.specs.declared.Target.TheVariants as target
use Rattle.machine.specs.declared.VirtualAddress.{VirtualAddress}
use Rattle.machine.specs.Words.{Memory, pick, span}
use Rattle.machine.specs.State.{Registers, reg}
use Rattle.machine.specs.Alarms.{got}
use Rattle.machine.specs.Map.{found_at, View, view_by}
use Rattle.machine.specs.OnePage.{InOnePage}
use Rattle.machine.specs.Code.{Rule}
use Rattle.machine.specs.Operands.{Fields, Location, immediate, register, memory, at, formed, operand_at, taken}
use Rattle.machine.specs.Operands.{taken_by, operands_of}
use Rattle.sure.specs.declared.Spot.{Spot}
use Rattle.sure.specs.declared.Spot.TheVariants as spot
use Rattle.sure.specs.declared.Goes.{Goes}
use Rattle.sure.specs.declared.Goes.TheVariants as goes
use Rattle.sure.specs.declared.Taken.{Taken}
use Rattle.sure.specs.declared.Operands.{Operands}

-- ---- Bytes that are found

-- the n bytes at x lie in one page, and the lookup of the first finds place a
pub record Placed (s : ℕ) (map : Map) (m : Memory) (n : ℕ) (x : VirtualAddress) (w : Access)
    (a : RealAddress) : Type 0 where
  pub hit : view_by s map m x w ≡ got (found_at m a)
  pub near : InOnePage x n

-- ---- Where an operand is

-- fields that name this location, for an operand of any length at any place of its command, without
-- a step of registers
pub record Names (r : Registers) (k : Fields) (l : Location) : Type 0 where
  pub same : (v : View) (place L : ℕ) → formed v place L r k ≡ at l r

-- fields that name this number, for an operand of L bytes that it fits
pub record NamesNumber (r : Registers) (k : Fields) (z : ℕ) : Type 0 where
  pub same : (v : View) (place L : ℕ) → z < span L → formed v place L r k ≡ at (immediate z) r

abbrev pub SpotOf : Registers → Fields → Option Spot → Type 0
SpotOf r k (Some (spot.Number z)) = NamesNumber r k z
SpotOf r k (Some (spot.Register x n)) = Names r k (register x) × (n ≡ reg r x)
SpotOf r k (Some (spot.Memory a)) = Names r k (memory a)
SpotOf r k None = Unit {0}

-- the same from registers r on to registers q, which a step may have changed, for an operand of L bytes

pub record Leads (v : View) (L : ℕ) (k : Fields) (r q : Registers) (l : Location) : Type 0 where
  pub same : (place : ℕ) → formed v place L r k ≡ at l q

abbrev pub SpotFrom : View → ℕ → Fields → Registers → Registers → Option Spot → Type 0
SpotFrom v L k r q (Some (spot.Number z)) = z < span L → Leads v L k r q (immediate z)
SpotFrom v L k r q (Some (spot.Register x n)) = Leads v L k r q (register x) × (n ≡ reg q x)
SpotFrom v L k r q (Some (spot.Memory a)) = Leads v L k r q (memory a)
SpotFrom v L k r q None = Unit {0}

-- a register is one of the sixteen
abbrev pub SmallPlace : Spot → Type 0
SmallPlace (spot.Number z) = Unit {0}
SmallPlace (spot.Register x n) = x < 16
SmallPlace (spot.Memory a) = Unit {0}

abbrev pub SmallSpot : Option Spot → Type 0
SmallSpot (Some s) = SmallPlace s
SmallSpot None = Unit {0}

-- ---- What a role takes

-- why it looks an operand in memory up
abbrev pub access_of : Role → Access
access_of Value = Read
access_of Address = Read
access_of Destination = Write
access_of Update = Write

-- where a result goes, as a target
abbrev pub target_of : Goes → Target
target_of goes.Nowhere = target.Nowhere
target_of (goes.Register x) = target.Register x
target_of (goes.Memory x a) = target.Memory x

-- a result of L bytes can go there: a register is one of the sixteen, a place in memory may be
-- written
abbrev pub Reaches : ℕ → ℕ → Map → Memory → Goes → Type 0
Reaches L s map m goes.Nowhere = Unit {0}
Reaches L s map m (goes.Register x) = x < 16
Reaches L s map m (goes.Memory x a) = Placed s map m L x Write a

abbrev pub ReachesTaken : ℕ → ℕ → Map → Memory → Option Taken → Type 0
ReachesTaken L s map m (Some t) = Reaches L s map m t.goes
ReachesTaken L s map m None = Unit {0}

abbrev pub ReachesAll : ℕ → ℕ → Map → Memory → Option Operands → Type 0
ReachesAll L s map m (Some o) = Reaches L s map m o.goes
ReachesAll L s map m None = Unit {0}

-- what a role takes, of L bytes, from location l over registers r
abbrev pub TakenAt : View → ℕ → ℕ → Role → Location → Registers → Option Taken → Type 0
TakenAt v place L k l r (Some t) =
    taken_by v place L (record { location = l; registers = r }) k ≡ taken t.number (target_of t.goes)
TakenAt v place L k l r None = Unit {0}

-- the operand of L bytes at R15, at any place of its command: from registers r on to registers q it
-- gives the number n and the target t
pub record Gives (v : View) (L : ℕ) (k : Role) (r q : Registers) (n : ℕ) (t : Target) : Type 0 where
  pub location : Location
  pub found : (place : ℕ) → operand_at v place L r ≡ at location q
  pub same : (place : ℕ) → taken_by v place L (record { location = location; registers = q }) k ≡ taken n t

-- at any place of its command, over any registers
pub record TakenFrom (v : View) (L : ℕ) (k : Role) (l : Location) (t : Option Taken) : Type 0 where
  pub same : (place : ℕ) (r : Registers) → TakenAt v place L k l r t

-- over registers in which register x holds n
pub record TakenIn (v : View) (L : ℕ) (k : Role) (x n : ℕ) (t : Option Taken) : Type 0 where
  pub same : (place : ℕ) (r : Registers) → n ≡ reg r x → TakenAt v place L k (register x) r t

-- a number that is taken fits L bytes
abbrev pub Fitting : ℕ → ℕ → Option Taken → Type 0
Fitting L z (Some t) = z < span L
Fitting L z None = Unit {0}

abbrev pub TakenOf : View → ℕ → Role → Spot → Option Taken → Type 0
TakenOf v L k (spot.Number z) t = Fitting L z t × TakenFrom v L k (immediate z) t
TakenOf v L k (spot.Register x n) t = TakenIn v L k x n t
TakenOf v L k (spot.Memory a) t = TakenFrom v L k (memory a) t

-- ---- Operands

-- what a role takes of the operand of L bytes at R15, from registers r on to registers q
abbrev pub OperandOf : View → ℕ → Role → Registers → Registers → Option Taken → Type 0
OperandOf v L k r q (Some t) = Gives v L k r q t.number (target_of t.goes)
OperandOf v L k r q None = Unit {0}

-- the operands so far with the one at a place
abbrev pub with_operand : Operands → ℕ → Taken → Operands
with_operand o place t = record {
  first = pick (eqb place 1) t.number o.first;
  second = pick (eqb place 2) t.number o.second;
  goes = t.goes;
}

-- what the operands by these rules give, from registers r on to registers q
abbrev pub ReadyOf : View → List Rule → Registers → Registers → Option Operands → Type 0
ReadyOf v ks r q (Some o) =
    got (record { first = o.first; second = o.second; target = target_of o.goes; registers = q })
    ≡ operands_of v ks r
ReadyOf v ks r q None = Unit {0}

-- only R15 changed
pub record OnlyR15 (r q : Registers) : Type 0 where
  pub r15 : ℕ
  pub same : q ≡ set r 15 r15
