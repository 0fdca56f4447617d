-- Document 01, "Code": the table of command bytes, with the count, sizes and roles of each
-- command's operands.
use Rattle.std.specs.Prelude.{ℕ, ◌+◌, ◌-◌, Bool, true, false, ◌&&◌, List, [], ◌∷◌, ltb, leb, eqb}
use Rattle.std.proofs.Math.Option.{Option, none, some}
use Rattle.machine.specs.declared.Size.{Size}
use Rattle.machine.specs.declared.Size.TheVariants.{B, W}
use Rattle.machine.specs.declared.Role.{Role}
use Rattle.machine.specs.declared.Role.TheVariants.{Value, Address, Destination, Update}
use Rattle.machine.specs.Words.{pick, size_at}

-- ---- Commands

-- the commands of document 000, 2.5.1 to 2.5.4, that give a result to their last operand
pub data Operation : Type 0 where
  MOVE CLEAR MOVEN MOVEC MOVEA CONV OR ANDNOT XOR ADD SUB MULT DIV SH ROT : Operation

-- when a jump is taken
pub data Condition : Type 0 where
  JUMP JEQ JNE JGT JGE JLT JLE JV JC : Condition

-- the commands that both modes allow
pub data Common : Type 0 where
  result : Operation → Size → Common
  CMP : Size → Common
  PUSHR POPR : Common
  jump : Condition → Common
  CALL RET : Common

-- and those of one mode: alarm 13 is "HALT or RESUME in user mode, or a system call in kernel mode"
pub data UserOnly : Type 0 where
  system_call : UserOnly

pub data KernelOnly : Type 0 where
  HALT RESUME : KernelOnly

pub data Command : Type 0 where
  common : Common → Command
  user_only : UserOnly → Command
  kernel_only : KernelOnly → Command

-- ---- Operands

-- an operand's size and role
pub record Rule : Type 0 where
  pub size : Size
  pub role : Role

-- a role takes its operand's value
abbrev pub read_by : Role → Bool
read_by Value = true
read_by Address = false
read_by Destination = false
read_by Update = true

-- a result goes to an operand of the role
abbrev pub written_to : Role → Bool
written_to Value = false
written_to Address = false
written_to Destination = true
written_to Update = true

abbrev pub value : Size → Rule
value s = record { size = s; role = Value }

-- "MOVEA's source, jumps, CALL, RESUME, whose L is 4"
abbrev pub address : Rule
address = record { size = W; role = Address }

abbrev pub destination : Size → Rule
destination s = record { size = s; role = Destination }

abbrev pub update : Size → Rule
update s = record { size = s; role = Update }

abbrev pub transport : Size → List Rule
transport s = value s ∷ destination s ∷ []

abbrev pub two : Size → List Rule
two s = value s ∷ update s ∷ []

abbrev pub three : Size → List Rule
three s = value s ∷ value s ∷ destination s ∷ []

-- ---- The table

-- "A command is one byte"
-- one byte, or three from a first one on: "Add k = 0, 1, 2 for B, H, W where k stands"
pub data Row : Type 0 where
  one : ℕ → Command → List Rule → Row
  sized : ℕ → (Size → Common) → (Size → List Rule) → Row

-- "00h HALT, 01h PUSHR, 02h POPR, 03h system call (one W value), 05h RESUME (one address), 10h+k
-- MOVE, 14h+k CLEAR, 18h+k MOVEN, 1Ch+k MOVEC, 20h MOVEA, 21h CONV, 28h+k/2Ch+k OR, 30h+k/34h+k
-- ANDNOT, 38h+k/3Ch+k XOR, 40h+k/44h+k ADD, 48h+k/4Ch+k SUB, 50h+k/54h+k MULT, 58h+k/5Ch+k DIV,
-- 60h SH, 61h ROT, 64h+k CMP, 70h JUMP, 71h JEQ (Z), 72h JNE, 73h JGT (neither N nor Z), 74h JGE
-- (not N), 75h JLT (N), 76h JLE (N or Z), 77h JV, 78h JC, 79h CALL, 7Ah RET."; "CONV takes B, gives
-- W". In the paper's order; "/" gives the three-operand byte
unfoldable pub table : List Row
table =
    one 0x00 (kernel_only HALT) []
    ∷ one 0x01 (common PUSHR) []
    ∷ one 0x02 (common POPR) []
    ∷ one 0x03 (user_only system_call) (value W ∷ [])
    ∷ one 0x05 (kernel_only RESUME) (address ∷ [])
    ∷ sized 0x10 (result MOVE) transport
    ∷ sized 0x14 (result CLEAR) (λ s. destination s ∷ [])
    ∷ sized 0x18 (result MOVEN) transport
    ∷ sized 0x1C (result MOVEC) transport
    ∷ one 0x20 (common (result MOVEA W)) (address ∷ destination W ∷ [])
    ∷ one 0x21 (common (result CONV W)) (value B ∷ destination W ∷ [])
    ∷ sized 0x28 (result OR) two
    ∷ sized 0x2C (result OR) three
    ∷ sized 0x30 (result ANDNOT) two
    ∷ sized 0x34 (result ANDNOT) three
    ∷ sized 0x38 (result XOR) two
    ∷ sized 0x3C (result XOR) three
    ∷ sized 0x40 (result ADD) two
    ∷ sized 0x44 (result ADD) three
    ∷ sized 0x48 (result SUB) two
    ∷ sized 0x4C (result SUB) three
    ∷ sized 0x50 (result MULT) two
    ∷ sized 0x54 (result MULT) three
    ∷ sized 0x58 (result DIV) two
    ∷ sized 0x5C (result DIV) three
    ∷ one 0x60 (common (result SH W)) (three W)
    ∷ one 0x61 (common (result ROT W)) (three W)
    ∷ sized 0x64 CMP (λ s. value s ∷ value s ∷ [])
    ∷ one 0x70 (common (jump JUMP)) (address ∷ [])
    ∷ one 0x71 (common (jump JEQ)) (address ∷ [])
    ∷ one 0x72 (common (jump JNE)) (address ∷ [])
    ∷ one 0x73 (common (jump JGT)) (address ∷ [])
    ∷ one 0x74 (common (jump JGE)) (address ∷ [])
    ∷ one 0x75 (common (jump JLT)) (address ∷ [])
    ∷ one 0x76 (common (jump JLE)) (address ∷ [])
    ∷ one 0x77 (common (jump JV)) (address ∷ [])
    ∷ one 0x78 (common (jump JC)) (address ∷ [])
    ∷ one 0x79 (common CALL) (address ∷ [])
    ∷ one 0x7A (common RET) []
    ∷ []

pub record Known : Type 0 where
  pub command : Command
  pub operands : List Rule

-- "All other bytes are unknown"; document 02, F-6, adds those of FloatCode.antt
unfoldable pub known_in : List Row → ℕ → Option Known
known_in [] b = none
known_in (one n c os ∷ rows) b = pick (eqb b n) (some (record { command = c; operands = os })) (known_in rows b)
known_in (sized n c os ∷ rows) b =
    pick (leb n b && ltb b (n + 3))
    (some (record { command = common (c (size_at (b - n))); operands = os (size_at (b - n)) })) (known_in rows b)

unfoldable pub known : ℕ → Option Known
known b = known_in table b
