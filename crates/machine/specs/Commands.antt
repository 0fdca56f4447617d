-- Document 01, "One step": what one command does, from what it sees. "Reads and map lookups use the
-- memory from the command's start": a command sees memory through a view alone.
use Rattle.std.specs.Prelude.{ℕ, zero, suc, ◌+◌, ◌*◌, ◌/◌, Bool, true, not, ◌||◌, [], ◌++◌, leb, eqb, set}
use Rattle.std.proofs.Math.Option.{Option, none, some}
use Rattle.machine.specs.declared.VirtualAddress.{VirtualAddress}
use Rattle.machine.specs.declared.Access.TheVariants.{Fetch, Read}
use Rattle.machine.specs.declared.Alarm.TheVariants as alarms
use Rattle.machine.specs.declared.Target.{Target}
use Rattle.machine.specs.declared.Target.TheVariants.{Nowhere, Register, Memory}
use Rattle.machine.specs.declared.IntegerResult.{IntegerResult}
use Rattle.machine.specs.declared.Kind.{Kind}
use Rattle.machine.specs.declared.FloatResult.{FloatResult}
use Rattle.machine.specs.Words.{pick, length_of, kind_length, span, bytes_of, raised, lowered}
use Rattle.machine.specs.State.{Registers, reg, flag_n, flag_z, flag_v, flag_c}
use Rattle.machine.specs.Alarms.{OrAlarm, got, alarm, ◌>>=◌}
use Rattle.machine.specs.Map.{View, read_bytes, VirtualWrites, writes_from}
use Rattle.machine.specs.Code.{Condition, JUMP, JEQ, JNE, JGT, JGE, JLT, JLE, JV, JC, Common, result, CMP}
use Rattle.machine.specs.Code.{PUSHR, POPR, jump, CALL, RET, UserOnly, system_call, KernelOnly, HALT, RESUME}
use Rattle.machine.specs.Code.{Command, common, user_only, kernel_only, Known, known}
use Rattle.machine.specs.Operands.{virtual, past, Operands, operands_of}
use Rattle.machine.specs.Integers.{natural, operate, compared}
use Rattle.machine.specs.Floats.{number_of, arithmetic, moved_float, compared_floats}
use Rattle.machine.specs.FloatCode as float
use Rattle.machine.specs.FloatCode.{FloatCommand, known_float, bits_to_register, float_operands_of}

-- ---- What a command comes to

-- new registers and flags, and the bytes to write
pub record Done : Type 0 where
  pub registers : Registers
  pub flags : ℕ
  pub writes : VirtualWrites

-- ---- Results

-- "B and H in a register are its low end; a write keeps the rest"
unfoldable pub kept_rest : ℕ → ℕ → ℕ → ℕ
kept_rest L old x = old / span L * span L + natural L x

-- a result of L bytes goes to its target; every command that gives a result has one
unfoldable pub stored : ℕ → IntegerResult → Target → Registers → Done
stored L x Nowhere r = record { registers = r; flags = x.flags; writes = [] }
stored L x (Register i) r =
    record { registers = set r i (kept_rest L (reg r i) x.value); flags = x.flags; writes = [] }
stored L x (Memory a) r = record { registers = r; flags = x.flags; writes = writes_from a.0 (bytes_of L x.value) }

-- a floating result of a kind goes to its target
unfoldable pub float_stored : Kind → FloatResult → Target → Registers → Done
float_stored k x Nowhere r = record { registers = r; flags = x.flags; writes = [] }
float_stored k x (Register i) r =
    record { registers = bits_to_register k r i x.bits; flags = x.flags; writes = [] }
float_stored k x (Memory a) r =
    record { registers = r; flags = x.flags; writes = writes_from a.0 (bytes_of (kind_length k) x.bits) }

-- ---- The stack

-- "PUSHR and POPR follow 2.5.1 literally." Document 000, 2.5.1, PUSHR: "for i := 14 downto 0 do SP
-- := SP - 4; S[SP] := Ri"; here the turns left, for i - 1 downto 0. sp is SP as the turns before
-- left it, r the registers from the start, ws what the turns before write, upward, f the flags,
-- which stay
unfoldable pub pushed : ℕ → ℕ → Registers → VirtualWrites → ℕ → Done
pushed zero sp r ws f = record { registers = set r 14 sp; flags = f; writes = ws }
pushed (suc i) sp r ws f =
    let low = lowered sp 4 in
    pushed i low r (writes_from low (bytes_of 4 (pick (eqb i 14) low (reg r i))) ++ ws) f

-- POPR: "for i := 0 to 14 do Ri := S[SP]; SP := SP + 4", here n turns from i on
unfoldable pub popped : View → ℕ → ℕ → Registers → OrAlarm Registers
popped v zero i r = got r
popped v (suc n) i r = do
  w ← read_bytes v Read 4 (virtual (reg r 14))
  popped v n (suc i) (set (set r i w) 14 (raised (reg (set r i w) 14) 4))

abbrev pub popped_done : View → Registers → ℕ → OrAlarm Done
popped_done v r f = do
  q ← popped v 15 0 r
  got (record { registers = q; flags = f; writes = [] })

-- "CALL lowers SP by 4, stores the next address there and jumps"
unfoldable pub called : ℕ → Registers → ℕ → Done
called a r f =
    let sp = lowered (reg r 14) 4 in
    record { registers = set (set r 14 sp) 15 a; flags = f; writes = writes_from sp (bytes_of 4 (reg r 15)) }

-- "RET reverses it"
unfoldable pub returned : ℕ → Registers → ℕ → Done
returned w r f = record { registers = set (set r 15 w) 14 (raised (reg r 14) 4); flags = f; writes = [] }

abbrev pub returned_done : View → Registers → ℕ → OrAlarm Done
returned_done v r f = do
  w ← read_bytes v Read 4 (virtual (reg r 14))
  got (returned w r f)

-- ---- Jumps

unfoldable pub jumps : Condition → ℕ → Bool
jumps JUMP f = true
jumps JEQ f = flag_z f
jumps JNE f = not (flag_z f)
jumps JGT f = not (flag_n f || flag_z f)
jumps JGE f = not (flag_n f)
jumps JLT f = flag_n f
jumps JLE f = flag_n f || flag_z f
jumps JV f = flag_v f
jumps JC f = flag_c f

-- ---- Commands that both modes allow, with flags f before and operands o

-- "HALT, PUSHR, POPR, system calls, jumps, CALL and RET keep flags."
unfoldable pub common_done : Common → View → ℕ → Operands → OrAlarm Done
common_done (result op s) v f o = do
  x ← operate op (length_of s) (natural (length_of s) o.first) (natural (length_of s) o.second)
  got (stored (length_of s) x o.target o.registers)
common_done (CMP s) v f o =
    got (record {
      registers = o.registers;
      flags = compared (length_of s) (natural (length_of s) o.first)
          (natural (length_of s) o.second);
      writes = [];
    })
common_done PUSHR v f o = got (pushed 15 (reg o.registers 14) o.registers [] f)
common_done POPR v f o = popped_done v o.registers f
common_done (jump c) v f o =
    got (record {
      registers = pick (jumps c f) (set o.registers 15 o.first)
          o.registers;
      flags = f;
      writes = [];
    })
common_done CALL v f o = got (called o.first o.registers f)
common_done RET v f o = returned_done v o.registers f

-- ---- The command at R15

-- 12: "the command byte is unknown"; its argument is the command byte
unfoldable pub known_or12 : {K : Type 0} → ℕ → Option K → OrAlarm K
known_or12 b none = alarm alarms.Command b
known_or12 b (some k) = got k

-- a command that a mode allows: one of both modes, or one of its own, S
pub data Allowed (S : Type 0) : Type 0 where
  both : Common → Allowed S
  only : S → Allowed S

-- 13: "HALT or RESUME in user mode, or a system call in kernel mode"; its argument is the command
-- byte
unfoldable pub allowed_in_user_mode : ℕ → Command → OrAlarm (Allowed UserOnly)
allowed_in_user_mode b (common c) = got (both c)
allowed_in_user_mode b (user_only s) = got (only s)
allowed_in_user_mode b (kernel_only s) = alarm alarms.Mode b

unfoldable pub allowed_in_kernel_mode : ℕ → Command → OrAlarm (Allowed KernelOnly)
allowed_in_kernel_mode b (common c) = got (both c)
allowed_in_kernel_mode b (user_only s) = alarm alarms.Mode b
allowed_in_kernel_mode b (kernel_only s) = got (only s)

-- what it comes to: it is done, or does what only this mode's commands do, E
pub data Completion (E : Type 0) : Type 0 where
  done : Done → Completion E
  of_mode : E → Completion E

unfoldable pub completion_of : {S E : Type 0} → (S → Operands → E) → Allowed S → View → ℕ → Operands
    → OrAlarm (Completion E)
completion_of effect (both c) v f o = do
  d ← common_done c v f o
  got (done d)
completion_of effect (only s) v f o = got (of_mode (effect s o))

-- F-6: what a floating command comes to, from its kind and its operands
unfoldable pub float_done : FloatCommand → Kind → Operands → Done
float_done (float.gives op) k o = float_stored k (arithmetic op k o.first o.second) o.target o.registers
float_done float.MOVE k o = float_stored k (moved_float k o.first) o.target o.registers
float_done float.CMP k o = record {
  registers = o.registers;
  flags = compared_floats (number_of k o.first) (number_of k o.second);
  writes = [];
}

-- the floating command of byte b, over registers with R15 past the byte. Both modes allow it, it
-- reads no stack, and no operation alarms
unfoldable pub float_command : ℕ → View → Registers → OrAlarm Done
float_command b v r = do
  k ← known_or12 b (known_float b)
  o ← float_operands_of v k.kind k.roles r
  got (float_done k.command k.kind o)

-- the order inside a command: "byte, mode, then each operand left to right (fetch, form, address,
-- and reading where its value is used), the stack bytes read, from SP upward, the operation, the
-- bytes written, upward from the first (for PUSHR and CALL the new SP)". The two tables share no byte:
-- 01's ends at 7Ah, F-6's begins at 80h. F-6: demands 2 and 3 include its commands
unfoldable pub command_by : {S E : Type 0} → (ℕ → Command → OrAlarm (Allowed S)) → (S → Operands → E) → View
    → Registers → ℕ → OrAlarm (Completion E)
command_by mode effect v r f = do
  b ← read_bytes v Fetch 1 (virtual (reg r 15))
  pick (leb 0x80 b) (float_command b v (past 1 r) >>= (λ d. got (done d))) (do
    k ← known_or12 b (known b)
    c ← mode b k.command
    o ← operands_of v k.operands (past 1 r)
    completion_of effect c v f o)

-- a system call: its argument, and the registers to save
pub record SystemCall : Type 0 where
  pub argument : ℕ
  pub registers : Registers

unfoldable pub user_effect : UserOnly → Operands → SystemCall
user_effect system_call o = record { argument = o.first; registers = o.registers }

unfoldable pub user_command : View → Registers → ℕ → OrAlarm (Completion SystemCall)
user_command v r f = command_by allowed_in_user_mode user_effect v r f

-- HALT ends with R15 past it; RESUME names a control block by its address
pub data KernelEffect : Type 0 where
  halts : Registers → KernelEffect
  resumes : VirtualAddress → KernelEffect

unfoldable pub kernel_effect : KernelOnly → Operands → KernelEffect
kernel_effect HALT o = halts o.registers
kernel_effect RESUME o = resumes (record { 0 = o.first })

unfoldable pub kernel_command : View → Registers → ℕ → OrAlarm (Completion KernelEffect)
kernel_command v r f = command_by allowed_in_kernel_mode kernel_effect v r f
