-- What a command leaves has room in its bytes: every register below 2^32, every written byte below
-- 256, whatever the command, if it starts from such registers and sees only such bytes.
use Prim.Native.Nat.{ℕ, zero, suc, ◌+◌, ◌/◌, ◌%◌, ◌<◌}
use mathlib.Core.List.{List, [], ◌∷◌, ◌++◌}
use native.Mathlib.Omega.{arith}
use lib.Dec.{leb, eqb}
use lib.ListN.{set}
use Rattle.machine.specs.declared.Access.TheVariants.{Fetch, Read}
use Rattle.machine.specs.declared.Kind.{Kind}
use Rattle.machine.specs.declared.Kind.TheVariants.{F, D}
use Rattle.machine.specs.declared.FloatResult.{FloatResult}
use Rattle.machine.specs.declared.Size.{Size}
use Rattle.machine.specs.declared.Size.TheVariants.{B, H, W}
use Rattle.machine.specs.declared.Target.{Target}
use Rattle.machine.specs.declared.Target.TheVariants as target
use Rattle.machine.specs.declared.IntegerResult.{IntegerResult}
use Rattle.machine.specs.Words.{pick, length_of, kind_length, span, bytes_of, raised, lowered}
use Rattle.machine.specs.State.{Registers, reg}
use Rattle.machine.specs.Alarms.{OrAlarm}
use Rattle.machine.specs.Map.{View, read_bytes, VirtualWrites, writes_from}
use Rattle.machine.specs.Code.{Common, result, CMP, PUSHR, POPR, jump, CALL, RET, Command, known}
use Rattle.machine.specs.Operands.{virtual, past, Operands, operands_of}
use Rattle.machine.specs.Integers.{natural, operate}
use Rattle.machine.specs.Floats.{arithmetic, moved_float}
use Rattle.machine.specs.FloatCode as float
use Rattle.machine.specs.FloatCode.{FloatCommand, known_float, next_register, bits_to_register, float_operands_of}
use Rattle.machine.specs.Commands.{float_stored, float_done, float_command}
use Rattle.machine.specs.Commands.{Done, kept_rest, stored, pushed, popped, called, returned, jumps, common_done}
use Rattle.machine.specs.Commands.{known_or12, Allowed, both, only, Completion, done, of_mode, completion_of, command_by}
use Rattle.machine.proofs.Bytes.{bytes_small}
use Rattle.midesk.proofs.Stops.{picked}
use Rattle.midesk.proofs.Room.{Word, Below, tail_below, Sixteen, set_held, Got, bound, after, Sees, read_held}
use Rattle.midesk.proofs.OperandRoom.{HeldOperands, operands_held, float_operands_held}

-- ---- What a command comes to

-- bytes to write
abbrev pub Small : {A : Type 0} → List (A × ℕ) → Type 0
Small [] = Unit {0}
Small (w ∷ ws) = (w.1 < 256) × Small ws

writes_small : (a : ℕ) (bs : List ℕ) → Below 256 bs → Small (writes_from a bs)
unfolding writes_from
writes_small a [] h = tt
writes_small a (b ∷ bs) h = (h.at 0, writes_small (a + 1) bs (tail_below h))

value_small : (a L x : ℕ) → Small (writes_from a (bytes_of L x))
value_small a L x = writes_small a (bytes_of L x) (record { at = bytes_small L x })

append_small : {A : Type 0} (xs ys : List (A × ℕ)) → Small xs → Small ys → Small (xs ++ ys)
append_small [] ys h g = g
append_small (x ∷ xs) ys h g = (h.0, append_small xs ys h.1 g)

pub record HeldDone (d : Done) : Type 0 where
  pub registers : Sixteen d.registers
  pub writes : Small d.writes

abbrev pub HeldCompletion : {E : Type 0} → (E → Type 0) → Completion E → Type 0
HeldCompletion P (done d) = HeldDone d
HeldCompletion P (of_mode e) = P e

rest_held : (s : Size) (old x : ℕ) → Word old → Word (kept_rest (length_of s) old x)
unfolding kept_rest
rest_held B old x h = omega arith
rest_held H old x h = omega arith
rest_held W old x h = omega arith

stored_held : (s : Size) (x : IntegerResult) (t : Target) (r : Registers) → Sixteen r → HeldDone (stored (length_of s) x t r)
unfolding stored
stored_held s x target.Nowhere r h = record { registers = h; writes = tt }
stored_held s x (target.Register i) r h =
    record { registers = set_held i _ h (rest_held s (reg r i) x.value (h.words.at i)); writes = tt }
stored_held s x (target.Memory a) r h =
    record { registers = h; writes = value_small a.0 (length_of s) x.value }

registers_held : (k : Kind) (r : Registers) (i n : ℕ) → Sixteen r → Sixteen (bits_to_register k r i n)
unfolding bits_to_register
registers_held F r i n h = set_held i (n % span 4) h (omega arith)
registers_held D r i n h =
    set_held (next_register i) (n % span 4) (set_held i (n / span 4 % span 4) h (omega arith)) (omega arith)

float_stored_held : (k : Kind) (x : FloatResult) (t : Target) (r : Registers) → Sixteen r
    → HeldDone (float_stored k x t r)
unfolding float_stored
float_stored_held k x target.Nowhere r h = record { registers = h; writes = tt }
float_stored_held k x (target.Register i) r h =
    record { registers = registers_held k r i x.bits h; writes = tt }
float_stored_held k x (target.Memory a) r h =
    record { registers = h; writes = value_small a.0 (kind_length k) x.bits }

float_done_held : (c : FloatCommand) (k : Kind) (o : Operands) → Sixteen o.registers → HeldDone (float_done c k o)
unfolding float_done
float_done_held (float.gives op) k o h =
    float_stored_held k (arithmetic op k o.first o.second) o.target o.registers h
float_done_held float.MOVE k o h = float_stored_held k (moved_float k o.first) o.target o.registers h
float_done_held float.CMP k o h = record { registers = h; writes = tt }

pushed_held : (i sp : ℕ) (r : Registers) (ws : VirtualWrites) (f : ℕ) → Sixteen r → Word sp → Small ws
    → HeldDone (pushed i sp r ws f)
unfolding pushed
pushed_held zero sp r ws f h g q = record { registers = set_held 14 sp h g; writes = q }
pushed_held (suc i) sp r ws f h g q =
    let low = lowered sp 4 in
    let x = pick (eqb i 14) low (reg r i) in
    pushed_held i low r (writes_from low (bytes_of 4 x) ++ ws) f h (omega arith)
    (append_small (writes_from low (bytes_of 4 x)) ws (value_small low 4 x) q)

-- ---- Commands

module _ (v : View) (sees : Sees v) where
  popped_held : (n i : ℕ) (r : Registers) → Sixteen r → Got Sixteen (popped v n i r)
  unfolding popped
  popped_held zero i r h = h
  popped_held (suc n) i r h =
      let sp = virtual (reg r 14) in
      bound Word Sixteen (read_bytes v Read 4 sp) _ (read_held v sees Read W sp) λ w hw.
      popped_held n (suc i) (set (set r i w) 14 (raised (reg (set r i w) 14) 4))
      (set_held 14 (raised (reg (set r i w) 14) 4) (set_held i w h hw) (omega arith))

  common_held : (c : Common) (f : ℕ) (o : Operands) → HeldOperands o → Got HeldDone (common_done c v f o)
  unfolding common_done called returned
  common_held (result op s) f o h =
      after HeldDone
      (operate op (length_of s) (natural (length_of s) o.first) (natural (length_of s) o.second)) _
      λ x. stored_held s x o.target o.registers h.registers
  common_held (CMP s) f o h = record { registers = h.registers; writes = tt }
  common_held PUSHR f o h =
      let r = o.registers in
      pushed_held 15 (reg r 14) r [] f h.registers (h.registers.words.at 14) tt
  common_held POPR f o h =
      bound Sixteen HeldDone (popped v 15 0 o.registers) _ (popped_held 15 0 o.registers h.registers)
      λ q hq. record { registers = hq; writes = tt }
  common_held (jump c) f o h = record {
    registers = picked Sixteen (jumps c f) _ o.registers (set_held 15 o.first h.registers h.first)
        h.registers;
    writes = tt;
  }
  common_held CALL f o h =
      let r = o.registers in
      let sp = lowered (reg r 14) 4 in
      record {
        registers = set_held 15 o.first (set_held 14 sp h.registers (omega arith)) h.first;
        writes = value_small sp 4 (reg r 15);
      }
  common_held RET f o h =
      let r = o.registers in
      let sp = virtual (reg r 14) in
      bound Word HeldDone (read_bytes v Read 4 sp) _ (read_held v sees Read W sp) λ w hw.
      record {
        registers = set_held 14 (raised (reg r 14) 4) (set_held 15 w h.registers hw) (omega arith);
        writes = tt;
      }

  float_held : (b : ℕ) (r : Registers) → Sixteen r → Got HeldDone (float_command b v r)
  unfolding float_command
  float_held b r h =
      after HeldDone (known_or12 b (known_float b)) _ λ k.
      bound (λ o. Sixteen o.registers) HeldDone (float_operands_of v k.kind k.roles r) _
      (float_operands_held v sees 1 k.kind k.roles _ h)
      λ o ho. float_done_held k.command k.kind o ho

  -- a command of a mode whose own commands have effects with the property P
  module _ {S E : Type 0} (P : E → Type 0) (mode : ℕ → Command → OrAlarm (Allowed S)) (effect : S → Operands → E)
      (kept : (s : S) (o : Operands) → HeldOperands o → P (effect s o)) where
    completion_held : (c : Allowed S) (f : ℕ) (o : Operands) → HeldOperands o
        → Got (HeldCompletion P) (completion_of effect c v f o)
    unfolding completion_of
    completion_held (both c) f o h =
        bound HeldDone (HeldCompletion P) (common_done c v f o) _ (common_held c f o h) λ d hd. hd
    completion_held (only s) f o h = kept s o h

    pub command_held : (r : Registers) (f : ℕ) → Sixteen r → Got (HeldCompletion P) (command_by mode effect v r f)
    unfolding command_by
    command_held r f h =
        let past-byte = set_held 15 (raised (reg r 15) 1) h (omega arith) in
        after (HeldCompletion P) (read_bytes v Fetch 1 (virtual (reg r 15))) _ λ b.
        picked (Got (HeldCompletion P)) (leb 0x80 b) _ _
        (bound HeldDone (HeldCompletion P) (float_command b v (past 1 r)) _ (float_held b (past 1 r) past-byte) λ d hd. hd)
        (after (HeldCompletion P) (known_or12 b (known b)) _ λ k.
        after (HeldCompletion P) (mode b k.command) _ λ c.
        bound HeldOperands (HeldCompletion P) (operands_of v k.operands (past 1 r)) _
        (operands_held v sees 1 k.operands _
        (record { first = omega arith; second = omega arith; registers = past-byte }))
        λ o ho. completion_held c f o ho)
