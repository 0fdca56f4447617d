-- A step of a desk that has room in its bytes, over a memory of bytes, leaves such a desk and such
-- a memory.
use Rattle.std.specs.Prelude.{Ok, Err}
use Prim.Native.Nat.{ℕ, zero, suc, ◌+◌, ◌*◌, ◌<◌, ◌≤◌}
use mathlib.Core.Path.{◌≡◌}
use mathlib.Core.Bool.{Bool, true, false, ◌&&◌}
use mathlib.Core.List.{List, [], ◌∷◌, ◌++◌}
use native.Mathlib.Omega.{arith}
use lib.Dec.{eqb}
use lib.ListN.{length, set, length-append}
use Rattle.machine.specs.declared.RealAddress.{RealAddress}
use Rattle.machine.specs.declared.Access.TheVariants.{Write}
use Rattle.machine.specs.declared.Map.{Map}
use Rattle.machine.specs.declared.Mark.{Mark}
use Rattle.machine.specs.declared.Mark.TheVariants.{Running, Stopped}
use Rattle.machine.specs.declared.Desk.{Desk}
use Rattle.machine.specs.Words.{Memory, bytes_of, bytes_of_words, word_at}
use Rattle.machine.specs.State.{Registers, user_mode, level_of, flags_of, with_flags, valid_user_status, without_level}
use Rattle.machine.specs.State.{system_block_of, control_block_bytes, saved_bytes, block_fits, map_fits, registers_from}
use Rattle.machine.specs.State.{desk_with}
use Rattle.machine.specs.Alarms.{alarm_number, OrAlarm, got, alarm}
use Rattle.machine.specs.Map.{View, real_of, view_of, VirtualWrites, RealWrites, real_writes_from, located, commit}
use Rattle.machine.specs.Code.{UserOnly, system_call, KernelOnly, HALT, RESUME}
use Rattle.machine.specs.Operands.{Operands}
use Rattle.machine.specs.Commands.{Done, Completion, done, of_mode, SystemCall, user_effect, user_command, KernelEffect}
use Rattle.machine.specs.Commands.{halts, resumes, kernel_effect, kernel_command, allowed_in_user_mode, allowed_in_kernel_mode}
use Rattle.machine.specs.Steps.{Outcome, Plan, continues, enters, stop, halt, completed, due, user_written}
use Rattle.machine.specs.Steps.{of_user_command, interrupted, user_plan, enter_if, concluded, user_step, resume}
use Rattle.machine.specs.Steps.{kernel_written, of_kernel_command, kernel_step, one_step}
use Rattle.machine.specs.Calls.{Answer, unchanged, unless_refused, step_refusal, step_outcome}
use Rattle.machine.proofs.Bytes.{bytes_length, bytes_small}
use Rattle.machine.proofs.Blocks.{words_length}
use Rattle.layout.specs.Layout.{state_bytes, runs, mark_number, mark_of, other_words, words_of, packed, unpacked}
use Rattle.layout.proofs.RoundTrip.{Held}
use Rattle.midesk.proofs.Stops.{picked, highest, small_alarm, Representable}
use Rattle.midesk.proofs.Room.{Word, Below, none_below, cons_below, tail_below, append_below, set_below}
use Rattle.midesk.proofs.Room.{part_below, word_held, words_held, words_count, Sixteen, set_held, Got, bound}
use Rattle.midesk.proofs.Room.{after, Sees, view_sees}
use Rattle.midesk.proofs.OperandRoom.{HeldOperands}
use Rattle.midesk.proofs.CommandRoom.{Small, HeldDone, HeldCompletion, command_held}

-- ---- Desks

-- every number of the desk has room in its bytes
pub record Room (d : Desk) : Type 0 where
  pub registers : Sixteen d.registers
  pub status : Word d.status
  pub pending : d.pending < 0x1_0000
  pub base : Word d.map.base.0
  pub length : Word d.map.length
  pub system : Word d.system.0
  pub control : Word d.control.0
  pub mark : Word (mark_number d.mark)

-- with a mark that its word represents, that is what the round trip of RoundTrip.antt asks
pub room_held : (d : Desk) → Room d → Representable d.mark → Held d
unfolding words_of
room_held d h k = record {
  sixteen = h.registers.count;
  words = (append_below d.registers h.registers.words others).at;
  pending = h.pending;
  told = k;
}
  where
    others : Below 0x1_0000_0000 (other_words d)
    others =
        cons_below h.status (cons_below h.base (cons_below h.length
        (cons_below h.system (cons_below h.control (cons_below h.mark (none_below (omega arith)))))))

-- the state that 90 bytes hold
pub unpacked_room : (b : List ℕ) → Below 256 b → Room (unpacked b)
unfolding unpacked mark_of
unpacked_room b h = record {
  registers = record { count = words_count 16 b 0; words = words_held b h 16 0 };
  status = word_held b h 64;
  pending = omega (arith, h.at 88, h.at 89);
  base = word_held b h 68;
  length = word_held b h 72;
  system = word_held b h 76;
  control = word_held b h 80;
  mark = picked (λ (k : Mark). Word (mark_number k)) (eqb (word_at b 84) runs) Running (Stopped (word_at b 84))
      (omega arith) (word_held b h 84);
}

-- and the bytes of a state

bytes_below : (ws : List ℕ) → Below 256 (bytes_of_words ws)
unfolding bytes_of_words
bytes_below [] = none_below (omega arith)
bytes_below (w ∷ ws) = append_below (bytes_of 4 w) (record { at = bytes_small 4 w }) (bytes_below ws)

pub packed_below : (d : Desk) → Below 256 (packed d)
unfolding packed
packed_below d =
    append_below (bytes_of_words (words_of d)) (bytes_below (words_of d)) (record { at = bytes_small 2 d.pending })

pub packed-length : (d : Desk) → length d.registers ≡ 16 → length (packed d) ≡ state_bytes
unfolding packed words_of
packed-length d h = simp (length-append, words_length, bytes_length, h)

-- ---- Writes

located_small : (v : View) (ws : VirtualWrites) → Small ws → Got Small (located v ws)
unfolding located
located_small v [] h = tt
located_small v (w ∷ ws) h =
    after Small (v w.0 Write) _ λ f.
    bound Small Small (located v ws) _ (located_small v ws h.1) λ rest g. (h.0, g)

pub commit_below : (ws : RealWrites) (m : Memory) → Small ws → Below 256 m → Below 256 (commit ws m)
unfolding commit
commit_below [] m h g = g
commit_below (w ∷ ws) m h g = commit_below ws (set m w.0.0 w.1) h.1 (set_below m w.0.0 g h.0)

saved_small : (a : ℕ) (bs : List ℕ) → Below 256 bs → Small (real_writes_from a bs)
unfolding real_writes_from
saved_small a [] h = tt
saved_small a (b ∷ bs) h = (h.at 0, saved_small (suc a) bs (tail_below h))

-- ---- Commands of a mode

abbrev HeldCall : SystemCall → Type 0
HeldCall c = Sixteen c.registers

abbrev HeldEffect : KernelEffect → Type 0
HeldEffect (halts r) = Sixteen r
HeldEffect (resumes x) = Word x.0

user_effect_lem : (k : UserOnly) (o : Operands) → HeldOperands o → HeldCall (user_effect k o)
unfolding user_effect
user_effect_lem system_call o h = h.registers

kernel_effect_lem : (k : KernelOnly) (o : Operands) → HeldOperands o → HeldEffect (kernel_effect k o)
unfolding kernel_effect
kernel_effect_lem HALT o h = h.registers
kernel_effect_lem RESUME o h = h.first

-- ---- User mode

abbrev HeldPlan : Plan → Type 0
HeldPlan (continues r s ws) = Sixteen r × Word s × Small ws
HeldPlan (enters i r x p) = Sixteen r × (p < 0x1_0000)

flags_held : (s f : ℕ) → Word s → Word (with_flags s f)
unfolding with_flags
flags_held s f h = omega arith

module _ (r : Registers) (s p : ℕ) (hr : Sixteen r) (hs : Word s) (hp : p < 0x1_0000) where
  user_written_lem : (d : Done) (t : OrAlarm RealWrites) → HeldDone d → Got Small t → HeldPlan (user_written r s p d t)
  unfolding user_written
  user_written_lem d (got ws) h g = (h.registers, flags_held s d.flags hs, g)
  user_written_lem d (alarm k x) h g = (hr, hp)

  user_ends : (v : View) (t : OrAlarm (Completion SystemCall)) → Got (HeldCompletion HeldCall) t
      → HeldPlan (of_user_command r s p v t)
  unfolding of_user_command
  user_ends v (got (done d)) h = user_written_lem d (located v d.writes) h (located_small v d.writes h.writes)
  user_ends v (got (of_mode c)) h = (h, hp)
  user_ends v (alarm k x) h = (hr, hp)

  interrupts : (k : ℕ) (c : Plan) → HeldPlan c → HeldPlan (interrupted k r p c)
  unfolding interrupted without_level
  interrupts zero c h = h
  interrupts (suc k) c h = (hr, omega arith)

  plan_held : (v : View) → Sees v → HeldPlan (user_plan r s p v)
  unfolding user_plan user_command
  plan_held v sees =
      interrupts (due 15 p (level_of s)) _
      (user_ends v _ (command_held v sees HeldCall allowed_in_user_mode user_effect user_effect_lem r (flags_of s) hr))

-- ---- Steps

pub record HeldOutcome (o : Outcome) : Type 0 where
  pub desk : Room o.desk
  pub writes : Small o.writes

module _ (d : Desk) (h : Room d) where
  -- new registers, status, pending set and mark
  changed : (r : Registers) (s p : ℕ) (k : Mark) → Sixteen r → Word s → p < 0x1_0000 → Word (mark_number k)
      → Room (desk_with d r s p k)
  changed r s p k hr hs hp hk = record {
    registers = hr;
    status = hs;
    pending = hp;
    base = h.base;
    length = h.length;
    system = h.system;
    control = h.control;
    mark = hk;
  }

  stop_held : (n : ℕ) → n ≤ highest → HeldOutcome (stop n d)
  unfolding stop
  stop_held n q =
      record { desk = changed _ _ _ (Stopped n) h.registers h.status h.pending (omega arith); writes = tt }

  halt_held : (r : Registers) → Sixteen r → HeldOutcome (halt r d)
  unfolding halt
  halt_held r g = record { desk = changed r _ _ (Stopped 0) g h.status h.pending (omega arith); writes = tt }

  enter_held : (t : Bool) (i : ℕ) (r : Registers) (x p new s : ℕ) → Sixteen r → p < 0x1_0000 → Word new → Word s
      → HeldOutcome (enter_if t d i r x p new s)
  unfolding enter_if saved_bytes
  enter_held false i r x p new s hr hp hn hs = stop_held 16 (omega arith)
  enter_held true i r x p new s hr hp hn hs = record {
    desk = changed (set r 15 new) s p d.mark (set_held 15 new hr hn) hs hp h.mark;
    writes = saved_small d.control.0 _ (bytes_below (registers_from 16 0 r ++ d.status ∷ x ∷ []));
  }

  concluded_held : (block : Memory) (c : Plan) → Below 256 block → HeldPlan c → HeldOutcome (concluded d block c)
  unfolding concluded completed
  concluded_held block (continues r s ws) b (hr, hs, hw) =
      record { desk = changed r s _ d.mark hr hs h.pending h.mark; writes = hw }
  concluded_held block (enters i r x p) b (hr, hp) =
      enter_held _ i r x p _ _ hr hp (word_held block b (8 * i)) (word_held block b (8 * i + 4))

  kernel_written_lem : (c : Done) (t : OrAlarm RealWrites) → HeldDone c → Got Small t → HeldOutcome (kernel_written d c t)
  unfolding kernel_written completed
  kernel_written_lem c (got ws) hc g =
      let hs = flags_held d.status c.flags h.status in
      record { desk = changed c.registers _ _ d.mark hc.registers hs h.pending h.mark; writes = g }
  kernel_written_lem c (alarm k x) hc g = stop_held (alarm_number k) (small_alarm k)

  module _ (m : Memory) (b : Below 256 m) where
    resumed : (a : RealAddress) → Word a.0 → HeldOutcome (resume d m a)
    unfolding resume
    resumed a g =
        let map : Map = record { base = record { 0 = word_at m (a.0 + 72) }; length = word_at m (a.0 + 76) } in
        picked HeldOutcome (block_fits a control_block_bytes (length m) && map_fits map (length m) && valid_user_status
        (word_at m (a.0 + 64)))
        _ _
        (record {
          desk = record {
            registers = record { count = words_count 16 m a.0; words = words_held m b 16 a.0 };
            status = word_held m b (a.0 + 64);
            pending = h.pending;
            base = word_held m b (a.0 + 72);
            length = word_held m b (a.0 + 76);
            system = h.system;
            control = g;
            mark = h.mark;
          };
          writes = tt;
        })
        (stop_held 14 (omega arith))

    kernel_ends : (v : View) (t : OrAlarm (Completion KernelEffect)) → Got (HeldCompletion HeldEffect) t
        → HeldOutcome (of_kernel_command d m v t)
    unfolding of_kernel_command
    kernel_ends v (got (done c)) g =
        kernel_written_lem c (located v c.writes) g (located_small v c.writes g.writes)
    kernel_ends v (got (of_mode (halts r))) g = halt_held r g
    kernel_ends v (got (of_mode (resumes x))) g = resumed (real_of x) g
    kernel_ends v (alarm k x) g = stop_held (alarm_number k) (small_alarm k)

    one_step_lem : HeldOutcome (one_step d m)
    unfolding one_step user_step kernel_step system_block_of kernel_command
    one_step_lem =
        let v = view_of d m in
        let sees = view_sees d.status d.map m b in
        picked HeldOutcome (user_mode d.status) _ _
        (concluded_held (system_block_of d m) _ (part_below 256 d.system.0 m b)
        (plan_held d.registers d.status d.pending h.registers h.status h.pending v sees))
        (kernel_ends v _
        (command_held v sees HeldEffect allowed_in_kernel_mode kernel_effect kernel_effect_lem d.registers
        (flags_of d.status) h.registers))

    unless : (a : Answer) (o : Outcome) → HeldOutcome o → HeldOutcome (unless_refused a d o)
    unfolding unless_refused unchanged
    unless (Ok u) o g = g
    unless (Err k) o g = record { desk = h; writes = tt }

    pub step_held : HeldOutcome (step_outcome d m)
    unfolding step_outcome
    step_held = unless (step_refusal d (length m)) (one_step d m) one_step_lem
