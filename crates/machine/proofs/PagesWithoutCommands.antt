-- Pages without commands, as the statement has them: laws of the lookup, of the causes and of a
-- step, and steps of which each side computes to the other.
use Prim.Native.Nat.{ℕ, ◌<◌}
use mathlib.Core.Path.{◌≡◌, refl, sym, ap, ◌∙◌}
use mathlib.Core.Bool.{Bool, true, false}
use native.Mathlib.Omega.{arith}
use borrow.Author.Tests.{lt-ltb, ltb-true}
use lib.Dec.{ltb, eqb}
use lib.ListN.{length}
use Rattle.machine.specs.declared.Access.{Access}
use Rattle.machine.specs.declared.Access.TheVariants.{Fetch, Read, Write}
use Rattle.machine.specs.declared.Alarm.{Alarm}
use Rattle.machine.specs.declared.Alarm.TheVariants as alarms
use Rattle.machine.specs.declared.Desk.{Desk}
use Rattle.machine.specs.declared.FrameNumber.{FrameNumber}
use Rattle.machine.specs.declared.Map.{Map}
use Rattle.machine.specs.declared.VirtualAddress.{VirtualAddress}
use Rattle.machine.specs.Words.{pick, Memory, wrap}
use Rattle.machine.specs.State.{Registers, reg, user_mode, level_of, flags_of, system_block_of}
use Rattle.machine.specs.Alarms.{alarm_cause, got, alarm}
use Rattle.machine.specs.Map.{page_of, map_entry, present, writable, fetchable, frame_of, undamaged, Found, found_at}
use Rattle.machine.specs.Map.{in_frame, allows_write, allows_fetch, in_number_order, View, mapped, real_of, unmapped}
use Rattle.machine.specs.Map.{view_by, read_from, Names}
use Rattle.machine.specs.Commands.{command_by, user_command}
use Rattle.machine.specs.Steps.{due, enters, of_user_command, interrupted, user_plan, concluded, user_step, one_step}
use Rattle.machine.specs.TriedValues.{I, A, R}
use Rattle.machine.specs.PagesWithoutCommands.{WithoutCommands, FetchedThere, pages_memory, pages_registers}
use Rattle.machine.specs.PagesWithoutCommands.{pages_desk, step_at, pages_ran, jump_across, PagesWithoutCommands}
use Rattle.machine.proofs.WholeStep.{whole_step}

-- ---- A lookup

-- a page that an entry names, which is open to the access
named : (map : Map) (m : Memory) (x : VirtualAddress) (w : Access) (f : FrameNumber) → Names map m (page_of x) f
    → let e = map_entry map m (page_of x) in
    mapped map m x w ≡ in_number_order true true true (allows_write w e) (allows_fetch w e) x (found_at m (in_frame f x))
unfolding mapped
named map m x w f n = rw (lt-ltb (page_of x) map.length n.below, n.there, n.whole, n.frame)

names : {map : Map} {m : Memory} {x : VirtualAddress} → WithoutCommands map m x
    → Names map m (page_of x) (frame_of (map_entry map m (page_of x)))
names w = record { below = w.below; there = w.there; whole = w.whole; frame = refl }

fetch : (map : Map) (m : Memory) (x : VirtualAddress) → WithoutCommands map m x
    → mapped map m x Fetch ≡ alarm alarms.NoFetch x.0
unfolding in_number_order allows_write allows_fetch
fetch map m x w = rw (named map m x Fetch _ (names w), w.closed)

fetch_open : (map : Map) (m : Memory) (x : VirtualAddress) (f : FrameNumber) → Names map m (page_of x) f
    → fetchable (map_entry map m (page_of x)) ≡ true → mapped map m x Fetch ≡ got (found_at m (in_frame f x))
unfolding in_number_order allows_write allows_fetch
fetch_open map m x f n h = rw (named map m x Fetch f n, h)

read : (map : Map) (m : Memory) (x : VirtualAddress) (f : FrameNumber) → Names map m (page_of x) f
    → mapped map m x Read ≡ got (found_at m (in_frame f x))
unfolding in_number_order allows_write allows_fetch
read map m x f n = named map m x Read f n

write : (map : Map) (m : Memory) (x : VirtualAddress) (f : FrameNumber) → Names map m (page_of x) f
    → writable (map_entry map m (page_of x)) ≡ true → mapped map m x Write ≡ got (found_at m (in_frame f x))
unfolding in_number_order allows_write allows_fetch
write map m x f n h = rw (named map m x Write f n, h)

-- ---- What ends in 21

order_21 : (b t s k l : Bool) (x : VirtualAddress) (f : Found) (a : ℕ)
    → in_number_order b t s k l x f ≡ alarm alarms.NoFetch a
    → (b ≡ true) × (t ≡ true) × (s ≡ true) × (l ≡ false) × (a ≡ x.0)
unfolding in_number_order
order_21 false t s k l x f a h = (cc, cc, cc, cc, cc)
order_21 true false s k l x f a h = (cc, cc, cc, cc, cc)
order_21 true true false k l x f a h = (cc, cc, cc, cc, cc)
order_21 true true true false l x f a h = (cc, cc, cc, cc, cc)
order_21 true true true true false x f a h = (refl, refl, refl, refl, cc)
order_21 true true true true true x f a h = (cc, cc, cc, cc, cc)

closed_fetch : (w : Access) (e : ℕ) → allows_fetch w e ≡ false → (w ≡ Fetch) × (fetchable e ≡ false)
unfolding allows_fetch
closed_fetch Fetch e h = (refl, h)
closed_fetch Read e h = (cc, cc)
closed_fetch Write e h = (cc, cc)

fetch_alone : (s : ℕ) (map : Map) (m : Memory) (x : VirtualAddress) (w : Access) (a : ℕ)
    → view_by s map m x w ≡ alarm alarms.NoFetch a → FetchedThere s map m x w a
unfolding view_by mapped unmapped
fetch_alone s map m x w a = go (user_mode s) refl
  where
    never : (b : Bool) (f : Found) → pick b (got f) (alarm alarms.Address x.0) ≡ alarm alarms.NoFetch a → ⊥
    never true f h = let z : ◌≡◌ {A = ℕ} 0 1 = cc in omega arith
    never false f h = let z : ◌≡◌ {A = ℕ} 0 1 = cc in omega arith

    go : (u : Bool) → user_mode s ≡ u → pick u (mapped map m) (unmapped m) x w ≡ alarm alarms.NoFetch a
        → FetchedThere s map m x w a
    go true q h =
        let e = map_entry map m (page_of x) in
        let t = order_21 (ltb (page_of x) map.length) (present e) (undamaged (length m) e) (allows_write w e)
        (allows_fetch w e) x (found_at m (in_frame (frame_of e) x)) a h in
        let c = closed_fetch w e t.3 in
        record {
          user = q;
          fetched = c.0;
          address = t.4;
          page = record {
            below = ltb-true (page_of x) map.length t.0;
            there = t.1;
            whole = t.2;
            closed = c.1;
          };
        }
    go false q h = absurd (never (ltb x.0 (length m)) (found_at m (real_of x)) h)

-- ---- Causes

cause_free : (a : Alarm) → (1 < alarm_cause a) × (alarm_cause a < 16)
cause_free alarms.Address = (omega arith, omega arith)
cause_free alarms.Absent = (omega arith, omega arith)
cause_free alarms.MapEntry = (omega arith, omega arith)
cause_free alarms.ReadOnly = (omega arith, omega arith)
cause_free alarms.Command = (omega arith, omega arith)
cause_free alarms.Mode = (omega arith, omega arith)
cause_free alarms.Operand = (omega arith, omega arith)
cause_free alarms.Divide = (omega arith, omega arith)
cause_free alarms.NoFetch = (omega arith, omega arith)

-- the alarm of a cause
alarm_of : ℕ → Alarm
alarm_of n =
    pick (eqb n 8) alarms.Address
    (pick (eqb n 9) alarms.Absent
    (pick (eqb n 10) alarms.MapEntry
    (pick (eqb n 11) alarms.ReadOnly
    (pick (eqb n 12) alarms.Command
    (pick (eqb n 13) alarms.Mode
    (pick (eqb n 14) alarms.Operand
    (pick (eqb n 15) alarms.Divide
    alarms.NoFetch)))))))

told_by_cause : (a : Alarm) → alarm_of (alarm_cause a) ≡ a
unfolding alarm_of
told_by_cause alarms.Address = refl
told_by_cause alarms.Absent = refl
told_by_cause alarms.MapEntry = refl
told_by_cause alarms.ReadOnly = refl
told_by_cause alarms.Command = refl
told_by_cause alarms.Mode = refl
told_by_cause alarms.Operand = refl
told_by_cause alarms.Divide = refl
told_by_cause alarms.NoFetch = refl

cause_tells : (a b : Alarm) → alarm_cause a ≡ alarm_cause b → a ≡ b
cause_tells a b e = sym (told_by_cause a) ∙ ap alarm_of e ∙ told_by_cause b

-- ---- A step

unfetched : (v : View) (r : Registers) (f : ℕ) (k : Alarm) → reg r 15 < 0x1_0000_0000
    → v (record { 0 = reg r 15 }) Fetch ≡ alarm k (reg r 15) → user_command v r f ≡ alarm k (reg r 15)
unfolding user_command command_by read_from
unfetched v r f k small h = let e : wrap (wrap (reg r 15)) ≡ reg r 15 = omega arith in rw (e, h)

enters_2 : (d : Desk) (m : Memory) → user_mode d.status ≡ true
    → due 15 d.pending (level_of d.status) ≡ 0 → reg d.registers 15 < 0x1_0000_0000
    → WithoutCommands d.map m (record { 0 = reg d.registers 15 })
    → one_step d m
    ≡ concluded d (system_block_of d m) (enters 2 d.registers (reg d.registers 15) d.pending)
unfolding one_step user_step user_plan interrupted view_by of_user_command
enters_2 d m u none small there =
    let x : VirtualAddress = record { 0 = reg d.registers 15 } in
    let h = unfetched (mapped d.map m) d.registers (flags_of d.status) alarms.NoFetch small
    (fetch d.map m x there) in
    rw (u, none, h)

pub pages_without_commands : PagesWithoutCommands
unfolding whole_step I A R pages_memory pages_registers pages_desk step_at pages_ran jump_across
pages_without_commands = record {
  fetch = fetch;
  fetch_alone = fetch_alone;
  fetch_open = fetch_open;
  read = read;
  write = write;
  reached = λ map m x w. record { page = page_of x; names = names w };
  writable_reached = λ map m x w h. record { page = page_of x; names = names w; write = h };
  cause_free = cause_free;
  cause_tells = cause_tells;
  enters_2 = enters_2;
  jumped_there = refl;
  operand_byte_1 = refl;
  operand_byte_2 = refl;
  operand_byte_3 = refl;
  operand_byte_4 = refl;
  operand_byte_5 = refl;
  operand_byte_6 = refl;
  no_operand_byte = refl;
  absent = refl;
  forbidden_bit = refl;
  frame_past_memory = refl;
  page_past_map = refl;
  value_read = refl;
  pointer_read = refl;
  stack_read = refl;
  registers_read = refl;
  result_written = refl;
  stack_written = refl;
  not_written = refl;
  kernel_mode = refl;
  level_5 = refl;
  no_entry_2 = refl;
}
