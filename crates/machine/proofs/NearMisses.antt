-- Document 01, "Near misses", and other errors that would be silent: whole steps in which each of
-- them would show, by computation.
use Rattle.std.specs.Prelude.{Ok}
use Prim.Native.Nat.{ℕ, ◌+◌, ◌*◌}
use mathlib.Core.Path.{◌≡◌, refl}
use mathlib.Core.List.{List, [], ◌∷◌, ◌++◌}
use lib.ListN.{replicate, set, take}
use lib.Seq.{sets}
use Rattle.machine.specs.declared.Mark.TheVariants.{Running, Stopped}
use Rattle.machine.specs.declared.Desk.{Desk}
use Rattle.machine.specs.declared.StepEvent.TheVariants as step_event
use Rattle.machine.specs.Words.{Memory, bytes_of, bytes_of_words, word_at}
use Rattle.machine.specs.State.{Registers, reg, saved_bytes, desk_with}
use Rattle.machine.specs.Calls.{StepAnswer, Stepped, step_of, fresh_desk, run_of, run_unless, steps_of}
use Rattle.machine.specs.TriedValues.{I, A, R, memory_with, kernel_desk, ran_on, register_after, flags_after}
use Rattle.machine.proofs.WholeStep.{whole_step}

-- ---- Operands

-- register x as an address, then raised: form 8
unfoldable pub raising : ℕ → List ℕ
raising x = 8 ∷ 16 * x ∷ 0 ∷ 0 ∷ 0 ∷ 0 ∷ []

-- register 0 in the forms 4, 6 and 7, with the word z
unfoldable pub F : ℕ → ℕ → List ℕ
F form z = form ∷ 0 ∷ bytes_of 4 z

-- ---- Desks

-- the desk of the tried values in kernel mode, with all four flags set before the step
unfoldable pub ran_on_flags : ℕ → List ℕ → Stepped
ran_on_flags x code =
    step_of (desk_with (kernel_desk 0 x) (kernel_desk 0 x).registers 0x8000_000F 0 Running) (memory_with 512 code)

-- a stop with a number, and all else as before the command
unfoldable pub stops_with : ℕ → ℕ → List ℕ → Stepped
stops_with n x code = record {
  reply = record {
    answer = Ok (step_event.Stopped n);
    desk = desk_with (kernel_desk 0 x) (kernel_desk 0 x).registers 0x8000_0000 0 (Stopped n);
  };
  memory = memory_with 512 code;
}

-- the map: page 0 is frame 2 and page 1 is frame 1, both writable; page 2 is absent, the other bits
-- all set; page 3 has a forbidden bit; the frame of page 4 lies past the memory; page 5 is frame 1,
-- not writable
abbrev pub user_map : List ℕ
user_map = 0xC000_0002 ∷ 0xC000_0001 ∷ 0x7FFF_FFFF ∷ 0xC100_0001 ∷ 0xC000_0003 ∷ 0x8000_0001 ∷ []

-- 1,536 bytes: entry i of the system block holds 100h and a kernel status; the map is at 400; the
-- code stands at 16 of page 0; frame 1 starts with 7 8, and frame 2 ends with 5 6
unfoldable pub user_memory : ℕ → List ℕ → Memory
user_memory i code =
    sets (sets (sets (sets (sets (replicate 1536 0) (8 * i) (bytes_of_words (0x100 ∷ 0x8000_0000 ∷ []))) 400
    (bytes_of_words user_map)) 512 (7 ∷ 8 ∷ [])) 1534 (5 ∷ 6 ∷ [])) 1040 code

-- R0 to R13 are 7, SP is given, R15 is 16
unfoldable pub user_registers : ℕ → Registers
user_registers sp = replicate 14 7 ++ sp ∷ 16 ∷ []

-- in user mode, with a map of so many entries
unfoldable pub user_desk : ℕ → ℕ → Desk
user_desk entries sp = record {
  registers = user_registers sp;
  status = 0;
  pending = 0;
  map = record { base = record { 0 = 400 }; length = entries };
  system = record { 0 = 0 };
  control = record { 0 = 256 };
  mark = Running;
}

unfoldable pub user_ran : ℕ → ℕ → ℕ → List ℕ → Stepped
user_ran i entries sp code = step_of (user_desk entries sp) (user_memory i code)

-- kernel entry i of desk d: saved are the registers r, the status and the argument x, the pending
-- set p is left, and nothing else is written
unfoldable pub enters : ℕ → Desk → List ℕ → Registers → ℕ → ℕ → Stepped
enters i d code r x p = record {
  reply = record { answer = Ok (step_event.Entered i); desk = desk_with d (set r 15 0x100) 0x8000_0000 p Running };
  memory = sets (user_memory i code) 256 (saved_bytes r d.status x);
}

-- and that of an alarm: the registers are those before the command, R15 too
unfoldable pub enters_with : ℕ → ℕ → ℕ → List ℕ → ℕ → Stepped
enters_with i entries sp code x = enters i (user_desk entries sp) code (user_registers sp) x 0

-- what it tells of an alarm: the answer, and the argument, at 68 of the control block
abbrev pub told : Stepped → StepAnswer × ℕ
told s = (s.reply.answer, word_at s.memory 324)

-- at level 3, with a pending set
unfoldable pub level_desk : ℕ → Desk
level_desk p = desk_with (user_desk 1 0) (user_registers 0) 0x30 p Running

-- R0 to R15 are 1 to 16, status 31h, argument 99, map base 400, map length 2: a control block, at
-- 300
abbrev pub block : List ℕ
block = 1 ∷ 2 ∷ 3 ∷ 4 ∷ 5 ∷ 6 ∷ 7 ∷ 8 ∷ 9 ∷ 10 ∷ 11 ∷ 12 ∷ 13 ∷ 14 ∷ 15 ∷ 16 ∷ 0x31 ∷ 99 ∷ 400 ∷ 2 ∷ []

-- RESUME of it
unfoldable pub resume_memory : Memory
resume_memory = sets (memory_with 512 (0x05 ∷ A 300)) 300 (bytes_of_words block)

-- MOVE W I 01020304h to 510
abbrev pub storing : List ℕ
storing = 0x12 ∷ I 0x0102_0304 ++ A 510

-- MOVE W from 510 to R0
abbrev pub reading : List ℕ
reading = 0x12 ∷ A 510 ++ R 0

-- MOVE B I 1 to a
abbrev pub storing_at : ℕ → List ℕ
storing_at a = 0x10 ∷ I 1 ++ A a

-- MOVE B from the address in R0, which is raised, to 600
abbrev pub loading : List ℕ
loading = 0x10 ∷ raising 0 ++ A 600

unfoldable pub after_call : Stepped
after_call = step_of (kernel_desk 14 500) (memory_with 512 (0x79 ∷ A 408 ++ 0x00 ∷ 0x7A ∷ []))

unfoldable pub after_ret : Stepped
after_ret = step_of after_call.reply.desk after_call.memory

-- the desk and the memory of the paper's trace
unfoldable pub fresh : Desk
fresh = fresh_desk (record { 0 = 0 }) (record { 0 = 256 }) (record { 0 = 512 })

unfoldable pub program : Memory
program =
    sets (replicate 1024 0) 512
    (0x10 ∷ 0x01 ∷ 0x00 ∷ 0x00 ∷ 0x00 ∷ 0x00 ∷ 0x02 ∷ 0x02 ∷ 0x00 ∷ 0x00 ∷ 0x00 ∷ 0x00 ∷ 0x00 ∷ [])

-- ---- What each error would break

pub record NearMisses : Type 0 where
  -- "SUB and CMP leaving N the same way round": CMP W I 3,I 2 and SUB W I 3 from 2; SUB W I 2 from
  -- 3, beside *5, which is CMP W I 2,I 3
  pub compare_3_2 : flags_after (ran_on 0 (0x66 ∷ I 3 ++ I 2)) ≡ 0
  pub subtract_3_2 : flags_after (ran_on 2 (0x4A ∷ I 3 ++ R 0)) ≡ 8 + 1
  pub subtract_2_3 : flags_after (ran_on 3 (0x4A ∷ I 2 ++ R 0)) ≡ 0
  -- "lookup of only the first byte of a W"; "a W at user address 510 needs pages 0 and 1"
  pub one_page : user_ran 8 1 0 storing ≡ enters_with 8 1 0 storing 512
  pub two-pages : (user_ran 8 2 0 storing).memory ≡ sets (sets (user_memory 8 storing) 1534 (1 ∷ 2 ∷ [])) 512
      (3 ∷ 4 ∷ [])
  pub read-two-pages : register_after 0 (user_ran 8 2 0 reading) ≡ 0x0506_0708
  -- "keeping form 8's raise after an alarm": it is done with R1 for destination, and undone with
  -- 600, past the memory and past the map's one page
  pub raise : register_after 0 (ran_on 300 (0x10 ∷ raising 0 ++ R 1)) ≡ 301
  pub raise_undone : ran_on 300 loading ≡ stops_with 8 300 loading
  pub raise_undone_in_user_mode : user_ran 8 1 0 loading ≡ enters_with 8 1 0 loading 600
  -- "writing half of PUSHR before page two fails": the new SP is 480
  pub push_across_pages : user_ran 8 1 540 (0x01 ∷ []) ≡ enters_with 8 1 540 (0x01 ∷ []) 512
  -- with SP = 40 the new SP wraps
  pub push_wraps : user_ran 8 1 40 (0x01 ∷ []) ≡ enters_with 8 1 40 (0x01 ∷ []) 0xFFFF_FFEC
  -- POPR "literally": R14 is what was stored for it, here 0, and then raised
  pub pop : register_after 14 (step_of (kernel_desk 14 440) (memory_with 512 (0x02 ∷ []))) ≡ 4
  -- 04h is no command: "In kernel mode an alarm stops the desk with its number and all else as
  -- before the command"
  pub unknown_command : ran_on 5 (0x04 ∷ []) ≡ stops_with 12 5 (0x04 ∷ [])
  -- "saved R15 of an alarm past the command": in user mode its argument is the command byte, and
  -- the saved R15 that of the command
  pub unknown_command_in_user_mode : user_ran 12 1 0 (0x04 ∷ []) ≡ enters_with 12 1 0 (0x04 ∷ []) 4
  -- alarms 9 to 11, with the byte's virtual address; a page that is not writable is read, and run:
  -- at 2562 stands HALT
  pub absent : told (user_ran 9 6 0 (storing_at 1030)) ≡ (Ok (step_event.Entered 9), 1030)
  pub forbidden_bit : told (user_ran 10 6 0 (storing_at 1540)) ≡ (Ok (step_event.Entered 10), 1540)
  pub frame_past_memory : told (user_ran 10 6 0 (storing_at 2050)) ≡ (Ok (step_event.Entered 10), 2050)
  pub read_only : told (user_ran 11 6 0 (storing_at 2561)) ≡ (Ok (step_event.Entered 11), 2561)
  pub read_only_read : register_after 0 (user_ran 11 6 0 (0x10 ∷ A 2561 ++ R 0)) ≡ 8
  pub read_only_run : told
      (step_of (desk_with (user_desk 6 0) (set (user_registers 0) 15 2562) 0 0 Running) (user_memory 13 []))
      ≡ (Ok (step_event.Entered 13), 0)
  -- 13, with the command byte: RESUME in user mode; a system call in kernel mode
  pub resume_in_user_mode : told (user_ran 13 1 0 (0x05 ∷ A 300)) ≡ (Ok (step_event.Entered 13), 5)
  pub call_in_kernel_mode : ran_on 5 (0x03 ∷ I 1) ≡ stops_with 13 5 (0x03 ∷ I 1)
  -- 14, with "the operand's place from 1": the value 1 is no destination. 15: DIV W I 0,R0
  pub no_destination : told (user_ran 14 1 0 (0x10 ∷ I 1 ++ I 1)) ≡ (Ok (step_event.Entered 14), 2)
  pub divide_by_zero : told (user_ran 15 1 0 (0x5A ∷ I 0 ++ R 0)) ≡ (Ok (step_event.Entered 15), 0)
  -- 16: entry 12 holds no kernel status; "all else as before the command", and nothing saved
  pub no_kernel_status : user_ran 8 1 0 (0x04 ∷ [])
      ≡ record {
        reply = record
            { answer = Ok (step_event.Stopped 16); desk = desk_with (user_desk 1 0) (user_registers 0) 0 0 (Stopped 16) };
        memory = user_memory 8 (0x04 ∷ []);
      }
  -- a system call: "argument its value, saved R15 the next command"
  pub system_call_lem : user_ran 1 1 0 (0x03 ∷ I 0x1234) ≡ enters 1 (user_desk 1 0) (0x03 ∷ I 0x1234)
      (set (user_registers 0) 15 23) 0x1234 0
  -- levels 3, 4 and 5 are pending at level 3: 5 is entered, and its bit cleared. With 3 alone MOVE
  -- B I 80h,R0 is done, and mode, level and pending set stay
  pub interrupt : step_of (level_desk 0x38) (user_memory 21 []) ≡ enters 21 (level_desk 0x38) [] (user_registers 0) 5 0x18
  pub no_interrupt : (step_of (level_desk 0x08) (user_memory 19 (0x10 ∷ I 0x80 ++ R 0))).reply
      ≡ record {
        answer = Ok step_event.Done;
        desk = desk_with (user_desk 1 0)
            (set (set (user_registers 0) 0 0x80) 15 29) 0x38 0x08 Running;
      }
  -- RESUME loads all but the argument; "A block that doesn't fit is alarm 14, never 8"
  pub resumes : step_of (kernel_desk 0 5) resume_memory
      ≡ record {
        reply = record {
          answer = Ok step_event.Done;
          desk = record {
            registers = take 16 block;
            status = 0x31;
            pending = 0;
            map = record { base = record { 0 = 400 }; length = 2 };
            system = record { 0 = 0 };
            control = record { 0 = 300 };
            mark = Running;
          };
        };
        memory = resume_memory;
      }
  pub block_past_memory : ran_on 5 (0x05 ∷ A 436) ≡ stops_with 14 5 (0x05 ∷ A 436)
  -- the flags of *3 to *6 come out the same where all four were set before
  pub flags_of_3 : flags_after (ran_on_flags 0x7F (0x40 ∷ I 1 ++ R 0)) ≡ 8 + 2
  pub flags_of_4 : flags_after (ran_on_flags 0 (0x48 ∷ I 1 ++ R 0)) ≡ 8 + 1
  pub flags_of_5 : flags_after (ran_on_flags 0 (0x66 ∷ I 2 ++ I 3)) ≡ 8
  pub flags_of_6 : flags_after (ran_on_flags 0x80 (0x58 ∷ I 0xFF ++ R 0)) ≡ 8 + 2
  -- MOVEA to R1, with R0 = 10 and L = 4: 100 + 10 + 10 × 4; the word at 392 + 10, which is 1, + 10
  -- × 4; 10 - 4, which is R0 then
  pub form_4 : register_after 1 (ran_on 10 (0x20 ∷ F 4 100 ++ R 1)) ≡ 150
  pub form_6 : register_after 1 (ran_on 10 (0x20 ∷ F 6 392 ++ R 1)) ≡ 41
  pub form_7 : (register_after 1 (ran_on 10 (0x20 ∷ F 7 0 ++ R 1)) ≡ 6)
      × (register_after 0 (ran_on 10 (0x20 ∷ F 7 0 ++ R 1)) ≡ 6)
  -- CALL of 408 with SP = 500, and the RET there: the next address, 407, is stored at 496
  pub call : (register_after 15 after_call ≡ 408) × (register_after 14 after_call ≡ 496)
      × (word_at after_call.memory 496 ≡ 407)
  pub return : (register_after 15 after_ret ≡ 407) × (register_after 14 after_ret ≡ 500)
  -- the second step of a run does what its command says: MOVE B I 2,R0 and MOVE B I 3,R1
  pub second_step : reg
      (run_of 2 (kernel_desk 0 0) (memory_with 512 (0x10 ∷ I 2 ++ R 0 ++ 0x10 ∷ I 3 ++ R 1))).reply.desk.registers 1 ≡ 3
  -- what the paper's trace prints: 20Dh after step 1, 20Eh after step 2, both with status
  -- 80000000h, and stop 0
  pub trace_1 : (run_of 1 fresh program).reply.desk ≡ desk_with fresh
      (2 ∷ replicate 14 0 ++ 0x20D ∷ []) 0x8000_0000 0 Running
  pub trace : run_of 1000 fresh program
      ≡ record {
        reply = record {
          answer = Ok tt;
          steps = 2;
          desk = desk_with fresh (2 ∷ replicate 14 0 ++ 0x20E ∷ []) 0x8000_0000 0
              (Stopped 0);
        };
        memory = program;
      }

pub near_misses : NearMisses
unfolding whole_step I R memory_with kernel_desk ran_on A raising F ran_on_flags stops_with user_memory user_registers
    user_desk user_ran enters enters_with level_desk resume_memory after_call after_ret fresh program run_of run_unless steps_of
near_misses = record {
  compare_3_2 = refl;
  subtract_3_2 = refl;
  subtract_2_3 = refl;
  one_page = refl;
  two-pages = refl;
  read-two-pages = refl;
  raise = refl;
  raise_undone = refl;
  raise_undone_in_user_mode = refl;
  push_across_pages = refl;
  push_wraps = refl;
  pop = refl;
  unknown_command = refl;
  unknown_command_in_user_mode = refl;
  absent = refl;
  forbidden_bit = refl;
  frame_past_memory = refl;
  read_only = refl;
  read_only_read = refl;
  read_only_run = refl;
  resume_in_user_mode = refl;
  call_in_kernel_mode = refl;
  no_destination = refl;
  divide_by_zero = refl;
  no_kernel_status = refl;
  system_call_lem = refl;
  interrupt = refl;
  no_interrupt = refl;
  resumes = refl;
  block_past_memory = refl;
  flags_of_3 = refl;
  flags_of_4 = refl;
  flags_of_5 = refl;
  flags_of_6 = refl;
  form_4 = refl;
  form_6 = refl;
  form_7 = (refl, refl);
  call = (refl, refl, refl);
  return = (refl, refl);
  second_step = refl;
  trace_1 = refl;
  trace = refl;
}
