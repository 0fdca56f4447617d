-- Not the request, but how the call is made: the addresses of the armed breakpoints as plain data, a run over them,
-- and the place of a hold, which is found afterwards.
use Rattle.std.specs.Bool.{then_some}
use Rattle.std.specs.Prelude.{◌≡◌, ℕ, ◌+◌, ◌≤◌, Bool, List, [], ◌∷◌, leb, length, take, set, Option, Some, None, Result, Ok, Err}
use Rattle.machine.specs.declared.Desk.{Desk}
use Rattle.machine.specs.Words.{pick, Memory}
use Rattle.machine.specs.State.{reg}
use Rattle.machine.specs.Calls.{Answer, step_refusal}
use Rattle.watch.specs.Addresses.{among}
use Rattle.breakpoints.specs.declared.armed.Addresses.{Addresses}
use Rattle.breakpoints.specs.declared.armed.Armed.{Armed}
use Rattle.breakpoints.specs.declared.Breakpoint.{Breakpoint}
use Rattle.breakpoints.specs.declared.RunToRefusal.{RunToRefusal}
use Rattle.breakpoints.specs.declared.RunToRefusal.TheVariants.{Run, Breakpoints}
use Rattle.breakpoints.specs.declared.RunToReply.{RunToReply}
use Rattle.breakpoints.specs.Breakpoints.{most}
use Rattle.breakpoints.specs.RunTo.{RunToAnswer, RanTo, steps_to, run_to_unless}

-- the addresses of the armed ones, in the list's order
unfoldable pub armed_addresses : List Breakpoint → List ℕ
armed_addresses [] = []
armed_addresses (p ∷ ps) = pick p.armed (p.r15.0 ∷ armed_addresses ps) (armed_addresses ps)

-- the armed ones of ps are gathered in a, where there are not too many
pub record Gathers (a : Armed) (ps : List Breakpoint) : Type 0 where
  pub long : a.length ≡ length ps
  pub few : length ps ≤ most → (a.count ≤ most) × (take a.count a.addresses ≡ armed_addresses ps)

-- with one address more
abbrev pub with_address : Addresses → ℕ → Addresses
with_address a address = record { addresses = set a.addresses a.count address; count = a.count + 1 }

-- one more breakpoint is gathered, where there is room for its address
unfoldable pub with_one : Addresses → Breakpoint → Addresses
with_one a p = pick p.armed (pick (leb most a.count) a (with_address a p.r15.0)) a

-- ---- A run whose breakpoints are plain data: where it was held is known, by which one is not

-- a hold at each of these addresses
abbrev pub among_at : List ℕ → ℕ → Option ℕ
among_at addresses r15 = pick (among r15 addresses) (Some 0) None

-- why such a run is refused, by the run's own refusal and by whether the list's length is allowed
abbrev pub run_to_refusal : Answer → Bool → Result (Unit {0}) RunToRefusal
run_to_refusal (Err k) allowed = Err (Run k)
run_to_refusal (Ok u) allowed = pick allowed (Ok tt) (Err Breakpoints)

unfoldable pub run_armed_of : Armed → ℕ → Desk → Memory → RanTo
run_armed_of a n d m =
    run_to_unless (step_refusal d (length m)) (leb a.length most) d m
    (steps_to (among_at (take a.count a.addresses)) n 0 d m)

-- the place of a hold is the one that was found
abbrev pub placed_answer : RunToAnswer → Option ℕ → RunToAnswer
placed_answer (Err k) found = Err k
placed_answer (Ok None) found = Ok None
placed_answer (Ok (Some i)) found = Ok found

unfoldable pub placed_reply : RunToReply → Option ℕ → RunToReply
placed_reply r found = record { answer = placed_answer r.answer found; steps = r.steps; desk = r.desk }

-- with the first armed breakpoint at the R15 that the run has left
abbrev pub placed_by : (ℕ → Option ℕ) → RanTo → RanTo
placed_by at r =
    record { reply = placed_reply r.reply (at (reg r.reply.desk.registers 15)); memory = r.memory }

-- the answer of a run over addresses, by whether it was held
abbrev pub held_answer : Bool → RunToAnswer
held_answer held = Ok (then_some held 0)
