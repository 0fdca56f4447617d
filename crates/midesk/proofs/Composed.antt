-- What the callees of `midesk_run_to` come to together: a run on bytes with the armed addresses, and the code once the
-- list was searched, are the call with the list.
use Rattle.std.specs.Prelude.{Option, Some, None, Ok, Err}
use Prim.Native.Nat.{ℕ, ◌<◌}
use mathlib.Core.Path.{◌≡◌, refl, sym, ap, ◌∙◌}
use mathlib.Core.List.{List}
use native.Mathlib.Nat.{lt_of_lt_of_le}
use borrow.Author.Tests.{lt-ltb}
use lib.ListN.{take}
use Rattle.machine.specs.Words.{Memory}
use Rattle.breakpoints.specs.declared.armed.Armed.{Armed}
use Rattle.breakpoints.specs.declared.Breakpoint.{Breakpoint}
use Rattle.breakpoints.specs.Breakpoints.{first_armed, most}
use Rattle.breakpoints.specs.RunTo.{RunToAnswer}
use Rattle.breakpoints.specs.Gathered.{Gathers, placed_answer, placed_reply}
use Rattle.breakpoints.proofs.FirstArmed.{is_first}
use Rattle.breakpoints.proofs.Looked.{looked-few}
use Rattle.breakpoints.proofs.Placing.{placed_run}
use Rattle.layout.specs.Layout.{unpacked}
use Rattle.midesk.specs.Exports.{RunLeft, run_to_code, run_to_left, run_to_call}
use Rattle.midesk.specs.Unplaced.{BytesLeft, bytes_left, run_bytes_of, code_by}

-- the code is that of the answer with its place
placed_code : (q : RunToAnswer) (f : Option ℕ) → ((i : ℕ) → f ≡ Some i → i < most)
    → code_by q f ≡ run_to_code (placed_answer q f)
placed_code (Err k) f small = refl
placed_code (Ok None) f small = refl
placed_code (Ok (Some i)) None small = refl
placed_code (Ok (Some i)) (Some place) small = rw (lt-ltb place most (small place refl))

-- a place in the first 64 breakpoints is below 64
small_place : (r15 : ℕ) (ps : List Breakpoint) (i : ℕ) → first_armed r15 (take most ps) ≡ Some i → i < most
small_place r15 ps i e =
    lt_of_lt_of_le (is_first r15 (take most ps) i e).within (looked-few ps)

-- b is what `run_bytes` leaves, f what `first_armed` finds, and k the code
pub composed : (a : Armed) (ps : List Breakpoint) (n : ℕ) (s : List ℕ) (m : Memory) (b : BytesLeft) (f : Option ℕ) (k : ℕ)
    → Gathers a ps → b ≡ run_bytes_of a n s m → f ≡ first_armed b.unplaced.r15 (take most ps)
    → k ≡ code_by b.unplaced.answer f
    → record { answer = k; steps = b.steps; state = b.state; memory = b.memory } ≡ run_to_call ps n s m
unfolding run_to_call run_to_left run_bytes_of bytes_left placed_reply
composed a ps n s m b f k gathers left found is_code =
    ap (with b) is_code
    ∙ ap (with b) (placed_code b.unplaced.answer f (λ i e. small_place _ ps i (sym found ∙ e)))
    ∙ ap (λ (g : Option ℕ). with b (run_to_code (placed_answer b.unplaced.answer g))) found
    ∙ ap (λ (x : BytesLeft). with x
    (run_to_code (placed_answer x.unplaced.answer (first_armed x.unplaced.r15 (take most ps))))) left
    ∙ ap run_to_left (placed_run a ps gathers n (unpacked s) m)
  where
    with : BytesLeft → ℕ → RunLeft
    with x c = record { answer = c; steps = x.steps; state = x.state; memory = x.memory }
