-- Steps that watch the same addresses, and a run with armed addresses by what refuses it.
use Rattle.std.specs.Prelude.{Option, Some, None, Ok, Err}
use Prim.Native.Nat.{ℕ, ◌<◌}
use mathlib.Core.Path.{◌≡◌, refl, ap, fun_ext}
use mathlib.Core.Bool.{Bool, true, false}
use mathlib.Core.List.{List}
use borrow.Author.Tests.{lt-leb}
use lib.Dec.{leb}
use lib.ListN.{length, take}
use Rattle.machine.specs.declared.Desk.{Desk}
use Rattle.machine.specs.Words.{pick, Memory}
use Rattle.machine.specs.Calls.{Answer, step_refusal}
use Rattle.watch.specs.Addresses.{SameSet}
use Rattle.breakpoints.specs.declared.armed.Armed.{Armed}
use Rattle.breakpoints.specs.declared.RunToRefusal.{RunToRefusal}
use Rattle.breakpoints.specs.declared.RunToRefusal.TheVariants.{Run, Breakpoints}
use Rattle.breakpoints.specs.Breakpoints.{most}
use Rattle.breakpoints.specs.Gathered.{among_at, run_armed_of, run_to_refusal}
use Rattle.breakpoints.specs.RunTo.{RanTo, ran_to, steps_to, run_to_unless}

pub same_steps : (xs ys : List ℕ) → SameSet xs ys → (n k : ℕ) (d : Desk) (m : Memory)
    → steps_to (among_at xs) n k d m ≡ steps_to (among_at ys) n k d m
same_steps xs ys same n k d m =
    ap (λ (at : ℕ → Option ℕ). steps_to at n k d m)
    (fun_ext λ r15. ap (λ (b : Bool). pick {A = Option ℕ} b (Some 0) None) (same r15))

-- ---- A run that is refused, and one that is not

refused_unless : (q : Answer) (allowed : Bool) (d : Desk) (m : Memory) (o : RanTo) (k : RunToRefusal)
    → Err k ≡ run_to_refusal q allowed → ran_to (Err k) 0 d m ≡ run_to_unless q allowed d m o
unfolding run_to_unless
refused_unless (Err j) allowed d m o k e =
    let same : k ≡ Run j = cc in ap (λ (r : RunToRefusal). ran_to (Err r) 0 d m) same
refused_unless (Ok u) true d m o k e = cc
refused_unless (Ok u) false d m o k e =
    let same : k ≡ Breakpoints = cc in ap (λ (r : RunToRefusal). ran_to (Err r) 0 d m) same

accepted_unless : (q : Answer) (allowed : Bool) (d : Desk) (m : Memory) (o : RanTo)
    → Ok tt ≡ run_to_refusal q allowed → o ≡ run_to_unless q allowed d m o
unfolding run_to_unless
accepted_unless (Ok u) true d m o e = refl
accepted_unless (Ok u) false d m o e = cc
accepted_unless (Err k) allowed d m o e = cc

module _ (a : Armed) (n : ℕ) (d : Desk) (m : Memory) where
  pub refused_armed : (k : RunToRefusal) → Err k ≡ run_to_refusal (step_refusal d (length m)) (leb a.length most)
      → ran_to (Err k) 0 d m ≡ run_armed_of a n d m
  unfolding run_armed_of
  refused_armed k e = refused_unless _ _ d m _ k e

  pub too_many_armed : step_refusal d (length m) ≡ Ok tt → 64 < a.length
      → ran_to (Err Breakpoints) 0 d m ≡ run_armed_of a n d m
  unfolding run_armed_of run_to_unless
  too_many_armed e h = rw (e, lt-leb a.length 64 h)

  pub accepted_armed : Ok tt ≡ run_to_refusal (step_refusal d (length m)) (leb a.length most)
      → steps_to (among_at (take a.count a.addresses)) n 0 d m ≡ run_armed_of a n d m
  unfolding run_armed_of
  accepted_armed e = accepted_unless _ _ d m _ e
