-- Steps that watch no address are those of a run.
use Rattle.std.specs.Prelude.{Ok}
use Prim.Native.Nat.{ℕ}
use mathlib.Core.Path.{◌≡◌, refl, ◌∙◌}
use mathlib.Core.List.{[]}
use Rattle.machine.specs.declared.Desk.{Desk}
use Rattle.machine.specs.Words.{Memory}
use Rattle.machine.specs.Calls.{ran, steps_of}
use Rattle.watch.specs.Addresses.{among}
use Rattle.breakpoints.specs.Gathered.{among_at}
use Rattle.breakpoints.specs.RunTo.{RunToAnswer, ran_to, steps_to}
use Rattle.breakpoints.proofs.Steps.{never_held, back_to_steps}

pub unwatched : (n : ℕ) (d : Desk) (m : Memory) (a : RunToAnswer) (k : ℕ) (d' : Desk) (m' : Memory)
    → ran_to a k d' m' ≡ steps_to (among_at []) n 0 d m → ran (Ok tt) k d' m' ≡ steps_of n 0 d m
unfolding among
unwatched n d m a k d' m' e = back_to_steps n d m a k d' m' (e ∙ never_held (among_at []) (λ r15. refl) n 0 d m)
