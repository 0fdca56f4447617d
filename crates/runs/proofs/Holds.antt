-- A hold before a step, by the interrupt that is due and the watched addresses.
use Rattle.std.specs.Prelude.{Option, Some, None}
use Prim.Native.Nat.{ℕ, zero, suc, ◌<◌}
use mathlib.Core.Path.{◌≡◌, refl}
use mathlib.Core.Bool.{Bool, true, false, ◌&&◌}
use mathlib.Core.List.{List}
use native.Mathlib.Omega.{arith}
use borrow.Author.Tests.{lt-ltb, le-ltb, ne_eqb}
use lib.Dec.{ltb, eqb}
use Rattle.machine.specs.declared.Desk.{Desk}
use Rattle.machine.specs.Words.{pick}
use Rattle.machine.specs.State.{reg, user_mode, level_of}
use Rattle.machine.specs.Steps.{due}
use Rattle.watch.specs.Addresses.{among}
use Rattle.breakpoints.specs.Gathered.{among_at}
use Rattle.breakpoints.specs.RunTo.{interrupt_due, hold_of}
use Rattle.breakpoints.proofs.Steps.{unheld-at}
use Rattle.levels.specs.Due.{interrupt_of}

-- ---- An interrupt is due

module _ (d : Desk) where
  pub is_due : 0 < interrupt_of d.status d.pending → interrupt_due d ≡ true
  unfolding interrupt_of interrupt_due
  is_due h = go (user_mode d.status) h
    where
      level : ℕ
      level = due 15 d.pending (level_of d.status)

      go : (b : Bool) → 0 < pick b level 0 → (b && ltb 0 level) ≡ true
      go true g = lt-ltb 0 level g
      go false g = absurd (omega (arith, g))

  pub none-due : interrupt_of d.status d.pending ≡ 0 → interrupt_due d ≡ false
  unfolding interrupt_of interrupt_due
  none-due e = go (user_mode d.status) e
    where
      level : ℕ
      level = due 15 d.pending (level_of d.status)

      go : (b : Bool) → pick b level 0 ≡ 0 → (b && ltb 0 level) ≡ false
      go true g = le-ltb 0 level (omega (arith, g))
      go false g = refl

-- ---- Whether a run is held

module _ (addresses : List ℕ) (d : Desk) where
  abbrev at : ℕ → Option ℕ
  at = among_at addresses

  pub due_first : (k : ℕ) → 0 < interrupt_of d.status d.pending → hold_of at k d ≡ None
  unfolding hold_of
  due_first zero h = refl
  due_first (suc k) h = rw (is_due d h)

  pub elsewhere : (k : ℕ) → among (reg d.registers 15) addresses ≡ false → hold_of at k d ≡ None
  elsewhere k e = unheld-at at k d (rw e)

  -- as `held_at` tells it

  pub told_some : (k : ℕ) → pick (eqb k 0) false (among (reg d.registers 15) addresses) ≡ true → 0 < k
  told_some zero e = absurd (let z : ◌≡◌ {A = ℕ} 0 1 = cc in omega arith)
  told_some (suc k) e = omega arith

  pub told_held : (k : ℕ) → interrupt_of d.status d.pending ≡ 0
      → pick (eqb k 0) false (among (reg d.registers 15) addresses) ≡ true → hold_of at k d ≡ Some 0
  unfolding hold_of
  told_held zero none e = absurd (let z : ◌≡◌ {A = ℕ} 0 1 = cc in omega arith)
  told_held (suc k) none e =
      let met : among (reg d.registers 15) addresses ≡ true = rw (ne_eqb (suc k) 0 (λ z. omega (arith, z))) at e in
      rw (none-due d none, met)

  pub told_free : (k : ℕ) → pick (eqb k 0) false (among (reg d.registers 15) addresses) ≡ false
      → hold_of at k d ≡ None
  unfolding hold_of
  told_free zero e = refl
  told_free (suc k) e = elsewhere (suc k) (rw (ne_eqb (suc k) 0 (λ z. omega (arith, z))) at e)
