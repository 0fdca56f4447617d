-- A run with breakpoints, one step at a time: one step more, a hold, a stop, no more steps; and what such a run is
-- beside the same run without them.
use Rattle.std.specs.Prelude.{Option, Some, None, Ok, Err}
use Prim.Native.Nat.{ℕ, zero, suc, ◌+◌, ◌-◌, ◌≤◌, ◌<◌}
use mathlib.Core.Path.{◌≡◌, refl, sym, ap, ◌∙◌}
use mathlib.Core.Bool.{Bool, true, false}
use native.Mathlib.Nat.{sub-zero}
use native.Mathlib.Omega.{arith}
use lib.ListN.{length}
use Rattle.machine.specs.declared.Desk.{Desk}
use Rattle.machine.specs.Words.{pick, Memory}
use Rattle.machine.specs.State.{reg, is_running}
use Rattle.machine.specs.Map.{commit}
use Rattle.machine.specs.Steps.{one_step}
use Rattle.machine.specs.Calls.{Answer, Ran, ran, step_outcome, steps_of}
use Rattle.machine.proofs.Accepted.{Passes, passed_step, step_lasts, steps_more, steps_stopped}
use Rattle.machine.proofs.Accepted.{steps_done}
use Rattle.machine.proofs.Writes.{commit-length}
use Rattle.breakpoints.specs.RunTo.{RunToAnswer, RanTo, ran_to, interrupt_due, hold_of, unless_held, steps_to}
use Rattle.breakpoints.specs.Holding.{unheld, after}

-- ---- One step at a time

module _ (at : ℕ → Option ℕ) where
  pub to_more : (d : Desk) (m : Memory) (p : Passes d (length m)) (i k : ℕ) → hold_of at k d ≡ None
      → steps_to at (suc i) k d m ≡ steps_to at i (suc k) (one_step d m).desk (commit (one_step d m).writes m)
  unfolding steps_to
  to_more d m p i k free = rw (p.mark, free, passed_step d m p)

  pub to_held : (i k : ℕ) (d : Desk) (m : Memory) → is_running d.mark ≡ true → (place : ℕ)
      → hold_of at k d ≡ Some place → steps_to at (suc i) k d m ≡ ran_to (Ok (Some place)) k d m
  unfolding steps_to
  to_held i k d m running place e = rw (running, e)

  pub to_stopped : (i k : ℕ) (d : Desk) (m : Memory) → is_running d.mark ≡ false
      → steps_to at i k d m ≡ ran_to (Ok None) k d m
  unfolding steps_to
  to_stopped zero k d m e = refl
  to_stopped (suc i) k d m e = rw e

  pub to_done : (i k : ℕ) (d : Desk) (m : Memory) → i ≡ 0 → steps_to at i k d m ≡ ran_to (Ok None) k d m
  unfolding steps_to
  to_done i k d m e = rw e

  -- ---- Beside a run without breakpoints

  -- a desk that is accepted while it runs
  abbrev pub Lasts : Desk → Memory → Type 0
  Lasts d m = is_running d.mark ≡ true → Passes d (length m)

  -- what became of n steps after k, j of which were made
  abbrev pub Ends : ℕ → ℕ → ℕ → Desk → Memory → RunToAnswer → Desk → Memory → Type 0
  Ends n k j d m (Err q) d' m' = ⊥
  Ends n k j d m (Ok None) d' m' = steps_of n k d m ≡ ran (Ok tt) (k + j) d' m'
  Ends n k j d m (Ok (Some place)) d' m' =
      (j < n) × (is_running d'.mark ≡ true) × (hold_of at (k + j) d' ≡ Some place)
      × (steps_of n k d m ≡ steps_of (n - j) (k + j) d' m')

  -- the desk after i of those steps
  abbrev pub desk_after : ℕ → ℕ → Desk → Memory → Desk
  desk_after i k d m = (steps_of i k d m).reply.desk

  pub record Made (n k : ℕ) (d : Desk) (m : Memory) (r : RanTo) : Type 0 where
    pub made : ℕ
    pub count : r.reply.steps ≡ k + made
    pub few : made ≤ n
    pub lasts : Lasts r.reply.desk r.memory
    pub steps : steps_of made k d m ≡ ran (Ok tt) (k + made) r.reply.desk r.memory
    pub passed : (i : ℕ) → i < made → hold_of at (k + i) (desk_after i k d m) ≡ None
    pub ends : Ends n k made d m r.reply.answer r.reply.desk r.memory

  none_made : (n k : ℕ) (d : Desk) (m : Memory) → Lasts d m → (a : RunToAnswer) → Ends n k 0 d m a d m
      → Made n k d m (ran_to a k d m)
  unfolding steps_of
  none_made n k d m lasts a ends =
      let same : k + 0 ≡ k = omega arith in
      record {
        made = 0;
        count = sym same;
        few = omega arith;
        lasts = lasts;
        steps = rw same;
        passed = λ i h. absurd (omega (arith, h));
        ends = ends;
      }

  module _ (d : Desk) (m : Memory) (p : Passes d (length m)) (n k : ℕ) (free : hold_of at k d ≡ None) where
    abbrev next : Desk
    next = (one_step d m).desk

    abbrev left : Memory
    left = commit (one_step d m).writes m

    -- what became of n steps more is what became of them with this one
    ends_more : (j : ℕ) (a : RunToAnswer) (d' : Desk) (m' : Memory) → Ends n (suc k) j next left a d' m'
        → Ends (suc n) k (suc j) d m a d' m'
    ends_more j (Err q) d' m' e = e
    ends_more j (Ok None) d' m' e =
        let same : suc k + j ≡ k + suc j = omega arith in
        steps_more d m p n k ∙ e ∙ ap (λ (i : ℕ). ran (Ok tt) i d' m') same
    ends_more j (Ok (Some place)) d' m' e =
        let same : suc k + j ≡ k + suc j = omega arith in
        let rest : suc n - suc j ≡ n - j = omega arith in (
          omega (arith, e.0),
          e.1,
          ap (λ (i : ℕ). hold_of at i d') (sym same) ∙ e.2,
          steps_more d m p n k ∙ e.3 ∙ rw (same, rest),
        )

    passed_more : (j : ℕ) → ((i : ℕ) → i < j → hold_of at (suc k + i) (desk_after i (suc k) next left) ≡ None)
        → (i : ℕ) → i < suc j → hold_of at (k + i) (desk_after i k d m) ≡ None
    passed_more j f zero h =
        let same : k + 0 ≡ k = omega arith in
        ap (λ (r : Ran). hold_of at (k + 0) r.reply.desk) (steps_done 0 k d m refl)
        ∙ ap (λ (i : ℕ). hold_of at i d) same ∙ free
    passed_more j f (suc i) h =
        let same : k + suc i ≡ suc k + i = omega arith in
        ap (λ (r : Ran). hold_of at (k + suc i) r.reply.desk) (steps_more d m p i k)
        ∙ ap (λ (i' : ℕ). hold_of at i' (desk_after i (suc k) next left)) same ∙ f i (omega (arith, h))

    one_made : (r : RanTo) → Made n (suc k) next left r → Made (suc n) k d m r
    one_made r t =
        let same : suc k + t.made ≡ k + suc t.made = omega arith in
        record {
          made = suc t.made;
          count = t.count ∙ same;
          few = omega (arith, t.few);
          lasts = t.lasts;
          steps = steps_more d m p t.made k ∙ t.steps
              ∙ ap (λ (i : ℕ). ran (Ok tt) i r.reply.desk r.memory) same;
          passed = passed_more t.made t.passed;
          ends = ends_more t.made r.reply.answer r.reply.desk r.memory t.ends;
        }

  pub to_made : (n k : ℕ) (d : Desk) (m : Memory) → Lasts d m → Made n k d m (steps_to at n k d m)
  unfolding steps_to steps_of
  to_made zero k d m lasts = none_made 0 k d m lasts (Ok None) (let same : k + 0 ≡ k = omega arith in rw same refl)
  to_made (suc n) k d m lasts =
      go (λ l. to_made n (suc k) (one_step d m).desk (commit (one_step d m).writes m) l) (is_running d.mark) refl
      (hold_of at k d) refl
    where
      same : k + 0 ≡ k
      same = omega arith

      next : Desk
      next = (one_step d m).desk

      left : Memory
      left = commit (one_step d m).writes m

      go : (Lasts next left → Made n (suc k) next left (steps_to at n (suc k) next left)) → (b : Bool)
          → is_running d.mark ≡ b → (f : Option ℕ) → hold_of at k d ≡ f
          → Made (suc n) k d m (steps_to at (suc n) k d m)
      go more true running None free =
          let p = lasts running in
          let next-lasts : Lasts next left = λ h. rw (commit-length (one_step d m).writes m) (step_lasts d m p h) in
          rw (to_more d m p n k free) (one_made d m p n k free _ (more next-lasts))
      go more true running (Some place) held =
          rw (to_held n k d m running place held)
          (none_made (suc n) k d m lasts (Ok (Some place)) (omega arith, running, rw same held, rw (same, sub-zero (suc n))))
      go more false stopped f e =
          rw (to_stopped (suc n) k d m stopped)
          (none_made (suc n) k d m lasts (Ok None) (rw same (steps_stopped (suc n) k d m stopped)))

  -- ---- What a hold tells

  pub held_tells : (k : ℕ) (d : Desk) (place : ℕ) → hold_of at k d ≡ Some place
      → (0 < k) × (interrupt_due d ≡ false) × (at (reg d.registers 15) ≡ Some place)
  unfolding hold_of
  held_tells zero d place e = absurd (let z : ◌≡◌ {A = ℕ} 0 1 = cc in omega arith)
  held_tells (suc k) d place e = go (interrupt_due d) refl e
    where
      go : (b : Bool) → interrupt_due d ≡ b → pick b None (at (reg d.registers 15)) ≡ Some place
          → (0 < suc k) × (interrupt_due d ≡ false) × (at (reg d.registers 15) ≡ Some place)
      go true u e' = absurd (let z : ◌≡◌ {A = ℕ} 0 1 = cc in omega arith)
      go false u e' = (omega arith, u, e')

  pub free_tells : (k : ℕ) (d : Desk) → 0 < k → interrupt_due d ≡ false → hold_of at k d ≡ None
      → at (reg d.registers 15) ≡ None
  unfolding hold_of
  free_tells zero d some u e = absurd (omega (arith, some))
  free_tells (suc k) d some u e = rw u at e

  -- a desk at whose R15 nothing holds
  pub unheld-at : (k : ℕ) (d : Desk) → at (reg d.registers 15) ≡ None → hold_of at k d ≡ None
  unfolding hold_of
  unheld-at zero d e = refl
  unheld-at (suc k) d e = rw e (pick_same (interrupt_due d))
    where
      pick_same : (b : Bool) → pick {A = Option ℕ} b None None ≡ None
      pick_same true = refl
      pick_same false = refl

  -- where nothing holds anywhere, the run is the one without breakpoints
  pub never_held : ((r15 : ℕ) → at r15 ≡ None) → (n k : ℕ) (d : Desk) (m : Memory)
      → steps_to at n k d m ≡ unheld (steps_of n k d m)
  unfolding steps_to steps_of
  never_held none zero k d m = refl
  never_held none (suc n) k d m =
      go (never_held none n (suc k) (step_outcome d m).desk (commit (step_outcome d m).writes m))
      (is_running d.mark)
    where
      next : Desk
      next = (step_outcome d m).desk

      left : Memory
      left = commit (step_outcome d m).writes m

      go : steps_to at n (suc k) next left ≡ unheld (steps_of n (suc k) next left) → (b : Bool)
          → pick b (unless_held (hold_of at k d) k d m (steps_to at n (suc k) next left)) (ran_to (Ok None) k d m)
          ≡ unheld (pick b (steps_of n (suc k) next left) (ran (Ok tt) k d m))
      go e true = rw (unheld-at k d (none (reg d.registers 15))) e
      go e false = refl

-- ---- Steps that are counted from k on

pub counted_from : (k n j : ℕ) (d : Desk) (m : Memory) → steps_of n (k + j) d m ≡ after k (steps_of n j d m)
unfolding steps_of
counted_from k zero j d m = refl
counted_from k (suc n) j d m =
    go (counted_from k n (suc j) (step_outcome d m).desk (commit (step_outcome d m).writes m))
    (is_running d.mark)
  where
    next : Desk
    next = (step_outcome d m).desk

    left : Memory
    left = commit (step_outcome d m).writes m

    same : k + suc j ≡ suc (k + j)
    same = omega arith

    go : steps_of n (k + suc j) next left ≡ after k (steps_of n (suc j) next left) → (b : Bool)
        → pick b (steps_of n (suc (k + j)) next left) (ran (Ok tt) (k + j) d m)
        ≡ after k (pick b (steps_of n (suc j) next left) (ran (Ok tt) j d m))
    go e true = ap (λ (i : ℕ). steps_of n i next left) (sym same) ∙ e
    go e false = refl

-- ---- Back to a run without breakpoints

steps_accepted : (n k : ℕ) (d : Desk) (m : Memory) → (steps_of n k d m).reply.answer ≡ Ok tt
unfolding steps_of
steps_accepted zero k d m = refl
steps_accepted (suc n) k d m =
    go _ (steps_accepted n (suc k) (step_outcome d m).desk (commit (step_outcome d m).writes m)) (is_running d.mark)
  where
    go : (r : Ran) → r.reply.answer ≡ Ok tt → (b : Bool)
        → (pick b r (ran (Ok tt) k d m)).reply.answer ≡ Ok tt
    go r e true = e
    go r e false = refl

pub back_to_steps : (n : ℕ) (d : Desk) (m : Memory) (a : RunToAnswer) (k : ℕ) (d' : Desk) (m' : Memory)
    → ran_to a k d' m' ≡ unheld (steps_of n 0 d m) → ran (Ok tt) k d' m' ≡ steps_of n 0 d m
back_to_steps n d m a k d' m' e =
    let s = steps_of n 0 d m in
    ap (λ (r : RanTo). ran (Ok tt) r.reply.steps r.reply.desk r.memory) e
    ∙ ap (λ (q : Answer). ran q s.reply.steps s.reply.desk s.memory) (sym (steps_accepted n 0 d m))
