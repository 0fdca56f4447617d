-- Commands in a row: one more that ends quietly, and one that does not.
use Rattle.std.specs.Prelude.{Result, Ok, Err, Option, Some, None}
use Rattle.std.specs.Option.{is_some}
use Prim.Native.Nat.{ℕ, ◌+◌, ◌≤◌, ◌<◌}
use mathlib.Core.Path.{◌≡◌, refl, sym, ap, subst, ◌∙◌}
use mathlib.Core.Bool.{true, false}
use mathlib.Core.List.{List}
use mathlib.Core.Logic.{inr}
use native.Mathlib.Decide.{dec_lt}
use native.Mathlib.Numerals.{add-one}
use native.Mathlib.Omega.{arith}
use lib.ListN.{length}
use Rattle.machine.specs.declared.Fault.{Fault}
use Rattle.machine.specs.declared.Map.{Map}
use Rattle.machine.specs.Words.{Memory}
use Rattle.machine.specs.State.{Registers, reg}
use Rattle.watch.specs.Addresses.{among}
use Rattle.results.specs.declared.Out.{Out}
use Rattle.results.specs.declared.Out.TheVariants as out
use Rattle.results.specs.Ends.{command_done, out_as}
use Rattle.commands.specs.Execution.{exec_of}
use Rattle.quick.specs.Quietly.{Quietly}
use Rattle.execution.specs.Rows.{followed, in_row, Elsewhere, Passed, Paused, Halfway, Rowed}
use Rattle.execution.proofs.Kept.{Kept, exec_kept}

-- k commands from status s, registers r and memory m ended quietly, with registers q, status t and
-- memory y
pub record Quiet (s : ℕ) (map : Map) (r : Registers) (m : Memory) (k : ℕ) (q : Registers) (t : ℕ)
    (y : Memory) : Type 0 where
  pub same : length y ≡ length m
  pub row : command_done q t y ≡ in_row k s map r m

pub none_yet : (s : ℕ) (map : Map) (r : Registers) (m : Memory) → Quiet s map r m 0 r s m
unfolding in_row
none_yet s map r m = record { same = refl; row = refl }

-- ---- No watched address was reached

module _ (addresses : List ℕ) (s : ℕ) (map : Map) (r : Registers) (m : Memory) where
  pub none_passed : Passed addresses 1 s map r m
  none_passed j some h = absurd (omega (arith, some, h))

  -- of fewer commands too
  pub passed_fewer : (k : ℕ) → Passed addresses (k + 1) s map r m → Passed addresses k s map r m
  passed_fewer k f j some h = f j some (omega (arith, h))

  passed_more : (k : ℕ) → Passed addresses k s map r m → Elsewhere addresses (in_row k s map r m)
      → Passed addresses (k + 1) s map r m
  passed_more k f e j some h = go (dec_lt j k)
    where
      go : Dec (j < k) → Elsewhere addresses (in_row j s map r m)
      go (yes l) = f j some l
      go (no l) = let last : j ≡ k = omega (arith, h, l) in rw last e

-- ---- The quick way

module _ (s : ℕ) (map : Map) (r : Registers) (m : Memory) (q : Registers) (n : Memory) where
  -- it was not sure
  pub unsure : (o : Option ℕ) → is_some o ≡ false → Quietly s map r m q n o → (q ≡ r) × (n ≡ m)
  unsure None e f = f
  unsure (Some t) e f = absurd (let z : true ≡ false = e in cc)

  pub sure : (o : Option ℕ) → {t : ℕ} → o ≡ Some t → Quietly s map r m q n o
      → command_done q t n ≡ exec_of s map r m
  sure o e f = rw e at f

-- a command that ended so did not end quietly
abbrev pub Unquiet : Out → Type 0
Unquiet o = (u : ℕ) → o ≡ out.Done u → ⊥

module _ {s : ℕ} {map : Map} {r : Registers} {m : Memory} {k : ℕ} {q : Registers} {t : ℕ} {y : Memory}
    (b : Quiet s map r m k q t y) where
  -- where the quick way was not sure
  pub unchanged : {w : Registers} {z : Memory} → (w ≡ q) × (z ≡ y) → Quiet s map r m k w t z
  unchanged same = rw (same.0, same.1) b

  -- one more
  pub one_more : {w : Registers} {u : ℕ} {z : Memory} → length z ≡ length y → command_done w u z ≡ exec_of t map q y
      → Quiet s map r m (k + 1) w u z
  unfolding in_row
  one_more long e = record { same = long ∙ b.same; row = rw add-one (e ∙ ap (followed map) b.row) }

  module _ (addresses : List ℕ) (passed : Passed addresses (k + 1) s map r m) {n : ℕ} (left : k < n) (w : Registers)
      (z : Memory) where
    -- one more, which does not end quietly
    ends : (o : Result Out Fault) → (Kept t y (out_as o w z) → z ≡ y) → out_as o w z ≡ exec_of t map q y
        → Halfway addresses n s map r m q t k w z o
    ends o f e =
        let kept : Kept t y (out_as o w z) = rw e (exec_kept t y map q) in
        let same : z ≡ y = f kept in
        record { more = left; quiet = rw same b.row; passed = passed; next = e ∙ ap (exec_of t map q) (sym same) }

    pub one_alarms : (e : Fault) → out_as (Err e) w z ≡ exec_of t map q y
        → Halfway addresses n s map r m q t k w z (Err e)
    one_alarms e f = ends (Err e) (λ g. g) f

    -- neither quietly nor by an alarm
    pub one_ends : (o : Out) → Unquiet o → out_as (Ok o) w z ≡ exec_of t map q y
        → Rowed addresses n s map r m q t k w z (Ok o)
    one_ends (out.Done u) h e = absurd (h u refl)
    one_ends (out.System x) h e = ends (Ok (out.System x)) (λ g. g) e
    one_ends out.Halt h e = ends (Ok out.Halt) (λ g. g) e
    one_ends (out.Resume a) h e = ends (Ok (out.Resume a)) (λ g. g) e

-- ---- One more, and whether the next is at one of the addresses

module _ (addresses : List ℕ) {s : ℕ} {map : Map} {r : Registers} {m : Memory} {k : ℕ} where
  passed_one : {q : Registers} {t : ℕ} {y : Memory} → Quiet s map r m k q t y → Passed addresses k s map r m
      → among (reg q 15) addresses ≡ false → Passed addresses (k + 1) s map r m
  passed_one b f e = passed_more addresses s map r m k f (subst (Elsewhere addresses) b.row e)

module _ (addresses : List ℕ) {s : ℕ} {map : Map} {r : Registers} {m : Memory} {k : ℕ} {q : Registers} {t : ℕ}
    {y : Memory} (b : Quiet s map r m k q t y) (passed : Passed addresses (k + 1) s map r m) {w : Registers} {u : ℕ}
    {z : Memory} (long : length z ≡ length y) (e : command_done w u z ≡ exec_of t map q y) where
  -- it is not
  pub goes_on : among (reg w 15) addresses ≡ false
      → Quiet s map r m (k + 1) w u z × Passed addresses (k + 1 + 1) s map r m
  goes_on unmet =
      let next : Quiet s map r m (k + 1) w u z = one_more b long e in (next, passed_one addresses next passed unmet)

  -- it is
  pub pauses : {n : ℕ} → k < n → among (reg w 15) addresses ≡ true → Paused addresses n s map r m w u (k + 1) z
  pauses left met = record {
    some = λ h. omega arith;
    few = omega (arith, left);
    quiet = (one_more b long e).row;
    passed = passed;
    ends = inr met;
  }

-- ---- What the promise tells

-- of the quiet commands
pub record Ones (addresses : List ℕ) (n s : ℕ) (map : Map) (r : Registers) (m : Memory) (q : Registers) (t k : ℕ)
    (y : Memory) : Type 0 where
  pub few : k ≤ n
  pub quiet : command_done q t y ≡ in_row k s map r m
  pub passed : Passed addresses k s map r m

module _ (addresses : List ℕ) (n s : ℕ) (map : Map) (r : Registers) (m : Memory) (q : Registers) (t k : ℕ)
    (w : Registers) (y : Memory) where
  halfway_ones : (o : Result Out Fault) → Halfway addresses n s map r m q t k w y o
      → Ones addresses n s map r m q t k y
  halfway_ones o h =
      record { few = omega (arith, h.more); quiet = h.quiet; passed = passed_fewer addresses s map r m k h.passed }

  pub quiet_ones : (o : Result Out Fault) → Rowed addresses n s map r m q t k w y o
      → Ones addresses n s map r m q t k y
  quiet_ones (Ok (out.Done u)) h = record { few = h.few; quiet = h.quiet; passed = h.passed }
  quiet_ones (Ok (out.System x)) h = halfway_ones (Ok (out.System x)) h
  quiet_ones (Ok out.Halt) h = halfway_ones (Ok out.Halt) h
  quiet_ones (Ok (out.Resume a)) h = halfway_ones (Ok (out.Resume a)) h
  quiet_ones (Err e) h = halfway_ones (Err e) h.0

pub next_one : {addresses : List ℕ} {n s : ℕ} {map : Map} {r : Registers} {m : Memory} {q : Registers} {t k : ℕ}
    {w : Registers} {y : Memory} (o : Result Out Fault) → ((u : ℕ) → o ≡ Ok (out.Done u) → ⊥)
    → Rowed addresses n s map r m q t k w y o → Halfway addresses n s map r m q t k w y o
next_one (Ok (out.Done u)) l h = absurd (l u refl)
next_one (Ok (out.System x)) l h = h
next_one (Ok out.Halt) l h = h
next_one (Ok (out.Resume a)) l h = h
next_one (Err e) l h = h.0
