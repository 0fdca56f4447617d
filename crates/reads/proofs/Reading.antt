-- A read by a loop: after i bytes the read of the rest is the read of all.
use Rattle.std.proofs.Common.{◌≡◌, ℕ, zero, suc, ◌+◌, ◌-◌, ◌*◌, ◌<◌, ◌≤◌, refl, add-zero, pow-suc, add-one, arith}
use native.Mathlib.Nat.{sub-zero}
use Rattle.machine.specs.declared.Access.{Access}
use Rattle.machine.specs.declared.Alarm.{Alarm}
use Rattle.machine.specs.Words.{span, wrap}
use Rattle.machine.specs.Alarms.{OrAlarm, got, alarm, ◌>>=◌}
use Rattle.machine.specs.Map.{Found, View, read_from, read_bytes}
use Rattle.machine.specs.Operands.{virtual}
use Rattle.machine.proofs.Widths.{span_wider}

-- ---- Three bytes and one more make a word

pub three_bytes : (i acc : ℕ) → i < 4 → acc < span i → acc < 0x100_0000
three_bytes i acc l h = omega (arith, span_wider i 3 (omega arith))

pub one_byte_more : (i acc b : ℕ) → acc < span i → b < 256 → acc * 256 + b < span (i + 1)
one_byte_more i acc b h k = rw add-one (omega (arith, pow-suc 256 i))

-- ---- The turns

module _ (v : View) (w : Access) (a n : ℕ) where
  pub read_all : read_from v w n a 0 ≡ read_from v w (n - 0) (a + 0) 0
  read_all = rw (sub-zero n, add-zero a)

  module _ (i acc x : ℕ) (left : i < n) (here : x ≡ wrap (a + i)) where
    one_left : n - i ≡ suc (n - (i + 1))
    one_left = omega arith

    pub read_next : (f : Found) (b : ℕ) → v (record { 0 = x }) w ≡ got f → b ≡ f.byte
        → read_from v w (n - i) (a + i) acc ≡ read_from v w (n - (i + 1)) (a + (i + 1)) (acc * 256 + b)
    unfolding read_from
    read_next f b h e =
        let p : a + i + 1 ≡ a + (i + 1) = omega arith in
        rw (one_left, ← here, h, e, p)

    pub read_stops : (k : Alarm) (z : ℕ) → v (record { 0 = x }) w ≡ alarm k z
        → read_from v w (n - i) (a + i) acc ≡ alarm k z
    unfolding read_from
    read_stops k z h = rw (one_left, ← here, h)

  pub read_ends : (i acc : ℕ) → n ≤ i → read_from v w (n - i) (a + i) acc ≡ got acc
  unfolding read_from
  read_ends i acc h = let p : n - i ≡ 0 = omega arith in rw p

-- ---- Addresses

read_same : (v : View) (w : Access) (L a b acc : ℕ) → wrap a ≡ wrap b → read_from v w L a acc ≡ read_from v w L b acc
unfolding read_from
read_same v w zero a b acc e = refl
read_same v w (suc L) a b acc e =
    rw e (go (λ n. read_same v w L (a + 1) (b + 1) n (omega arith)) (v (record { 0 = wrap b }) w))
  where
    go : ((n : ℕ) → read_from v w L (a + 1) n ≡ read_from v w L (b + 1) n) → (t : OrAlarm Found)
        → (t >>= (λ f. read_from v w L (a + 1) (acc * 256 + f.byte)))
        ≡ (t >>= (λ f. read_from v w L (b + 1) (acc * 256 + f.byte)))
    go h (got f) = h (acc * 256 + f.byte)
    go h (alarm n x) = refl

pub read-virtual : (v : View) (w : Access) (L a : ℕ) → read_bytes v w L (virtual a) ≡ read_bytes v w L (record { 0 = a })
read-virtual v w L a = read_same v w L (wrap a) a 0 (omega arith)
