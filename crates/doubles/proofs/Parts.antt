-- A row of bytes in two parts, of any lengths: read through a view, taken from a place, laid to one.
-- The words of a D are the two parts of its eight bytes.
use Prim.Native.Nat.{ℕ, zero, suc, ◌+◌, ◌*◌, ◌/◌, ◌%◌, ◌^◌}
use mathlib.Core.Path.{◌≡◌, refl, sym, ap, ◌∙◌}
use mathlib.Core.List.{◌++◌}
use native.Mathlib.Nat.{add-zero, zero-add, mul_comm, div-div-eq-div-mul, mod-lt, mod-mod, pow-succ'}
use native.Mathlib.Omega.{arith}
use lib.Arith.{digits_div, digits_mod, mod-mul}
use lib.Pow.{pow-add}
use lib.Seq.{sets}
use Rattle.machine.specs.declared.Access.{Access}
use Rattle.machine.specs.declared.Alarm.{Alarm}
use Rattle.machine.specs.declared.VirtualAddress.{VirtualAddress}
use Rattle.machine.specs.Words.{Memory, byte_at, span, bytes_of, value_at, word_at}
use Rattle.machine.specs.Alarms.{OrAlarm, got, alarm, ◌>>=◌}
use Rattle.machine.specs.Map.{View, read_from, read_bytes}
use Rattle.machine.specs.Operands.{virtual}
use Rattle.machine.proofs.Blocks.{sets_append}
use Rattle.machine.proofs.Bytes.{bytes_length, four_byte_value}
use Rattle.machine.proofs.Widths.{span_positive}
use Rattle.reads.proofs.Reading.{read-virtual}

-- ---- A byte more, with h before what there is

byte_more : (h acc b : ℕ) → (h + acc) * 256 + b ≡ h * 256 + (acc * 256 + b)
byte_more h acc b = omega arith

span_more : (L h : ℕ) → h * 256 * span L ≡ h * span (suc L)
span_more L h = rw (pow-succ' 256 L) (omega arith)

-- ---- Read through a view

-- after every value it goes on alike
alike : {A B : Type 0} (f g : A → OrAlarm B) → ((x : A) → f x ≡ g x) → (t : OrAlarm A) → (t >>= f) ≡ (t >>= g)
alike f g e (got x) = e x
alike f g e (alarm k z) = refl

in_turn : {A B C : Type 0} (f : A → OrAlarm B) (g : B → OrAlarm C) (t : OrAlarm A)
    → (t >>= f >>= g) ≡ (t >>= (λ x. f x >>= g))
in_turn f g (got x) = refl
in_turn f g (alarm k z) = refl

module _ (v : View) (w : Access) where
  -- the first part, and the second after what it gave
  read_first : (k L a acc : ℕ) → read_from v w (k + L) a acc ≡ (read_from v w k a acc >>= (λ h. read_from v w L (a + k) h))
  unfolding read_from
  read_first zero L a acc = rw (zero-add, add-zero)
  read_first (suc k) L a acc =
      let e : suc k + L ≡ suc (k + L) = omega arith in
      let p : a + suc k ≡ a + 1 + k = omega arith in
      rw (e, p) (alike _ _ (λ f. read_first k L (a + 1) (acc * 256 + f.byte)) (v (virtual a) w)
      ∙ sym (in_turn _ _ (v (virtual a) w)))

  -- h stands before L bytes
  read-after : (L a h acc : ℕ) → read_from v w L a (h + acc) ≡ (read_from v w L a acc >>= (λ l. got (h * span L + l)))
  unfolding read_from
  read-after zero a h acc = ap got (omega arith)
  read-after (suc L) a h acc =
      rw (← span_more L h)
      (alike _ _ (λ f. rw byte_more (read-after L (a + 1) (h * 256) (acc * 256 + f.byte))) (v (virtual a) w)
      ∙ sym (in_turn _ _ (v (virtual a) w)))

  read_second : (L a h : ℕ) → read_from v w L a h ≡ (read_bytes v w L (virtual a) >>= (λ l. got (h * span L + l)))
  read_second L a h = rw read-virtual (rw (add-zero h) at (read-after L a h 0))

  -- addresses wrap
  pub read_parts : (k L : ℕ) (x : VirtualAddress) → read_bytes v w (k + L) x
      ≡ (read_bytes v w k x >>= (λ h. read_bytes v w L (virtual (x.0 + k)) >>= (λ l. got (h * span L + l))))
  read_parts k L x =
      read_first k L x.0 0 ∙ alike _ _ (λ h. read_second L (x.0 + k) h) (read_bytes v w k x)

  -- how it ends
  module _ (k L : ℕ) (x : VirtualAddress) where
    pub both_read : {h l : ℕ} → got h ≡ read_bytes v w k x → got l ≡ read_bytes v w L (virtual (x.0 + k))
        → got (h * span L + l) ≡ read_bytes v w (k + L) x
    both_read p q = sym (read_parts k L x ∙ rw (← p, ← q))

    pub first_stops : {n : Alarm} {z : ℕ} → alarm n z ≡ read_bytes v w k x → alarm n z ≡ read_bytes v w (k + L) x
    first_stops p = sym (read_parts k L x ∙ rw (← p))

    pub second_stops : {h : ℕ} {n : Alarm} {z : ℕ} → got h ≡ read_bytes v w k x
        → alarm n z ≡ read_bytes v w L (virtual (x.0 + k)) → alarm n z ≡ read_bytes v w (k + L) x
    second_stops p q = sym (read_parts k L x ∙ rw (← p, ← q))

-- ---- At a place

module _ (m : Memory) where
  value_first : (k L a acc : ℕ) → value_at m (k + L) a acc ≡ value_at m L (a + k) (value_at m k a acc)
  unfolding value_at
  value_first zero L a acc = rw (zero-add, add-zero)
  value_first (suc k) L a acc =
      let e : suc k + L ≡ suc (k + L) = omega arith in
      let p : a + suc k ≡ a + 1 + k = omega arith in
      rw (e, p) (value_first k L (a + 1) (acc * 256 + byte_at m a))

  value_after : (L a h acc : ℕ) → value_at m L a (h + acc) ≡ h * span L + value_at m L a acc
  unfolding value_at
  value_after zero a h acc = omega arith
  value_after (suc L) a h acc =
      rw (byte_more, ← span_more L h) (value_after L (a + 1) (h * 256) (acc * 256 + byte_at m a))

  pub value_parts : (k L a : ℕ) → value_at m (k + L) a 0 ≡ value_at m k a 0 * span L + value_at m L (a + k) 0
  value_parts k L a = value_first k L a 0 ∙ rw add-zero at (value_after L (a + k) (value_at m k a 0) 0)

  pub two_words : (a : ℕ) → word_at m a * 4294967296 + word_at m (a + 4) ≡ value_at m 8 a 0
  two_words a = rw (four_byte_value m a, four_byte_value m (a + 4)) (sym (value_parts 4 4 a))

-- ---- Bytes of a number

high_byte : (L x : ℕ) → x % span (suc L) / span L ≡ x / span L % 256
high_byte L x =
    rw (pow-succ' 256 L, mod-mul x {m = 256} (omega arith) (span_positive L))
    (digits_div (x / span L % 256) (mod-lt x (span_positive L)))

low_bytes : (L x : ℕ) → x % span (suc L) % span L ≡ x % span L
low_bytes L x =
    rw (pow-succ' 256 L, mod-mul x {m = 256} (omega arith) (span_positive L))
    (digits_mod (x / span L % 256) (mod-lt x (span_positive L)))

-- its low end alone tells them
bytes_low : (L x y : ℕ) → x % span L ≡ y % span L → bytes_of L x ≡ bytes_of L y
unfolding bytes_of
bytes_low zero x y e = refl
bytes_low (suc L) x y e =
    let low : x % span L ≡ y % span L = sym (low_bytes L x) ∙ ap (λ (n : ℕ). n % span L) e ∙ low_bytes L y in
    rw (← high_byte L x, ← high_byte L y, e, bytes_low L x y low)

pub bytes_parts : (k L x : ℕ) → bytes_of (k + L) x ≡ bytes_of k (x / span L) ++ bytes_of L (x % span L)
unfolding bytes_of
bytes_parts zero L x = rw zero-add (bytes_low L x (x % span L) (sym (mod-mod x (span L))))
bytes_parts (suc k) L x =
    let e : suc k + L ≡ suc (k + L) = omega arith in
    rw (e, pow-add 256 k L, mul_comm (256 ^ k) (256 ^ L), ← div-div-eq-div-mul, bytes_parts k L x)

pub laid_parts : (m : Memory) (k L a x : ℕ)
    → sets m a (bytes_of (k + L) x) ≡ sets (sets m a (bytes_of k (x / span L))) (a + k) (bytes_of L (x % span L))
laid_parts m k L a x =
    rw bytes_parts (rw bytes_length at (sets_append (bytes_of k (x / span L)) (bytes_of L (x % span L)) m a))
