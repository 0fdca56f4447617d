-- `one_page`: where bytes lie in one page, the first byte's lookup answers for all of them.
use Prim.Native.Nat.{ℕ, zero, suc, ◌+◌, ◌*◌, ◌%◌, ◌<◌, ◌≤◌}
use mathlib.Core.Path.{◌≡◌, refl, sym, ap, ◌∙◌}
use mathlib.Core.Bool.{Bool, true, false}
use mathlib.Core.List.{List}
use native.Mathlib.Omega.{arith}
use borrow.Author.Tests.{lt-ltb, le-ltb}
use lib.Dec.{ltb}
use lib.ListN.{length}
use Rattle.machine.specs.declared.Access.{Access}
use Rattle.machine.specs.declared.Access.TheVariants.{Write}
use Rattle.machine.specs.declared.Alarm.{Alarm}
use Rattle.machine.specs.declared.Alarm.TheVariants as alarms
use Rattle.machine.specs.declared.Map.{Map}
use Rattle.machine.specs.declared.VirtualAddress.{VirtualAddress}
use Rattle.machine.specs.Words.{pick, Memory, byte_at, value_at, wrap}
use Rattle.machine.specs.State.{user_mode}
use Rattle.machine.specs.Alarms.{OrAlarm, got, alarm}
use Rattle.machine.specs.Map.{page_of, Found, found_at, in_frame, real_of, mapped, unmapped, in_number_order, view_by}
use Rattle.machine.specs.Map.{read_from, read_bytes, writes_from, located}
use Rattle.machine.specs.OnePage.{address_on, answer_on, whole_value, whole_word, whole_writes, Together, small_memory}
use Rattle.machine.specs.OnePage.{OnePage}
use Rattle.machine.proofs.Bytes.{four_byte_value}
use Rattle.machine.proofs.Views.{order_got}
use Rattle.machine.proofs.WholeStep.{whole_step}
use Rattle.machine.proofs.Pages.{by_mode, view_names, view_found, view_on, Alarms, read_alarm, located_alarm}
use Rattle.machine.proofs.Pages.{Finds, page_inside, read_page, located_page}

-- ---- Bytes in one page

module _ (s : ℕ) (map : Map) (m : Memory) (x : VirtualAddress) (w : Access) (n : ℕ) (t : Together m x n) where
  finds : (f : Found) → view_by s map m x w ≡ got f → Finds s map m x w f.real
  finds f h =
      record { small = t.address; whole = t.frames; hit = h ∙ ap got (view_found s map m x w f h) }

  stops : (k : Alarm) (a : ℕ) → view_by s map m x w ≡ alarm k a → Alarms s map m x w k
  stops k a h =
      record { small = t.address; miss = h ∙ ap (alarm k) (view_names s map m x w k a h) }

  each : (k : ℕ) → k < n → view_by s map m (address_on x k) w ≡ answer_on m k (view_by s map m x w)
  each k l =
      let e : wrap (x.0 + k) ≡ x.0 + k = omega (arith, t.page, t.address) in
      rw e (view_on m x k w (omega (arith, t.page)) s map t.frames)

  value : read_bytes (view_by s map m) w n x ≡ whole_value m n (view_by s map m x w)
  value = go (view_by s map m x w) refl
    where
      go : (r : OrAlarm Found) → view_by s map m x w ≡ r → read_bytes (view_by s map m) w n x ≡ whole_value m n r
      go (got f) h = read_page (finds f h) n t.page
      go (alarm k a) h =
          read_alarm (stops k a h) n 0 t.some ∙ ap (alarm k) (sym (view_names s map m x w k a h))

module _ (s : ℕ) (map : Map) (m : Memory) (x : VirtualAddress) where
  word : (w : Access) → Together m x 4 → read_bytes (view_by s map m) w 4 x ≡ whole_word m (view_by s map m x w)
  word w t = value s map m x w 4 t ∙ same (view_by s map m x w)
    where
      same : (r : OrAlarm Found) → whole_value m 4 r ≡ whole_word m r
      same (got f) = ap got (sym (four_byte_value m f.real.0))
      same (alarm k a) = refl

  writes : (bs : List ℕ) → Together m x (length bs)
      → located (view_by s map m) (writes_from x.0 bs) ≡ whole_writes bs (view_by s map m x Write)
  writes bs t = go (view_by s map m x Write) refl
    where
      go : (r : OrAlarm Found) → view_by s map m x Write ≡ r
          → located (view_by s map m) (writes_from x.0 bs) ≡ whole_writes bs r
      go (got f) h = located_page (finds s map m x Write (length bs) t f h) bs t.page
      go (alarm k a) h =
          located_alarm (stops s map m x Write (length bs) t k a h) bs t.some
          ∙ ap (alarm k) (sym (view_names s map m x Write k a h))

  -- the first byte lies as far in its frame as in its page
  in_frame_lem : (w : Access) (f : Found) → view_by s map m x w ≡ got f → f.real.0 % 512 ≡ x.0 % 512
  unfolding mapped unmapped in_frame
  in_frame_lem w f =
      by_mode s map m (λ v. v x w ≡ got f → f.real.0 % 512 ≡ x.0 % 512)
      (λ h. let e = ap (λ (g : Found). g.real.0) (order_got _ _ _ _ _ _ _ _ h).5 in omega (arith, e))
      (go (ltb x.0 (length m)))
    where
      go : (b : Bool) → pick b (got (found_at m (real_of x))) (alarm alarms.Address x.0) ≡ got f
          → f.real.0 % 512 ≡ x.0 % 512
      go true h = cc
      go false h = cc

-- ---- Addresses that wrap

-- the map has at most 4,194,304 entries, and the memory is smaller still
module _ (s : ℕ) (map : Map) (m : Memory) (x : VirtualAddress) (w : Access) (n : ℕ) (small : length m ≤ 16777216)
    (fits : map.base.0 + 4 * map.length ≤ length m) (address : x.0 < 0x1_0000_0000) (short : n ≤ 512)
    (far : 0x1_0000_0000 < x.0 + n) where
  beyond : Alarms s map m x w alarms.Address
  unfolding mapped unmapped in_number_order
  beyond = record {
    small = address;
    miss = by_mode s map m (λ v. v x w ≡ alarm alarms.Address x.0)
        (rw (le-ltb (page_of x) map.length (omega arith)))
        (rw (le-ltb x.0 (length m) (omega arith)));
  }

  wraps_read : read_bytes (view_by s map m) w n x ≡ alarm alarms.Address x.0
  wraps_read = read_alarm beyond n 0 (omega arith)

wraps_written : (s : ℕ) (map : Map) (m : Memory) (x : VirtualAddress) (bs : List ℕ) → length m ≤ 16777216
    → map.base.0 + 4 * map.length ≤ length m → x.0 < 0x1_0000_0000 → length bs ≤ 512
    → 0x1_0000_0000 < x.0 + length bs
    → located (view_by s map m) (writes_from x.0 bs) ≡ alarm alarms.Address x.0
wraps_written s map m x bs small fits address short far =
    located_alarm (beyond s map m x Write (length bs) small fits address short far) bs (omega arith)

-- ---- Kernel mode

module _ (s : ℕ) (map : Map) (m : Memory) (w : Access) (u : user_mode s ≡ false) where
  kernel : (x : VirtualAddress) → view_by s map m x w
      ≡ pick (ltb x.0 (length m)) (got (found_at m (real_of x))) (alarm alarms.Address x.0)
  unfolding view_by unmapped
  kernel x = rw u

  kernel_from : length m ≤ 0x1_0000_0000 → (n a acc : ℕ) → a + n ≤ length m
      → read_from (view_by s map m) w n a acc ≡ got (value_at m n a acc)
  unfolding read_from value_at
  kernel_from l zero a acc h = refl
  kernel_from l (suc n) a acc h =
      let e : wrap a ≡ a = omega arith in
      rw (e, kernel (record { 0 = a }), lt-ltb a (length m) (omega arith))
      (kernel_from l n (a + 1) (acc * 256 + byte_at m a) (omega arith))

pub one_page : OnePage
unfolding whole_step small_memory
one_page = record {
  each = λ s map m x w n k t. each s map m x w n t k;
  own_address = view_names;
  inside = λ s map m x w n f t h. page_inside (finds s map m x w n t f h) n t.some t.page;
  in_frame_lem = in_frame_lem;
  value = value;
  word = word;
  writes = writes;
  same_page = λ x n k small near l. omega (arith, small, near, l);
  next_page = λ x n small past h. omega (arith, small, past, h);
  wraps_apart = λ x n small far near. omega (arith, small, far, near);
  wraps_read = wraps_read;
  wraps_written = wraps_written;
  kernel_mode = λ s map m x w u. kernel s map m w u x;
  kernel_value = λ s map m x w n u l h. kernel_from s map m w u l n x.0 0 h;
  last_word = (refl, refl);
  two-pages = (refl, refl);
  page_needed = (refl, refl);
  frames_needed = (refl, refl);
}
