-- The lookup in user mode, case by case. One comparison tells whether an entry allows the access: the
-- number that stands for it is its frame's, or past every frame. Behind it the alarm is told.
use Prim.Native.Nat.{ℕ, ◌+◌, ◌*◌, ◌/◌, ◌%◌, ◌<◌, ◌≤◌}
use mathlib.Core.Path.{◌≡◌, refl, sym, ◌∙◌}
use mathlib.Core.Bool.{Bool, true, false, not, ◌&&◌, ◌||◌}
use native.Mathlib.Omega.{arith}
use borrow.Author.Tests.{leb-true, leb-false, ltb-true, ltb-false, eqb-true, not-false, lt-ltb, le-ltb}
use borrow.Author.Tests.{le-leb, lt-leb}
use lib.Dec.{ltb, leb, eqb}
use lib.ListN.{length}
use Rattle.machine.specs.declared.RealAddress.{RealAddress}
use Rattle.machine.specs.declared.VirtualAddress.{VirtualAddress}
use Rattle.machine.specs.declared.Alarm.{Alarm}
use Rattle.machine.specs.declared.Alarm.TheVariants as alarms
use Rattle.machine.specs.declared.Map.{Map}
use Rattle.machine.specs.declared.Access.{Access}
use Rattle.machine.specs.declared.Access.TheVariants.{Fetch, Read, Write}
use Rattle.machine.specs.Words.{pick, Memory, word_at, lowered}
use Rattle.machine.specs.Alarms.{got, alarm}
use Rattle.machine.specs.Map.{page_of, map_entry, present, writable, fetchable, forbidden_bits, frame_of, undamaged}
use Rattle.machine.specs.Map.{Found, found_at, in_frame, allows_write, allows_fetch, in_number_order, mapped}
use Rattle.lookup.specs.Answers.{frame_for, closed_to, refused_for}

-- ---- Tests

-- neither of two tests holds
neither : (a b : Bool) → a || b ≡ false → (a ≡ false) × (b ≡ false)
neither true b h = (cc, cc)
neither false b h = (refl, h)

-- the lesser of two numbers is one of them
lesser_is : (a b : ℕ) (P : ℕ → Type 0) → P a → P b → P (pick (ltb a b) a b)
lesser_is a b P p q = go (ltb a b)
  where
    go : (t : Bool) → P (pick t a b)
    go true = p
    go false = q

-- and is below none
lesser_below : (a b n : ℕ) → n ≤ pick (ltb a b) a b → (n ≤ a) × (n ≤ b)
lesser_below a b n = go (ltb a b) refl
  where
    go : (t : Bool) → ltb a b ≡ t → n ≤ pick t a b → (n ≤ a) × (n ≤ b)
    go true h l = (l, omega (arith, l, ltb-true a b h))
    go false h l = (omega (arith, l, ltb-false a b h), l)

past_frames : (n f : ℕ) → leb (512 * f + 512) n ≡ not (leb (n / 512) f)
past_frames n f = go (leb (n / 512) f) refl
  where
    go : (b : Bool) → leb (n / 512) f ≡ b → leb (512 * f + 512) n ≡ not b
    go true h = lt-leb (512 * f + 512) n (omega (arith, leb-true (n / 512) f h))
    go false h = le-leb (512 * f + 512) n (omega (arith, leb-false (n / 512) f h))

-- ---- An entry by the number that stands for it

-- entry e allows an access, and k is its frame
record Allows (w : Access) (e k : ℕ) : Type 0 where
  there : 0x8000_0000 ≤ e
  sound : forbidden_bits e ≡ 0
  frame : k ≡ e % 0x100_0000
  write : allows_write w e ≡ true
  fetch : allows_fetch w e ≡ true

module _ (e n : ℕ) (word : e < 0x1_0000_0000) (few : n ≤ 32768) where
  -- the number is below n
  allows : (w : Access) → frame_for w e < n → Allows w e (frame_for w e)
  unfolding allows_write allows_fetch writable fetchable
  allows Fetch =
      lesser_is (lowered e 0x8000_0000) (lowered e 0xC000_0000) (λ k. k < n → Allows Fetch e k)
      (λ l. record {
        there = omega arith;
        sound = omega arith;
        frame = omega arith;
        write = refl;
        fetch = lt-ltb (e % 0x4000_0000) 0x2000_0000 (omega arith);
      })
      (λ l. record {
        there = omega arith;
        sound = omega arith;
        frame = omega arith;
        write = refl;
        fetch = lt-ltb (e % 0x4000_0000) 0x2000_0000 (omega arith);
      })
  allows Read = λ l. record {
    there = omega arith;
    sound = omega arith;
    frame = omega arith;
    write = refl;
    fetch = refl;
  }
  allows Write =
      lesser_is (lowered e 0xC000_0000) (lowered e 0xE000_0000) (λ k. k < n → Allows Write e k)
      (λ l. record {
        there = omega arith;
        sound = omega arith;
        frame = omega arith;
        write = le-leb 0x4000_0000 (e % 0x8000_0000) (omega arith);
        fetch = refl;
      })
      (λ l. record {
        there = omega arith;
        sound = omega arith;
        frame = omega arith;
        write = le-leb 0x4000_0000 (e % 0x8000_0000) (omega arith);
        fetch = refl;
      })

  -- it is not, and the entry is sound: so the access asks for a right that is not given
  closes : (w : Access) (x : VirtualAddress) (f : Found) → 0x8000_0000 ≤ e → forbidden_bits e ≡ 0 → e % 0x100_0000 < n
      → n ≤ frame_for w e
      → in_number_order true true true (allows_write w e) (allows_fetch w e) x f ≡ alarm (closed_to w) x.0
  unfolding allows_write allows_fetch writable fetchable in_number_order
  closes Fetch x f there sound inside past =
      let l = lesser_below (lowered e 0x8000_0000) (lowered e 0xC000_0000) n past in
      rw (le-ltb (e % 0x4000_0000) 0x2000_0000 (omega (arith, l.0, l.1)))
  closes Read x f there sound inside past = absurd (omega arith)
  closes Write x f there sound inside past =
      let l = lesser_below (lowered e 0xC000_0000) (lowered e 0xE000_0000) n past in
      rw (lt-leb 0x4000_0000 (e % 0x8000_0000) (omega (arith, l.0, l.1)))

-- ---- The cases

module _ (map : Map) (m : Memory) (x : VirtualAddress) (w : Access) where
  pub mapped_8 : map.length ≤ page_of x → alarm alarms.Address x.0 ≡ mapped map m x w
  unfolding mapped in_number_order
  mapped_8 h = rw (le-ltb (page_of x) map.length h)

  module _ (e : ℕ) (fits : map.base.0 + 4 * map.length ≤ length m) (below : page_of x < map.length)
      (word : e ≡ word_at m (map.base.0 + 4 * page_of x)) where
    entry : map_entry map m (page_of x) ≡ e
    unfolding map_entry
    entry = rw (le-leb (map.base.0 + 4 * page_of x + 4) (length m) (omega arith)) (sym word)

    by_entry : mapped map m x w ≡ in_number_order true (present e) (undamaged (length m) e) (allows_write w e)
        (allows_fetch w e) x (found_at m (in_frame (frame_of e) x))
    unfolding mapped
    by_entry = rw (entry, lt-ltb (page_of x) map.length below)

    whole : undamaged (length m) e ≡ not (not (eqb (forbidden_bits e) 0) || leb (length m / 512) (e % 0x100_0000))
    unfolding undamaged frame_of
    whole =
        rw (past_frames (length m) (e % 0x100_0000))
        (go (eqb (forbidden_bits e) 0) (leb (length m / 512) (e % 0x100_0000)))
      where
        go : (a b : Bool) → a && not b ≡ not (not a || b)
        go true b = refl
        go false b = refl

    module _ (fit : e < 0x1_0000_0000) (few : length m ≤ 16777216) (k : ℕ) (number : k ≡ frame_for w e) where
      -- found, in the frame of that number
      pub mapped_found : (a : RealAddress) → k < length m / 512 → a ≡ in_frame (record { 0 = k }) x
          → got (found_at m a) ≡ mapped map m x w
      unfolding present in_number_order frame_of
      mapped_found a l q =
          let t = allows e (length m / 512) fit (omega arith) w (rw number at l) in
          let inside : e % 0x100_0000 < length m / 512 = rw (number ∙ t.frame) at l in
          rw (
            by_entry,
            le-leb 0x8000_0000 e t.there,
            whole,
            t.sound,
            lt-leb (length m / 512) (e % 0x100_0000) inside,
            t.write,
            t.fetch,
            q,
            number ∙ t.frame,
          )

      -- 9, 10, 11 or 21
      pub mapped_refused : (n : Alarm) → length m / 512 ≤ k → n ≡ refused_for w e (length m / 512)
          → alarm n x.0 ≡ mapped map m x w
      unfolding present in_number_order
      mapped_refused n l q = rw q (first (ltb e 0x8000_0000) refl)
        where
          damaged : Bool
          damaged = not (eqb (forbidden_bits e) 0) || leb (length m / 512) (e % 0x100_0000)

          second : 0x8000_0000 ≤ e → (t : Bool) → damaged ≡ t
              → alarm (pick t alarms.MapEntry (closed_to w)) x.0 ≡ mapped map m x w
          second there true h = rw (by_entry, le-leb 0x8000_0000 e there, whole, h)
          second there false h =
              let n = neither (not (eqb (forbidden_bits e) 0)) (leb (length m / 512) (e % 0x100_0000)) h in
              let sound = eqb-true (forbidden_bits e) 0 (not-false (eqb (forbidden_bits e) 0) n.0) in
              let inside = leb-false (length m / 512) (e % 0x100_0000) n.1 in
              rw (by_entry, le-leb 0x8000_0000 e there, whole, h)
              (sym (closes e (length m / 512) fit (omega arith) w x _ there sound inside (rw number at l)))

          first : (t : Bool) → ltb e 0x8000_0000 ≡ t
              → alarm (pick t alarms.Absent (pick damaged alarms.MapEntry (closed_to w))) x.0 ≡ mapped map m x w
          first true h = rw (by_entry, lt-leb 0x8000_0000 e (ltb-true e 0x8000_0000 h))
          first false h = second (ltb-false e 0x8000_0000 h) damaged refl
