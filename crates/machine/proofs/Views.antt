-- What a view tells: when two memories show one view, and that what a view places lies in writable
-- reached frames.
use Prim.Native.Nat.{ℕ, ◌+◌, ◌*◌, ◌/◌, ◌%◌, ◌<◌, ◌≤◌}
use mathlib.Core.Path.{◌≡◌, refl, ap, ◌∙◌, fun_ext}
use mathlib.Core.Bool.{Bool, true, false}
use mathlib.Core.List.{[], ◌∷◌}
use native.Mathlib.Omega.{arith}
use borrow.Author.Tests.{ltb-true, leb-true}
use lib.Dec.{ltb, leb}
use lib.ListN.{length, take, drop, length-take, length-drop}
use lib.Seq.{ext_get_or, get_or-take, get_or-drop}
use Rattle.machine.specs.declared.Map.{Map}
use Rattle.machine.specs.declared.RealAddress.{RealAddress}
use Rattle.machine.specs.declared.VirtualAddress.{VirtualAddress}
use Rattle.machine.specs.declared.FrameNumber.{FrameNumber}
use Rattle.machine.specs.declared.Access.{Access}
use Rattle.machine.specs.declared.Access.TheVariants.{Write}
use Rattle.machine.specs.declared.Desk.{Desk}
use Rattle.machine.specs.Words.{pick, Memory, byte_at, word_at}
use Rattle.machine.specs.State.{frame_around, system_block_of}
use Rattle.machine.specs.Alarms.{OrAlarm, got, alarm, ◌>>=◌}
use Rattle.machine.specs.Map.{page_of, map_entry, present, frame_of, undamaged, Found, found_at, in_frame}
use Rattle.machine.specs.Map.{allows_write, allows_fetch, in_number_order, mapped, VirtualWrites, RealWrites}
use Rattle.machine.specs.Map.{located, Names, Reached, WritableReached, InMap}
use Rattle.machine.specs.Isolation.{InSystemBlock}
use Rattle.machine.proofs.Writes.{Each}

-- ---- Entries

pick_same : (b : Bool) (u v c : ℕ) → (b ≡ true → u ≡ v) → pick b u c ≡ pick b v c
pick_same true u v c h = h refl
pick_same false u v c h = refl

module _ (map : Map) (m x : Memory) (size : length x ≡ length m)
    (same : (a : ℕ) → InMap map m a → byte_at x a ≡ byte_at m a) where
  pub entry_same : (p : ℕ) → p < map.length → map_entry map x p ≡ map_entry map m p
  unfolding map_entry word_at
  entry_same p h =
      rw size (pick_same (leb (map.base.0 + 4 * p + 4) (length m)) _ _ 0
      (λ t. word (leb-true (map.base.0 + 4 * p + 4) (length m) t)))
    where
      byte : map.base.0 + 4 * p + 4 ≤ length m → (a : ℕ) → map.base.0 + 4 * p ≤ a → a < map.base.0 + 4 * p + 4
          → byte_at x a ≡ byte_at m a
      byte k a l u = same a (record { low = omega arith; high = omega arith; inside = omega arith })

      word : map.base.0 + 4 * p + 4 ≤ length m → word_at x (map.base.0 + 4 * p) ≡ word_at m (map.base.0 + 4 * p)
      word k =
          let a = map.base.0 + 4 * p in
          let b = byte k in
          rw (
            b a (omega arith) (omega arith),
            b (a + 1) (omega arith) (omega arith),
            b (a + 2) (omega arith)
                (omega arith),
            b (a + 3) (omega arith) (omega arith),
          )

-- the same frames are named
module _ (map : Map) (m n : Memory) (size : length n ≡ length m)
    (same : (a : ℕ) → InMap map m a → byte_at n a ≡ byte_at m a) where
  names_same : (p : ℕ) (f : FrameNumber) → Names map m p f → Names map n p f
  names_same p f h =
      let e = entry_same map m n size same p h.below in
      record { below = h.below; there = rw e h.there; whole = rw (size, e) h.whole; frame = rw e h.frame }

  pub reached_same : (f : FrameNumber) → Reached map m f → Reached map n f
  reached_same f r = record { page = r.page; names = names_same r.page f r.names }

  pub writable_same : (f : FrameNumber) → WritableReached map m f → WritableReached map n f
  writable_same f r = record {
    page = r.page;
    names = names_same r.page f r.names;
    write = rw (entry_same map m n size same r.page r.names.below) r.write;
  }

-- ---- One view

order_same : (t s k l : Bool) (x : VirtualAddress) (r : RealAddress) (m n : Memory)
    → (t ≡ true → s ≡ true → byte_at m r.0 ≡ byte_at n r.0)
    → in_number_order true t s k l x (found_at m r) ≡ in_number_order true t s k l x (found_at n r)
unfolding in_number_order
order_same false s k l x r m n h = refl
order_same true false k l x r m n h = refl
order_same true true false l x r m n h = refl
order_same true true true false x r m n h = refl
order_same true true true true x r m n h = let e = h refl refl in rw e

frame_of_real : (f : FrameNumber) (x : VirtualAddress) → f ≡ frame_around (in_frame f x).0
unfolding in_frame
frame_of_real f x = let e : f.0 ≡ (512 * f.0 + x.0 % 512) / 512 = omega arith in ap (λ (k : ℕ). record { 0 = k }) e

module _ (map : Map) (m x y : Memory)
    (lengthx : length x ≡ length m) (mapx : (a : ℕ) → InMap map m a → byte_at x a ≡ byte_at m a)
    (lengthy : length y ≡ length m) (mapy : (a : ℕ) → InMap map m a → byte_at y a ≡ byte_at m a)
    (frames : (a : ℕ) → Reached map m (frame_around a) → byte_at x a ≡ byte_at y a) where
  pub view_same : mapped map x ≡ mapped map y
  unfolding mapped in_number_order
  view_same = fun_ext λ z. fun_ext λ w. go z w (ltb (page_of z) map.length) refl
    where
      go : (z : VirtualAddress) (w : Access) (b : Bool) → ltb (page_of z) map.length ≡ b
          → in_number_order b (present (map_entry map x (page_of z))) (undamaged (length x) (map_entry map x (page_of z)))
          (allows_write w (map_entry map x (page_of z))) (allows_fetch w (map_entry map x (page_of z))) z
          (found_at x (in_frame (frame_of (map_entry map x (page_of z))) z))
          ≡ in_number_order b (present (map_entry map y (page_of z))) (undamaged (length y) (map_entry map y (page_of z)))
          (allows_write w (map_entry map y (page_of z))) (allows_fetch w (map_entry map y (page_of z))) z
          (found_at y (in_frame (frame_of (map_entry map y (page_of z))) z))
      go z w false q = refl
      go z w true q =
          let h = ltb-true (page_of z) map.length q in
          rw (
            entry_same map m x lengthx mapx (page_of z) h,
            entry_same map m y lengthy mapy (page_of z) h,
            lengthx,
            lengthy,
          )
          (order_same _ _ _ _ z _ x y λ t s. frames _
          (record { page = page_of z; names = record { below = h; there = t; whole = s; frame = frame_of_real _ z } }))

-- ---- The system block

pub block_same : (d : Desk) (x y : Memory) → length x ≡ length y
    → ((a : ℕ) → InSystemBlock d a → byte_at x a ≡ byte_at y a) → system_block_of d x ≡ system_block_of d y
unfolding system_block_of
block_same d x y l h =
    ext_get_or 0 _ _ (simp (length-take, length-drop, l)) λ i r. go i
    (omega (arith, simp (length-take, length-drop) at r))
  where
    go : (i : ℕ) → i < 256 → byte_at (take 256 (drop d.system.0 x)) i ≡ byte_at (take 256 (drop d.system.0 y)) i
    go i r =
        rw (
          get_or-take 256 (drop d.system.0 x) i 0 r,
          get_or-take 256 (drop d.system.0 y) i 0 r,
          get_or-drop
              d.system.0 x i 0,
          get_or-drop d.system.0 y i 0,
        )
        (h (d.system.0 + i) (record { low = omega arith; high = omega arith }))

-- ---- Writes go to writable reached frames

pub order_got : (b t s k l : Bool) (x : VirtualAddress) (f g : Found) → in_number_order b t s k l x f ≡ got g
    → (b ≡ true) × (t ≡ true) × (s ≡ true) × (k ≡ true) × (l ≡ true) × (f ≡ g)
unfolding in_number_order
order_got false t s k l x f g h = (cc, cc, cc, cc, cc, cc)
order_got true false s k l x f g h = (cc, cc, cc, cc, cc, cc)
order_got true true false k l x f g h = (cc, cc, cc, cc, cc, cc)
order_got true true true false l x f g h = (cc, cc, cc, cc, cc, cc)
order_got true true true true false x f g h = (cc, cc, cc, cc, cc, cc)
order_got true true true true true x f g h = (refl, refl, refl, refl, refl, cc)

-- the places of writes that were located have the property P
abbrev pub EachLocated : (ℕ → Type 0) → OrAlarm RealWrites → Type 0
EachLocated P (got ws) = Each P ws
EachLocated P (alarm n x) = Unit {0}

module _ (P : ℕ → Type 0) where
  add_each : (f : Found) (b : ℕ) (r : OrAlarm RealWrites) → P f.real.0 → EachLocated P r
      → EachLocated P (r >>= (λ ws. got ((f.real, b) ∷ ws)))
  add_each f b (got ws) p h = (p, h)
  add_each f b (alarm n x) p h = tt

  join_each : (l : OrAlarm Found) (b : ℕ) (r : OrAlarm RealWrites) → ((f : Found) → l ≡ got f → P f.real.0)
      → EachLocated P r
      → EachLocated P (l >>= (λ f. r >>= (λ ws. got ((f.real, b) ∷ ws))))
  join_each (alarm n x) b r p h = tt
  join_each (got f) b r p h = add_each f b r (p f refl) h

module _ (map : Map) (m x : Memory) (lengthx : length x ≡ length m)
    (mapx : (a : ℕ) → InMap map m a → byte_at x a ≡ byte_at m a) where
  found_writable : (z : VirtualAddress) (f : Found) → mapped map x z Write ≡ got f
      → WritableReached map m (frame_around f.real.0)
  unfolding mapped allows_write
  found_writable z f h =
      let g = order_got _ _ _ _ _ _ _ _ h in
      let below = ltb-true (page_of z) map.length g.0 in
      let e = entry_same map m x lengthx mapx (page_of z) below in
      record {
        page = page_of z;
        names =
            record {
              below = below;
              there = rw e at g.1;
              whole = rw (lengthx, e) at g.2;
              frame = frame_of_real
                  _ z ∙ ap (λ (k : Found). frame_around k.real.0) (rw e at g.5);
            };
        write = rw e at g.3;
      }

  pub located-writable : (ws : VirtualWrites)
      → EachLocated (λ a. WritableReached map m (frame_around a)) (located (mapped map x) ws)
  unfolding located
  located-writable [] = tt
  located-writable (w ∷ ws) =
      join_each (λ a. WritableReached map m (frame_around a)) (mapped map x w.0 Write) w.1
      (located (mapped map x) ws) (found_writable w.0) (located-writable ws)
