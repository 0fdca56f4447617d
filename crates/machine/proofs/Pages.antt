-- What the lookup of a first byte tells of the bytes after it in its page: each has the same alarm,
-- or lies as far behind it in memory as in the page. So values, and writes of any number of bytes,
-- go to one place. In kernel mode this rests on a memory of whole frames.
use Prim.Native.Nat.{ℕ, zero, suc, ◌+◌, ◌-◌, ◌*◌, ◌/◌, ◌%◌, ◌≤◌, ◌<◌}
use mathlib.Core.Path.{◌≡◌, refl, ap, ◌∙◌}
use mathlib.Core.Bool.{Bool, true, false}
use mathlib.Core.List.{List, [], ◌∷◌}
use native.Mathlib.Omega.{arith}
use native.Mathlib.Nat.{add-zero}
use borrow.Author.Tests.{ltb-true, ltb-false, leb-true, lt-ltb, le-ltb}
use lib.Dec.{ltb, eqb}
use lib.ListN.{length}
use Rattle.machine.specs.declared.Alarm.{Alarm}
use Rattle.machine.specs.declared.Alarm.TheVariants as alarms
use Rattle.machine.specs.declared.Map.{Map}
use Rattle.machine.specs.declared.RealAddress.{RealAddress}
use Rattle.machine.specs.declared.VirtualAddress.{VirtualAddress}
use Rattle.machine.specs.declared.Access.{Access}
use Rattle.machine.specs.declared.Access.TheVariants.{Write}
use Rattle.machine.specs.Words.{pick, Memory, byte_at, value_at, wrap}
use Rattle.machine.specs.State.{frame_start, user_mode}
use Rattle.machine.specs.Alarms.{got, alarm}
use Rattle.machine.specs.Map.{page_of, map_entry, present, forbidden_bits, frame_of, undamaged, Found, found_at}
use Rattle.machine.specs.Map.{in_frame, allows_write, allows_fetch, in_number_order, View, mapped, unmapped, real_of}
use Rattle.machine.specs.Map.{view_by, read_from, read_bytes, writes_from, real_writes_from, located}
use Rattle.machine.specs.OnePage.{answer_on}
use Rattle.machine.proofs.Widths.{and_true}
use Rattle.machine.proofs.Views.{order_got}

-- ---- Both modes

pub by_mode : (s : ℕ) (map : Map) (m : Memory) (P : View → Type 0) → P (mapped map m) → P (unmapped m) → P (view_by s map m)
unfolding view_by
by_mode s map m P f g = go (user_mode s)
  where
    go : (u : Bool) → P (pick u (mapped map m) (unmapped m))
    go true = f
    go false = g

-- ---- What is found is a byte of the memory

pub view_found : (s : ℕ) (map : Map) (m : Memory) (x : VirtualAddress) (w : Access) (f : Found)
    → view_by s map m x w ≡ got f → f ≡ found_at m f.real
unfolding mapped unmapped
view_found s map m x w f =
    by_mode s map m (λ v. v x w ≡ got f → f ≡ found_at m f.real)
    (λ h. named _ (order_got _ _ _ _ _ _ _ _ h).5)
    (picked (ltb x.0 (length m)) (real_of x))
  where
    named : (a : RealAddress) → found_at m a ≡ f → f ≡ found_at m f.real
    named a e = rw (← e)

    picked : (b : Bool) (a : RealAddress) → pick b (got (found_at m a)) (alarm alarms.Address x.0) ≡ got f
        → f ≡ found_at m f.real
    picked true a e = named a (cc)
    picked false a e = cc

-- ---- An alarm names the address that was looked up

module _ (x : VirtualAddress) (f : Found) (n : Alarm) (y : ℕ) where
  order_names : (b t s k l : Bool) → in_number_order b t s k l x f ≡ alarm n y → y ≡ x.0
  unfolding in_number_order
  order_names false t s k l h = cc
  order_names true false s k l h = cc
  order_names true true false k l h = cc
  order_names true true true false l h = cc
  order_names true true true true false h = cc
  order_names true true true true true h = cc

  pick_names : (b : Bool) → pick b (got f) (alarm alarms.Address x.0) ≡ alarm n y → y ≡ x.0
  pick_names true h = cc
  pick_names false h = cc

pub view_names : (s : ℕ) (map : Map) (m : Memory) (x : VirtualAddress) (w : Access) (n : Alarm) (y : ℕ)
    → view_by s map m x w ≡ alarm n y → y ≡ x.0
unfolding mapped unmapped
view_names s map m x w n y =
    let e = map_entry map m (page_of x) in
    by_mode s map m (λ v. v x w ≡ alarm n y → y ≡ x.0)
    (order_names x (found_at m (in_frame (frame_of e) x)) n y (ltb (page_of x) map.length) (present e)
    (undamaged (length m) e) (allows_write w e) (allows_fetch w e))
    (pick_names x (found_at m (real_of x)) n y (ltb x.0 (length m)))

-- ---- The lookup of a byte further on

module _ (m : Memory) (x : VirtualAddress) (k : ℕ) where
  order_on : (b t s p l : Bool) (a : RealAddress)
      → in_number_order b t s p l (record { 0 = x.0 + k }) (found_at m (record { 0 = a.0 + k }))
      ≡ answer_on m k (in_number_order b t s p l x (found_at m a))
  unfolding in_number_order
  order_on false t s p l a = refl
  order_on true false s p l a = refl
  order_on true true false p l a = refl
  order_on true true true false l a = refl
  order_on true true true true false a = refl
  order_on true true true true true a = refl

  module _ (w : Access) (near : x.0 % 512 + k < 512) where
    mapped_on : (map : Map) → mapped map m (record { 0 = x.0 + k }) w ≡ answer_on m k (mapped map m x w)
    unfolding mapped in_frame
    mapped_on map =
        let p : (x.0 + k) / 512 ≡ x.0 / 512 = omega arith in
        let f = frame_start (frame_of (map_entry map m (page_of x))) in
        let r : f + (x.0 + k) % 512 ≡ f + x.0 % 512 + k = omega arith in
        rw (p, r) (order_on _ _ _ _ _ (record { 0 = f + x.0 % 512 }))

    unmapped_on : length m % 512 ≡ 0 → unmapped m (record { 0 = x.0 + k }) w ≡ answer_on m k (unmapped m x w)
    unfolding unmapped
    unmapped_on whole = go (ltb x.0 (length m)) refl
      where
        go : (b : Bool) → ltb x.0 (length m) ≡ b
            → pick (ltb (x.0 + k) (length m)) (got (found_at m (record { 0 = x.0 + k }))) (alarm alarms.Address (x.0 + k))
            ≡ answer_on m k (pick b (got (found_at m (real_of x))) (alarm alarms.Address x.0))
        go true h = rw (lt-ltb (x.0 + k) (length m) (omega (arith, ltb-true x.0 (length m) h)))
        go false h = rw (le-ltb (x.0 + k) (length m) (omega (arith, ltb-false x.0 (length m) h)))

    pub view_on : (s : ℕ) (map : Map) → length m % 512 ≡ 0
        → view_by s map m (record { 0 = x.0 + k }) w ≡ answer_on m k (view_by s map m x w)
    view_on s map whole =
        by_mode s map m (λ v. v (record { 0 = x.0 + k }) w ≡ answer_on m k (v x w)) (mapped_on map) (unmapped_on whole)

-- ---- An alarm

-- the lookup of address x ends in alarm n
pub record Alarms (s : ℕ) (map : Map) (m : Memory) (x : VirtualAddress) (w : Access) (n : Alarm) : Type 0 where
  pub small : x.0 < 0x1_0000_0000
  pub miss : view_by s map m x w ≡ alarm n x.0

module _ {s : ℕ} {map : Map} {m : Memory} {x : VirtualAddress} {n : Alarm} where
  pub read_alarm : {w : Access} → Alarms s map m x w n → (L acc : ℕ) → 0 < L
      → read_from (view_by s map m) w L x.0 acc ≡ alarm n x.0
  unfolding read_from
  read_alarm f zero acc p = absurd (omega arith)
  read_alarm f (suc L) acc p = let e : wrap x.0 ≡ x.0 = omega arith in rw (e, f.miss)

  pub located_alarm : Alarms s map m x Write n → (bs : List ℕ) → 0 < length bs
      → located (view_by s map m) (writes_from x.0 bs) ≡ alarm n x.0
  unfolding located writes_from
  located_alarm f [] p = absurd (omega arith)
  located_alarm f (b ∷ bs) p = let e : wrap x.0 ≡ x.0 = omega arith in rw (e, f.miss)

-- ---- A byte that is found, in either mode

module _ (m : Memory) (x : VirtualAddress) (w : Access) (a : RealAddress) where
  module _ (map : Map) (hit : mapped map m x w ≡ got (found_at m a)) where
    mapped_tests : (ltb (page_of x) map.length ≡ true) × (present (map_entry map m (page_of x)) ≡ true)
        × (undamaged (length m) (map_entry map m (page_of x)) ≡ true)
        × (allows_write w (map_entry map m (page_of x)) ≡ true) × (allows_fetch w (map_entry map m (page_of x)) ≡ true)
        × (found_at m (in_frame (frame_of (map_entry map m (page_of x))) x) ≡ found_at m a)
    unfolding mapped
    mapped_tests = order_got _ _ _ _ _ _ _ _ hit

    mapped_real : frame_start (frame_of (map_entry map m (page_of x))) + x.0 % 512 ≡ a.0
    unfolding in_frame
    mapped_real = ap (λ (f : Found). f.real.0) mapped_tests.5

    mapped_inside : a.0 < length m
    unfolding undamaged
    mapped_inside =
        let e = map_entry map m (page_of x) in
        let s = leb-true (frame_start (frame_of e) + 512) (length m)
        (and_true (eqb (forbidden_bits e) 0) _ mapped_tests.2).1 in
        omega (arith, mapped_real)

  unmapped_tests : (b : Bool) (f g : Found) → pick b (got f) (alarm alarms.Address x.0) ≡ got g
      → (b ≡ true) × (f ≡ g)
  unmapped_tests true f g h = (refl, cc)
  unmapped_tests false f g h = (cc, cc)

  module _ (hit : unmapped m x w ≡ got (found_at m a)) where
    unmapped_inside : (x.0 < length m) × (x.0 ≡ a.0)
    unfolding unmapped
    unmapped_inside =
        let t = unmapped_tests (ltb x.0 (length m)) (found_at m (real_of x)) (found_at m a) hit in
        (ltb-true x.0 (length m) t.0, ap (λ (f : Found). f.real.0) t.1)

pub found_inside : (s : ℕ) (map : Map) (m : Memory) (x : VirtualAddress) (w : Access) (a : RealAddress)
    → view_by s map m x w ≡ got (found_at m a) → a.0 < length m
found_inside s map m x w a =
    by_mode s map m (λ v. v x w ≡ got (found_at m a) → a.0 < length m)
    (mapped_inside m x w a map)
    (λ h. omega (arith, (unmapped_inside m x w a h).0, (unmapped_inside m x w a h).1))

-- ---- The rest of its page

-- the lookup of address x finds place a, in a memory of whole frames
pub record Finds (s : ℕ) (map : Map) (m : Memory) (x : VirtualAddress) (w : Access) (a : RealAddress) : Type 0 where
  pub small : x.0 < 0x1_0000_0000
  pub whole : length m % 512 ≡ 0
  pub hit : view_by s map m x w ≡ got (found_at m a)

module _ {s : ℕ} {map : Map} {m : Memory} {x : VirtualAddress} {w : Access} {a : RealAddress}
    (f : Finds s map m x w a) where
  -- k bytes further on
  found_onward : (k : ℕ) → x.0 % 512 + k < 512
      → view_by s map m (record { 0 = x.0 + k }) w ≡ got (found_at m (record { 0 = a.0 + k }))
  found_onward k l = view_on m x k w l s map f.whole ∙ ap (answer_on m k) f.hit

  pub found_page : (k : ℕ) → x.0 % 512 + k < 512
      → view_by s map m (record { 0 = wrap (x.0 + k) }) w ≡ got (found_at m (record { 0 = a.0 + k }))
  found_page k l = let e : wrap (x.0 + k) ≡ x.0 + k = omega arith in rw e (found_onward k l)

  pub page_inside : (n : ℕ) → 0 < n → x.0 % 512 + n ≤ 512 → a.0 + n ≤ length m
  page_inside n p l =
      let i = found_inside s map m (record { 0 = x.0 + (n - 1) }) w (record { 0 = a.0 + (n - 1) })
      (found_onward (n - 1) (omega arith)) in omega arith

  -- a value in one page
  pub read_from_lem : (L k acc : ℕ) → x.0 % 512 + k + L ≤ 512
      → read_from (view_by s map m) w L (x.0 + k) acc ≡ got (value_at m L (a.0 + k) acc)
  unfolding read_from value_at
  read_from_lem zero k acc l = refl
  read_from_lem (suc L) k acc l =
      let p : x.0 + k + 1 ≡ x.0 + suc k = omega arith in
      let q : a.0 + k + 1 ≡ a.0 + suc k = omega arith in
      rw (found_page k (omega arith), p, q) (read_from_lem L (suc k) (acc * 256 + byte_at m (a.0 + k)) (omega arith))

  pub read_page : (L : ℕ) → x.0 % 512 + L ≤ 512 → read_bytes (view_by s map m) w L x ≡ got (value_at m L a.0 0)
  read_page L l = rw (add-zero x.0, add-zero a.0) at (read_from_lem L 0 0 (omega arith))

-- writes in one page
module _ {s : ℕ} {map : Map} {m : Memory} {x : VirtualAddress} {a : RealAddress} (f : Finds s map m x Write a) where
  located_from : (bs : List ℕ) (k : ℕ) → x.0 % 512 + k + length bs ≤ 512
      → located (view_by s map m) (writes_from (x.0 + k) bs) ≡ got (real_writes_from (a.0 + k) bs)
  unfolding located writes_from real_writes_from
  located_from [] k l = refl
  located_from (b ∷ bs) k l =
      let p : x.0 + k + 1 ≡ x.0 + suc k = omega arith in
      let q : suc (a.0 + k) ≡ a.0 + suc k = omega arith in
      rw (found_page f k (omega arith), p, q, located_from bs (suc k) (omega arith))

  pub located_page : (bs : List ℕ) → x.0 % 512 + length bs ≤ 512
      → located (view_by s map m) (writes_from x.0 bs) ≡ got (real_writes_from a.0 bs)
  located_page bs l = rw (add-zero x.0, add-zero a.0) at (located_from bs 0 (omega arith))
