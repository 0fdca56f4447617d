-- What a command sees and holds has room in its bytes: numbers below 2^32, bytes below 256, alone
-- and in lists, as registers, as values that may be alarms, as views and what is read through them.
use Prim.Native.Nat.{ℕ, zero, suc, ◌+◌, ◌*◌, ◌^◌, ◌<◌}
use mathlib.Core.Path.{◌≡◌, refl, ap, ◌∙◌}
use mathlib.Core.Bool.{Bool, true, false}
use mathlib.Core.List.{List, [], ◌∷◌, ◌++◌}
use native.Mathlib.Nat.{pow-succ'}
use native.Mathlib.Omega.{arith}
use lib.Dec.{ltb}
use lib.ListN.{length, get_or, set, take, drop, length-set}
use lib.Seq.{get_or-drop}
use Rattle.machine.specs.declared.VirtualAddress.{VirtualAddress}
use Rattle.machine.specs.declared.Access.{Access}
use Rattle.machine.specs.declared.Size.{Size}
use Rattle.machine.specs.declared.Size.TheVariants.{B, H, W}
use Rattle.machine.specs.declared.Map.{Map}
use Rattle.machine.specs.Words.{Memory, length_of, word_at, words_at, wrap}
use Rattle.machine.specs.State.{Registers, user_mode}
use Rattle.machine.specs.Alarms.{OrAlarm, got, alarm, ◌>>=◌}
use Rattle.machine.specs.Map.{Found, in_number_order, View, mapped, unmapped, view_by, read_from, read_bytes}
use Rattle.midesk.proofs.Stops.{picked}

-- ---- Numbers and lists of them

abbrev pub Word : ℕ → Type 0
Word n = n < 0x1_0000_0000

-- every number of a list is below k; where the list ends, 0 is
pub record Below (k : ℕ) (xs : List ℕ) : Type 0 where
  pub at : (i : ℕ) → get_or xs i 0 < k

module _ {k : ℕ} where
  pub none_below : 0 < k → Below k []
  none_below h = record { at = λ i. h }

  pub cons_below : {x : ℕ} {xs : List ℕ} → x < k → Below k xs → Below k (x ∷ xs)
  cons_below {x} {xs} h hs = record { at = go }
    where
      go : (i : ℕ) → get_or (x ∷ xs) i 0 < k
      go zero = h
      go (suc i) = hs.at i

  pub tail_below : {x : ℕ} {xs : List ℕ} → Below k (x ∷ xs) → Below k xs
  tail_below h = record { at = λ i. h.at (suc i) }

  pub append_below : (xs : List ℕ) {ys : List ℕ} → Below k xs → Below k ys → Below k (xs ++ ys)
  append_below [] h g = g
  append_below (x ∷ xs) h g = cons_below (h.at 0) (append_below xs (tail_below h) g)

  pub set_below : (xs : List ℕ) (i : ℕ) {v : ℕ} → Below k xs → v < k → Below k (set xs i v)
  set_below [] i h g = h
  set_below (x ∷ xs) zero h g = cons_below g (tail_below h)
  set_below (x ∷ xs) (suc i) h g = cons_below (h.at 0) (set_below xs i (tail_below h) g)

  take_below : (n : ℕ) (xs : List ℕ) → Below k xs → Below k (take n xs)
  take_below zero xs h = none_below (omega (arith, h.at 0))
  take_below (suc n) [] h = h
  take_below (suc n) (x ∷ xs) h = cons_below (h.at 0) (take_below n xs (tail_below h))

  pub part_below : (n a : ℕ) (xs : List ℕ) → Below k xs → Below k (take n (drop a xs))
  part_below n a xs h = take_below n (drop a xs) (record { at = λ i. rw get_or-drop (h.at (a + i)) })

-- ---- Words of a memory of bytes

module _ (m : Memory) (h : Below 256 m) where
  pub word_held : (a : ℕ) → Word (word_at m a)
  unfolding word_at
  word_held a = omega (arith, h.at a, h.at (a + 1), h.at (a + 2), h.at (a + 3))

  pub words_held : (k a : ℕ) → Below 0x1_0000_0000 (words_at k m a)
  unfolding words_at
  words_held zero a = none_below (omega arith)
  words_held (suc k) a = cons_below (word_held a) (words_held k (a + 4))

pub words_count : (k : ℕ) (m : Memory) (a : ℕ) → length (words_at k m a) ≡ k
unfolding words_at
words_count zero m a = refl
words_count (suc k) m a = ap suc (words_count k m (a + 4))

-- ---- Registers: sixteen words

pub record Sixteen (r : Registers) : Type 0 where
  pub count : length r ≡ 16
  pub words : Below 0x1_0000_0000 r

pub set_held : {r : Registers} (i v : ℕ) → Sixteen r → Word v → Sixteen (set r i v)
set_held {r} i v h g = record { count = length-set r i v ∙ h.count; words = set_below r i h.words g }

-- ---- A value, or an alarm

-- the value, if there is one, has the property P
abbrev pub Got : {A : Type 0} → (A → Type 0) → OrAlarm A → Type 0
Got P (got a) = P a
Got P (alarm k x) = Unit {0}

-- after a value that has one
pub bound : {A B : Type 0} (P : A → Type 0) (Q : B → Type 0) (t : OrAlarm A) (f : A → OrAlarm B) → Got P t
    → ((a : A) → P a → Got Q (f a)) → Got Q (t >>= f)
bound P Q (got a) f h g = g a h
bound P Q (alarm k x) f h g = tt

weaker : {A : Type 0} (P Q : A → Type 0) (t : OrAlarm A) → ((a : A) → P a → Q a) → Got P t → Got Q t
weaker P Q (got a) f h = f a h
weaker P Q (alarm k x) f h = tt

-- after a value of which nothing is known
pub after : {A B : Type 0} (Q : B → Type 0) (t : OrAlarm A) (f : A → OrAlarm B) → ((a : A) → Got Q (f a))
    → Got Q (t >>= f)
after Q (got a) f g = g a
after Q (alarm k x) f g = tt

-- ---- Bytes that a command sees

abbrev Seen : OrAlarm Found → Type 0
Seen t = Got (λ (f : Found). f.byte < 256) t

abbrev pub Sees : View → Type 0
Sees v = (x : VirtualAddress) (w : Access) → Seen (v x w)

order_seen : (a b c d e : Bool) (x : VirtualAddress) (f : Found) → f.byte < 256
    → Seen (in_number_order a b c d e x f)
unfolding in_number_order
order_seen false b c d e x f h = tt
order_seen true false c d e x f h = tt
order_seen true true false d e x f h = tt
order_seen true true true false e x f h = tt
order_seen true true true true false x f h = tt
order_seen true true true true true x f h = h

pub view_sees : (s : ℕ) (map : Map) (m : Memory) → Below 256 m → Sees (view_by s map m)
unfolding view_by mapped unmapped
view_sees s map m h x w =
    picked (λ (v : View). Seen (v x w)) (user_mode s) (mapped map m) (unmapped m)
    (order_seen _ _ _ _ _ x _ (h.at _))
    (picked Seen (ltb x.0 (length m)) _ _ (h.at x.0) tt)

-- ---- Reads

module _ (v : View) (sees : Sees v) where
  read_below : (w : Access) (L a acc k : ℕ) → acc < k → Got (λ (n : ℕ). n < k * 256 ^ L) (read_from v w L a acc)
  unfolding read_from
  read_below w zero a acc k h = omega arith
  read_below w (suc L) a acc k h =
      let same : k * 256 * 256 ^ L ≡ k * 256 ^ suc L = rw (pow-succ' 256 L) (omega arith) in
      bound (λ (f : Found). f.byte < 256) (λ (n : ℕ). n < k * 256 ^ suc L) (v (record { 0 = wrap a }) w) _
      (sees (record { 0 = wrap a }) w)
      (λ f g. rw same at (read_below w L (a + 1) (acc * 256 + f.byte) (k * 256) (omega arith)))

  pub read_held : (w : Access) (s : Size) (x : VirtualAddress) → Got Word (read_bytes v w (length_of s) x)
  read_held w s x =
      weaker (λ (n : ℕ). n < 1 * 256 ^ length_of s) Word (read_bytes v w (length_of s) x) (wide s)
      (read_below w (length_of s) x.0 0 1 (omega arith))
    where
      wide : (s : Size) (n : ℕ) → n < 1 * 256 ^ length_of s → Word n
      wide B n h = omega arith
      wide H n h = omega arith
      wide W n h = omega arith
