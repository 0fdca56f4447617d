-- Blocks of words in memory: what is written word by word, laid into a row and read word by word,
-- and a word of the system block.
use Prim.Native.Nat.{ℕ, zero, suc, ◌+◌, ◌-◌, ◌*◌, ◌/◌, ◌%◌, ◌≤◌, ◌<◌}
use mathlib.Core.Path.{◌≡◌, refl, ap, ◌∙◌}
use mathlib.Core.List.{List, [], ◌∷◌, ◌++◌, append_assoc, append-nil}
use native.Mathlib.Nat.{add-zero, div-one}
use native.Mathlib.Numerals.{add-one}
use native.Mathlib.Omega.{arith}
use lib.ListN.{length, get_or, set, take, drop, length-append, length-take, get_or-eq_default}
use lib.Seq.{drop-cons, drop-length, take_at, sets, sets-eq, get_or-take, get_or-drop}
use Rattle.machine.specs.Words.{Memory, byte_at, bytes_of, bytes_of_words, word_at, words_at}
use Rattle.machine.specs.State.{Registers, reg, registers_from}
use Rattle.machine.proofs.Bytes.{bytes_length}

-- ---- Bytes of words

pub words_append : (xs ys : List ℕ) → bytes_of_words (xs ++ ys) ≡ bytes_of_words xs ++ bytes_of_words ys
unfolding bytes_of_words
words_append [] ys = refl
words_append (x ∷ xs) ys = rw (words_append xs ys, append_assoc)

pub one_word : (w : ℕ) → bytes_of_words (w ∷ []) ≡ bytes_of 4 w
unfolding bytes_of_words
one_word w = append-nil (bytes_of 4 w)

pub words_length : (ws : List ℕ) → length (bytes_of_words ws) ≡ 4 * length ws
unfolding bytes_of_words
words_length [] = refl
words_length (w ∷ ws) = rw (length-append, bytes_length 4 w, words_length ws) (omega arith)

pub registers_length : (k i : ℕ) (r : Registers) → length (registers_from k i r) ≡ k
unfolding registers_from
registers_length zero i r = refl
registers_length (suc k) i r = ap suc (registers_length k (suc i) r)

-- ---- Laid into a row of bytes

-- bytes that follow one another are laid one part after the other
pub sets_append : (xs ys bs : List ℕ) (a : ℕ) → sets bs a (xs ++ ys) ≡ sets (sets bs a xs) (a + length xs) ys
sets_append [] ys bs a = rw add-zero
sets_append (x ∷ xs) ys bs a =
    let e : suc a + length xs ≡ a + suc (length xs) = omega arith in
    rw (← e) (sets_append xs ys (set bs a x) (suc a))

-- the first word, then the others
sets_words : (w : ℕ) (ws bs : List ℕ) (a : ℕ)
    → sets bs a (bytes_of_words (w ∷ ws)) ≡ sets (sets bs a (bytes_of 4 w)) (a + 4) (bytes_of_words ws)
unfolding bytes_of_words
sets_words w ws bs a = rw bytes_length at (sets_append (bytes_of 4 w) (bytes_of_words ws) bs a)

-- word i of some, then those after it
pub sets_next : (i : ℕ) (ws bs : List ℕ) (a : ℕ) → i < length ws
    → sets bs (a + 4 * i) (bytes_of_words (drop i ws)) ≡ sets (sets bs (a + 4 * i) (bytes_of 4 (get_or ws i 0)))
    (a + 4 * (i + 1)) (bytes_of_words (drop (i + 1) ws))
sets_next i ws bs a h =
    let e : a + 4 * (i + 1) ≡ a + 4 * i + 4 = omega arith in
    rw (add-one i, drop-cons ws i 0 h, ← add-one i, e) (sets_words (get_or ws i 0) _ bs (a + 4 * i))

-- some words, then two more
pub sets_two_more : (ws : List ℕ) (v w : ℕ) (bs : List ℕ) (a n : ℕ) → length ws ≡ n
    → sets bs a (bytes_of_words (ws ++ v ∷ w ∷ [])) ≡ sets
    (sets (sets bs a (bytes_of_words ws)) (a + 4 * n) (bytes_of 4 v)) (a + (4 * n + 4)) (bytes_of 4 w)
sets_two_more ws v w bs a n l =
    let e : a + length (bytes_of_words ws) ≡ a + 4 * n = omega (arith, words_length ws) in
    let f : a + 4 * n + 4 ≡ a + (4 * n + 4) = omega arith in
    rw (words_append, sets_append (bytes_of_words ws) _ bs a, e, sets_words v (w ∷ []) _ (a + 4 * n), one_word, f)

-- a value that is laid into a row of bytes at its start
pub bytes_first : (L x : ℕ) (bs : List ℕ) → L ≤ length bs → take L (sets bs 0 (bytes_of L x)) ≡ bytes_of L x
bytes_first L x bs l =
    rw (sets-eq (bytes_of L x) bs 0 (omega (arith, bytes_length L x))) (take_at (bytes_of L x) _ L (bytes_length L x))

-- words that fill a row of bytes from its start
pub row_filled : (ws bs : List ℕ) → 4 * length ws ≡ length bs → sets bs 0 (bytes_of_words ws) ≡ bytes_of_words ws
row_filled ws bs l =
    let e : length (bytes_of_words ws) ≡ length bs = words_length ws ∙ l in
    let z : 0 + length bs ≡ length bs = omega arith in
    rw (sets-eq (bytes_of_words ws) bs 0 (omega arith), e, z, drop-length, append-nil)

-- ---- Read

-- one word more, the last
pub words_more : (k : ℕ) (m : Memory) (a : ℕ) → words_at (suc k) m a ≡ words_at k m a ++ (word_at m (a + 4 * k) ∷ [])
unfolding words_at
words_more zero m a = rw add-zero
words_more (suc k) m a =
    let e : a + 4 + 4 * k ≡ a + 4 * suc k = omega arith in
    ap (λ (ws : List ℕ). word_at m a ∷ ws) (rw (← e) (words_more k m (a + 4)))

-- ---- The system block: the 256 bytes from a place on

module _ (m : Memory) (s i : ℕ) where
  pub block-word : i + 4 ≤ 256 → word_at (take 256 (drop s m)) i ≡ word_at m (s + i)
  unfolding word_at
  block-word h =
      rw (
        byte i (s + i) (omega arith),
        byte (i + 1) (s + i + 1) (omega arith),
        byte (i + 2) (s + i + 2)
            (omega arith),
        byte (i + 3) (s + i + 3) (omega arith),
      )
    where
      byte : (j k : ℕ) → (j < 256) × (s + j ≡ k) → byte_at (take 256 (drop s m)) j ≡ byte_at m k
      byte j k e = get_or-take 256 (drop s m) j 0 e.0 ∙ get_or-drop s m j 0 ∙ ap (byte_at m) e.1

  -- past the block
  pub no_word : 256 ≤ i → word_at (take 256 (drop s m)) i ≡ 0
  unfolding word_at
  no_word h =
      rw (byte i (omega arith), byte (i + 1) (omega arith), byte (i + 2) (omega arith), byte (i + 3) (omega arith))
    where
      byte : (j : ℕ) → 256 ≤ j → byte_at (take 256 (drop s m)) j ≡ 0
      byte j e = get_or-eq_default (take 256 (drop s m)) 0 {n = j} (simp length-take (omega arith))
