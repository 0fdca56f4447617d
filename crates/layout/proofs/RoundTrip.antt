-- States and their 90 bytes are one for one.
use Prim.Native.Nat.{ℕ, zero, suc, ◌+◌, ◌*◌, ◌/◌, ◌%◌, ◌<◌, ◌≤◌}
use mathlib.Core.Path.{◌≡◌, refl, sym, ap, ◌∙◌}
use mathlib.Core.Bool.{Bool, true, false}
use mathlib.Core.Logic.{◌≢◌}
use mathlib.Core.List.{List, [], ◌∷◌, ◌++◌, append_assoc}
use native.Mathlib.Nat.{add-zero}
use native.Mathlib.Numerals.{add-one}
use native.Mathlib.Omega.{arith}
use borrow.Author.Tests.{eqb-true, ne_eqb}
use lib.Dec.{eqb}
use lib.ListN.{length, get_or, take, drop, length-append, take-append-drop}
use lib.Seq.{take-add, take_at, drop-cons, drop-drop, drop-length, get_or-append-add}
use Rattle.machine.specs.declared.Mark.{Mark}
use Rattle.machine.specs.declared.Mark.TheVariants.{Running, Stopped}
use Rattle.machine.specs.declared.Desk.{Desk}
use Rattle.machine.specs.Words.{pick, byte_at, bytes_of, bytes_of_words, word_at, words_at}
use Rattle.machine.proofs.Bytes.{bytes_length, bytes_joined, word-joined}
use Rattle.machine.proofs.Blocks.{words_length}
use Rattle.words.proofs.Bytes.{four_bytes_back}
use Rattle.layout.specs.Layout.{state_bytes, runs, mark_number, mark_of, other_words, words_of, packed, unpacked}

-- ---- The mark

mark_word : (n : ℕ) → mark_number (mark_of n) ≡ n
unfolding mark_of
mark_word n = go (eqb n runs) refl
  where
    go : (t : Bool) → eqb n runs ≡ t → mark_number (pick t Running (Stopped n)) ≡ n
    go true e = sym (eqb-true n runs e)
    go false e = refl

word_mark : (k : Mark) → k ≢ Stopped runs → mark_of (mark_number k) ≡ k
unfolding mark_of
word_mark Running h = refl
word_mark (Stopped n) h = rw (ne_eqb n runs (λ e. h (ap Stopped e)))

-- ---- Bytes, their words, and the bytes again

words_unpacked : (b : List ℕ) → words_of (unpacked b) ≡ words_at 22 b 0
unfolding words_of unpacked words_at
words_unpacked b = rw (mark_word (word_at b 84))

module _ (b : List ℕ) (small : (i : ℕ) → byte_at b i < 256) where
  word_bytes : (a : ℕ) → a + 4 ≤ length b → bytes_of 4 (word_at b a) ≡ take 4 (drop a b)
  unfolding word_at
  word_bytes a h =
      four_bytes_back _ _ _ _ (small a) (small (a + 1)) (small (a + 2)) (small (a + 3))
      ∙ rw (
        next a (a + 1) (omega arith),
        next (a + 1) (a + 2) (omega arith),
        next (a + 2) (a + 3) (omega arith),
        next (a + 3) (a + 4) (omega arith),
      )
    where
      next : (i j : ℕ) → (i < length b) × (i + 1 ≡ j) → drop i b ≡ byte_at b i ∷ drop j b
      next i j e = rw (← e.1, add-one) (drop-cons b i 0 e.0)

  words_bytes : (k a : ℕ) → a + 4 * k ≤ length b → bytes_of_words (words_at k b a) ≡ take (4 * k) (drop a b)
  unfolding bytes_of_words words_at
  words_bytes zero a h = refl
  words_bytes (suc k) a h =
      let e : 4 * suc k ≡ 4 + 4 * k = omega arith in
      rw (e, take-add 4 (4 * k), drop-drop 4 a b, word_bytes a (omega arith), words_bytes k (a + 4) (omega arith))

  pending_bytes : length b ≡ state_bytes → bytes_of 2 (byte_at b 88 * 256 + byte_at b 89) ≡ drop 88 b
  unfolding bytes_of
  pending_bytes l =
      let v : ℕ = byte_at b 88 * 256 + byte_at b 89 in
      let e : v / 256 % 256 ≡ byte_at b 88 = omega (arith, small 88, small 89) in
      let f : v / 1 % 256 ≡ byte_at b 89 = omega (arith, small 88, small 89) in
      let none : drop 90 b ≡ [] = rw l at (drop-length b) in
      rw (drop-cons b 88 0 (omega arith), drop-cons b 89 0 (omega arith), none, e, f)

-- the bytes of the state that some bytes hold are those bytes
pub packed-unpacked : (b : List ℕ) → length b ≡ state_bytes → ((i : ℕ) → byte_at b i < 256) → packed (unpacked b) ≡ b
unfolding packed
packed-unpacked b l small =
    let p : bytes_of 2 (unpacked b).pending ≡ drop 88 b = (unfold unpacked in pending_bytes b small l) in
    rw (words_unpacked b, words_bytes b small 22 0 (omega arith), p) (take-append-drop 88 b)

-- ---- Words, their bytes, and the words again

-- a desk of 16 registers whose numbers have room in their bytes, not stopped with the number that
-- says that it runs
pub record Held (d : Desk) : Type 0 where
  pub sixteen : length d.registers ≡ 16
  pub words : (i : ℕ) → get_or (words_of d) i 0 < 0x1_0000_0000
  pub pending : d.pending < 0x1_0000
  pub told : d.mark ≢ Stopped runs

word_back : (before after : List ℕ) (w : ℕ) → w < 0x1_0000_0000
    → word_at (before ++ (bytes_of 4 w ++ after)) (length before) ≡ w
word_back before after w h =
    word-joined (before ++ rest) (length before)
    ∙ rw (rw add-zero at (at 0), at 1, at 2, at 3) (unfold bytes_of in bytes_joined 4 0 w ∙ omega arith)
  where
    rest : List ℕ
    rest = bytes_of 4 w ++ after

    at : (n : ℕ) → byte_at (before ++ rest) (length before + n) ≡ byte_at rest n
    at n = get_or-append-add before rest n 0

words_back : (ws before after : List ℕ) → ((i : ℕ) → get_or ws i 0 < 0x1_0000_0000)
    → words_at (length ws) (before ++ (bytes_of_words ws ++ after)) (length before) ≡ ws
unfolding bytes_of_words words_at
words_back [] before after h = refl
words_back (w ∷ ws) before after h =
    let rest : List ℕ = bytes_of_words ws ++ after in
    let l : length (before ++ bytes_of 4 w) ≡ length before + 4 = rw (length-append, bytes_length 4 w) in
    let others = rw (l, append_assoc) at (words_back ws (before ++ bytes_of 4 w) after (λ i. h (suc i))) in
    rw (append_assoc (bytes_of 4 w) (bytes_of_words ws) after, word_back before rest w (h 0), others)

module _ (d : Desk) (h : Held d) where
  words_22 : length (words_of d) ≡ 22
  unfolding words_of
  words_22 = rw (length-append, h.sixteen)

  all_words : words_at 22 (packed d) 0 ≡ words_of d
  unfolding packed
  all_words = rw words_22 at (words_back (words_of d) [] (bytes_of 2 d.pending) h.words)

  -- the words after the registers
  word_after : (j : ℕ) → get_or (words_at 22 (packed d) 0) (16 + j) 0 ≡ get_or (other_words d) j 0
  unfolding words_of
  word_after j = rw all_words (rw h.sixteen at (get_or-append-add d.registers (other_words d) j 0))

  registers_back : words_at 16 (packed d) 0 ≡ d.registers
  unfolding words_at words_of
  registers_back = ap (take 16) all_words ∙ take_at d.registers (other_words d) 16 h.sixteen

  pending_back : byte_at (packed d) 88 * 256 + byte_at (packed d) 89 ≡ d.pending
  unfolding packed
  pending_back =
      let l : length (bytes_of_words (words_of d)) ≡ 88 = rw (words_length (words_of d), words_22) in
      let at = get_or-append-add (bytes_of_words (words_of d)) (bytes_of 2 d.pending) in
      rw (rw l at (at 0 0), rw l at (at 1 0)) (unfold bytes_of in omega (arith, h.pending))

  -- the state that a desk's bytes hold is that desk
  pub unpacked-packed : unpacked (packed d) ≡ d
  unfolding unpacked words_at
  unpacked-packed =
      let status : word_at (packed d) 64 ≡ d.status = word_after 0 in
      let base : word_at (packed d) 68 ≡ d.map.base.0 = word_after 1 in
      let length : word_at (packed d) 72 ≡ d.map.length = word_after 2 in
      let system : word_at (packed d) 76 ≡ d.system.0 = word_after 3 in
      let control : word_at (packed d) 80 ≡ d.control.0 = word_after 4 in
      let mark : word_at (packed d) 84 ≡ mark_number d.mark = word_after 5 in
      rw (registers_back, status, base, length, system, control, mark, word_mark d.mark h.told, pending_back)
