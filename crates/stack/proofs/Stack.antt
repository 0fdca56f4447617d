-- POPR turn by turn, and what it comes to in one page; what PUSHR writes as one row of words.
use Prim.Native.Nat.{ℕ, zero, suc, ◌+◌, ◌-◌, ◌*◌, ◌%◌, ◌<◌, ◌≤◌}
use mathlib.Core.Path.{◌≡◌, refl, ap, ◌∙◌}
use mathlib.Core.List.{List, [], ◌∷◌, ◌++◌, append_assoc, append-nil}
use native.Mathlib.Nat.{add-zero, zero-add}
use native.Mathlib.Numerals.{add-one}
use native.Mathlib.Omega.{arith}
use borrow.Author.Tests.{eq-eqb, ne_eqb}
use lib.ListN.{length, set, length-append, length-set}
use lib.Seq.{sets, set-set, set_comm, set-get_or, get_or-set_same}
use Rattle.machine.specs.declared.Access.TheVariants.{Read}
use Rattle.machine.specs.declared.Alarm.{Alarm}
use Rattle.machine.specs.declared.Map.{Map}
use Rattle.machine.specs.declared.RealAddress.{RealAddress}
use Rattle.machine.specs.declared.VirtualAddress.{VirtualAddress}
use Rattle.machine.specs.Words.{Memory, bytes_of, bytes_of_words, word_at, words_at, wrap, raised, lowered}
use Rattle.machine.specs.State.{Registers, reg, registers_from}
use Rattle.machine.specs.Alarms.{got, alarm}
use Rattle.machine.specs.Map.{View, VirtualWrites, read_bytes, view_by, writes_from}
use Rattle.machine.specs.Operands.{virtual}
use Rattle.machine.specs.Commands.{pushed, popped}
use Rattle.machine.proofs.Blocks.{sets_append, words_append, one_word, words_length, registers_length, row_filled}
use Rattle.machine.proofs.Bytes.{four_byte_value}
use Rattle.machine.proofs.Pages.{Finds, read_from_lem}
use Rattle.reads.proofs.Reading.{read-virtual}
use Rattle.stack.specs.Rows.{row_of}

-- ---- POPR

module _ (v : View) (n i : ℕ) (r : Registers) where
  pub popped-next : i < n → (w : ℕ) → got w ≡ read_bytes v Read 4 (record { 0 = reg r 14 })
      → popped v (n - i) i r ≡ popped v (n - (i + 1)) (i + 1) (set (set r i w) 14 (raised (reg (set r i w) 14) 4))
  unfolding popped
  popped-next h w e = let p : n - i ≡ suc (n - (i + 1)) = omega arith in rw (p, read-virtual, ← e, add-one i)

  pub popped_alarm : i < n → (k : Alarm) (x : ℕ) → alarm k x ≡ read_bytes v Read 4 (record { 0 = reg r 14 })
      → popped v (n - i) i r ≡ alarm k x
  unfolding popped
  popped_alarm h k x e = let p : n - i ≡ suc (n - (i + 1)) = omega arith in rw (p, read-virtual, ← e)

  pub popped_all : n ≤ i → popped v (n - i) i r ≡ got r
  unfolding popped
  popped_all h = let p : n - i ≡ 0 = omega arith in rw p

-- ---- POPR in one page: the byte at SP is found at place a, and the words lie side by side

module _ {s : ℕ} {map : Map} {m : Memory} {x : VirtualAddress} {a : RealAddress} (f : Finds s map m x Read a)
    (page : x.0 % 512 + 60 ≤ 512) where
  word_read : (i : ℕ) → i ≤ 14
      → read_bytes (view_by s map m) Read 4 (virtual (x.0 + 4 * i)) ≡ got (word_at m (a.0 + 4 * i))
  word_read i l = rw (read-virtual, read_from_lem f 4 (4 * i) 0 (omega arith), four_byte_value)

  -- a turn before the last: Ri is the word, and SP goes on to the next
  turn_below : (n i : ℕ) (r : Registers) → i < 14 → 14 < length r
      → popped (view_by s map m) (suc n) i (set r 14 (x.0 + 4 * i)) ≡ popped (view_by s map m) n (suc i)
      (set (set r i (word_at m (a.0 + 4 * i))) 14 (x.0 + 4 * suc i))
  unfolding popped
  turn_below n i r l h =
      let w = word_at m (a.0 + 4 * i) in
      let long : 14 < length (set r i w) = simp length-set h in
      let up : raised (x.0 + 4 * i) 4 ≡ x.0 + 4 * suc i = omega arith in
      rw (
        get_or-set_same r 14 (x.0 + 4 * i) 0 h,
        word_read i (omega arith),
        set_comm r 14 i (x.0 + 4 * i) w (λ e. omega arith),
        get_or-set_same (set r i w) 14 (x.0 + 4 * i) 0 long,
        set-set,
        up,
      )

  -- the last turn: SP itself is the word, and is raised
  turn_last : (r : Registers) → 14 < length r
      → popped (view_by s map m) 1 14 (set r 14 (x.0 + 56)) ≡ got (set r 14 (raised (word_at m (a.0 + 56)) 4))
  unfolding popped
  turn_last r h =
      let w = word_at m (a.0 + 56) in
      rw (
        get_or-set_same r 14 (x.0 + 56) 0 h,
        word_read 14 (omega arith),
        set-set r 14 (x.0 + 56) w,
        get_or-set_same r 14 w 0 h,
        set-set r 14 w,
      )

  -- n turns from i on, and the last one
  turns : (n i : ℕ) (r : Registers) → i + n ≡ 14 → 14 < length r
      → popped (view_by s map m) (suc n) i (set r 14 (x.0 + 4 * i)) ≡ got
      (sets r i (words_at n m (a.0 + 4 * i) ++ raised (word_at m (a.0 + 56)) 4 ∷ []))
  unfolding words_at
  turns zero i r e h = let p : i ≡ 14 = omega arith in rw p (turn_last r h)
  turns (suc n) i r e h =
      let next : a.0 + 4 * i + 4 ≡ a.0 + 4 * suc i = omega arith in
      rw next
      (turn_below (suc n) i r (omega arith) h
      ∙ turns n (suc i) (set r i (word_at m (a.0 + 4 * i))) (omega arith) (simp length-set h))

  pub popped_page : (r : Registers) → reg r 14 ≡ x.0 → 14 < length r
      → popped (view_by s map m) 15 0 r ≡ got
      (sets r 0 (words_at 14 m a.0 ++ raised (word_at m (a.0 + 56)) 4 ∷ []))
  popped_page r e h = rw (add-zero x.0, add-zero a.0, ← e, set-get_or r 14 0) at (turns 14 0 r refl h)

-- ---- Registers

-- one register more, the last
registers_last : (k i : ℕ) (r : Registers) → registers_from (suc k) i r ≡ registers_from k i r ++ reg r (i + k) ∷ []
unfolding registers_from
registers_last zero i r = rw add-zero
registers_last (suc k) i r =
    let e : suc i + k ≡ i + suc k = omega arith in
    ap (λ (ws : List ℕ). reg r i ∷ ws) (rw (← e) (registers_last k (suc i) r))

-- ---- PUSHR

writes_same : (bs : List ℕ) (a b : ℕ) → wrap a ≡ wrap b → writes_from a bs ≡ writes_from b bs
unfolding writes_from
writes_same [] a b e = refl
writes_same (x ∷ bs) a b e = rw (e, writes_same bs (a + 1) (b + 1) (omega arith))

writes_append : (xs ys : List ℕ) (a : ℕ) → writes_from a (xs ++ ys) ≡ writes_from a xs ++ writes_from (a + length xs) ys
unfolding writes_from
writes_append [] ys a = rw add-zero
writes_append (x ∷ xs) ys a =
    let e : a + 1 + length xs ≡ a + suc (length xs) = omega arith in
    rw (writes_append xs ys (a + 1), e)

-- a word that follows others, at its own address
word_after : (ws : List ℕ) (w a b : ℕ) → wrap (a + 4 * length ws) ≡ wrap b
    → writes_from a (bytes_of_words ws) ++ writes_from b (bytes_of 4 w) ≡ writes_from a (bytes_of_words (ws ++ w ∷ []))
word_after ws w a b e =
    rw (
      words_append,
      one_word,
      writes_append (bytes_of_words ws) (bytes_of 4 w) a,
      words_length ws,
      writes_same
          (bytes_of 4 w) (a + 4 * length ws) b e,
    )

-- n bytes above SP lowered by n + 4
up_again : (sp n : ℕ) → n ≤ 56 → wrap (lowered sp (n + 4) + n) ≡ wrap (lowered sp 4)
up_again sp n l = omega arith

-- one turn: SP lowered once is what R14 stores, the others store themselves
module _ (i sp : ℕ) (r : Registers) (ws : VirtualWrites) (f : ℕ) where
  pushed_own : i ≡ 14 → pushed (suc i) sp r ws f ≡ pushed i (lowered sp 4) r
      (writes_from (lowered sp 4) (bytes_of 4 (lowered sp 4)) ++ ws) f
  unfolding pushed
  pushed_own e = rw (eq-eqb i 14 e)

  pushed-other : i < 14 → pushed (suc i) sp r ws f ≡ pushed i (lowered sp 4) r
      (writes_from (lowered sp 4) (bytes_of 4 (reg r i)) ++ ws) f
  unfolding pushed
  pushed-other l = rw (ne_eqb i 14 (λ e. omega arith))

-- the turns for i - 1 downto 0 write the registers below Ri
pushed_registers : (i sp : ℕ) (r : Registers) (ws : VirtualWrites) (f : ℕ) → i ≤ 14 → sp < 0x1_0000_0000
    → pushed i sp r ws f
    ≡ record {
      registers = set r 14 (lowered sp (4 * i));
      flags = f;
      writes = writes_from (lowered sp (4 * i))
          (bytes_of_words (registers_from i 0 r)) ++ ws;
    }
pushed_registers zero sp r ws f l h =
    let e : lowered sp (4 * 0) ≡ sp = omega arith in
    rw e (unfold pushed registers_from bytes_of_words writes_from in refl)
pushed_registers (suc i) sp r ws f l h =
    let low : lowered (lowered sp 4) (4 * i) ≡ lowered sp (4 * suc i) = omega arith in
    let four : 4 * suc i ≡ 4 * i + 4 = omega arith in
    let last : registers_from (suc i) 0 r ≡ registers_from i 0 r ++ reg r i
    ∷ [] = rw zero-add at (registers_last i 0 r) in
    pushed-other i sp r ws f l
    ∙ pushed_registers i (lowered sp 4) r (writes_from (lowered sp 4) (bytes_of 4 (reg r i)) ++ ws) f (omega arith)
    (omega arith)
    ∙ rw (
      low,
      last,
      ← append_assoc,
      word_after (registers_from i 0 r) (reg r i) (lowered sp (4 * suc i))
          (lowered sp 4) (rw (registers_length i 0 r, four) (up_again sp (4 * i) (omega arith))),
    )

pub pushed_all : (sp : ℕ) (r : Registers) (f : ℕ) → pushed 15 sp r [] f
    ≡ record {
      registers = set r 14 (lowered sp 60);
      flags = f;
      writes = writes_from (lowered sp 60)
          (bytes_of_words (registers_from 14 0 r ++ lowered sp 4 ∷ []));
    }
pushed_all sp r f =
    let low : lowered (lowered sp 4) 56 ≡ lowered sp 60 = omega arith in
    pushed_own 14 sp r [] f refl
    ∙ pushed_registers 14 (lowered sp 4) r (writes_from (lowered sp 4) (bytes_of 4 (lowered sp 4)) ++ []) f
    (omega arith) (omega arith)
    ∙ rw (
      low,
      append-nil,
      word_after (registers_from 14 0 r) (lowered sp 4) (lowered sp 60) (lowered sp 4)
          (rw (registers_length 14 0 r) (up_again sp 56 (omega arith))),
    )

-- ---- The row of words

-- a word laid behind others
word_laid : (ws : List ℕ) (w : ℕ) (m : Memory) (a : ℕ)
    → sets (sets m a (bytes_of_words ws)) (a + 4 * length ws) (bytes_of 4 w) ≡ sets m a (bytes_of_words (ws ++ w ∷ []))
word_laid ws w m a =
    rw (words_append, one_word, sets_append (bytes_of_words ws) (bytes_of 4 w) m a, words_length ws)

module _ (r : Registers) (m : Memory) (a : ℕ) where
  -- one register more
  pub next_laid : (i : ℕ)
      → sets (sets m a (bytes_of_words (registers_from i 0 r))) (a + 4 * i) (bytes_of 4 (reg r i))
      ≡ sets m a (bytes_of_words (registers_from (i + 1) 0 r))
  next_laid i =
      rw (add-one i, registers_last i 0 r, zero-add i)
      (rw (registers_length i 0 r) at (word_laid (registers_from i 0 r) (reg r i) m a))

  -- and SP, lowered
  pub last_laid : sets (sets m a (bytes_of_words (registers_from 14 0 r))) (a + 56) (bytes_of 4 (lowered (reg r 14) 4))
      ≡ sets m a (bytes_of_words (row_of r))
  last_laid = rw (registers_length 14 0 r) at (word_laid (registers_from 14 0 r) (lowered (reg r 14) 4) m a)

module _ (r : Registers) where
  row_length : length (row_of r) ≡ 15
  row_length = rw (length-append, registers_length 14 0 r)

  pub row_bytes : length (bytes_of_words (row_of r)) ≡ 60
  row_bytes = omega (arith, row_length, words_length (row_of r))

  -- sixty bytes that they fill
  pub row_fills : (m : Memory) → length m ≡ 60 → sets m 0 (bytes_of_words (row_of r)) ≡ bytes_of_words (row_of r)
  row_fills m l = row_filled (row_of r) m (omega (arith, row_length, l))
