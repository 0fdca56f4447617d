-- Registers, other words and the pending set's two bytes, one after the other, fill the row.
use Prim.Native.Nat.{ℕ, ◌+◌, ◌/◌, ◌%◌, ◌≤◌}
use mathlib.Core.Path.{◌≡◌, refl, sym, ◌∙◌}
use mathlib.Core.List.{List, [], ◌∷◌, ◌++◌, append_assoc, append-nil}
use native.Mathlib.Nat.{div-one}
use native.Mathlib.Omega.{arith}
use borrow.Author.Rules.{rules}
use lib.ListN.{length, length-append}
use lib.Seq.{sets, sets-eq, length-sets, drop-drop, drop-length}
use borrow.Rule.Slice.PartMut.{put_mid}
use Rattle.machine.specs.Words.{bytes_of, bytes_of_words}
use Rattle.machine.proofs.Blocks.{words_append, words_length, sets_append}
use Rattle.layout.specs.Layout.{words_of, packed}
use Rattle.layout.proofs.pack.Goals as goal

-- laid at place n, right after others
sets-after : (xs ys b : List ℕ) (i n : ℕ) → i + length xs ≡ n → sets (sets b i xs) n ys ≡ sets b i (xs ++ ys)
sets-after xs ys b i n e = rw (← e) (sym (sets_append xs ys b i))

-- a part of a row, replaced by as many bytes, is as these bytes leave it one after another
part_laid : (b xs : List ℕ) (a k : ℕ) → length xs ≡ k → a + k ≤ length b → put_mid a k b xs ≡ sets b a xs
part_laid b xs a k l h =
    rw (← l) (simp drop-drop (sym (simp append_assoc at (sets-eq xs b a (omega arith)))))

row : (rs ws vs b : List ℕ) → length rs ≡ 16 → length ws ≡ 6 → length vs ≡ 2 → length b ≡ 90
    → put_mid 88 2 (sets (sets b 0 (bytes_of_words rs)) 64 (bytes_of_words ws)) vs
    ≡ bytes_of_words (rs ++ ws) ++ vs
row rs ws vs b k l m n =
    let words : List ℕ = bytes_of_words (rs ++ ws) in
    let r : length (bytes_of_words rs) ≡ 64 = omega (arith, words_length rs) in
    let w : length words ≡ 88 = words_length (rs ++ ws) ∙ simp length-append (omega arith) in
    let all : List ℕ = words ++ vs in
    let whole : 0 + length all ≡ length b = simp length-append (omega arith) in
    rw (sets-after (bytes_of_words rs) _ b 0 64 (omega arith), ← words_append)
    (part_laid _ vs 88 2 m (simp length-sets (omega arith)) ∙ sets-after words vs b 0 88 (omega arith) ∙ sets-eq all b 0 (omega arith) ∙ rw (whole, drop-length, append-nil))

pub returns : goal.returns
unfolding packed words_of bytes_of
returns c =
    let sixteen : length c.args.d.registers ≡ 16 = search rules in
    let p = c.args.d.pending in
    let pending : c.copy_from_slice.new.self ≡ p / 256 % 256 ∷ p % 256 ∷ [] =
    c.copy_from_slice.ensures.after ∙ c.to_be_bytes.ensures in
    rw (pending, c.put_words-2.ensures, c.put_words.ensures, c.mark_word.ensures, div-one p)
    (row _ _ (p / 256 % 256 ∷ p % 256 ∷ []) _ sixteen refl refl refl)
