-- Document 02, F-2: "V is set exactly when the signed operand times 2 to the power of the count, as a
-- whole number, doesn't fit a signed word. The old rule on signs goes. Right shifts and all results
-- keep their meaning". The rule is `shifted_left` of Integers. Here is what it says for every operand
-- b and count n, and worked steps. The proof is `left_shifts` of proofs/LeftShifts.antt.
use Rattle.std.specs.Prelude.{ℕ, ◌+◌, ◌^◌, ◌≤◌, ◌<◌, ◌≡◌, ◌↔◌, true, false, ◌∷◌, ◌++◌, pos, ◌*ℤ◌}
use Rattle.machine.specs.Words.{span}
use Rattle.machine.specs.State.{flag_v}
use Rattle.machine.specs.Integers.{signed, result_of, plain, exact, shifted_left}
use Rattle.machine.specs.Calls.{Stepped}
use Rattle.machine.specs.TriedValues.{I, R, minus, ran_on, register_after, flags_after}

-- 60h: R0 becomes b, shifted by n
unfoldable pub shift_ran : ℕ → ℕ → Stepped
shift_ran n b = ran_on 0 (0x60 ∷ I n ++ I b ++ R 0)

-- R0 and the flags after it
abbrev pub Gives : ℕ → ℕ → ℕ → ℕ → Type 0
Gives n b x f = (register_after 0 (shift_ran n b) ≡ x) × (flags_after (shift_ran n b) ≡ f)

pub record LeftShifts : Type 0 where
  -- the result, too, is that whole number's: kept modulo 256^4, and C is 0
  pub product : (n b : ℕ) → shifted_left n b ≡ exact 4 (signed 4 b *ℤ pos (2 ^ n)) false
  -- so a check of V is a check of the range: V is clear exactly where the result is that number
  pub range_check : (n b : ℕ) → let r = shifted_left n b in
      (flag_v r.flags ≡ false) ↔ (signed 4 r.value ≡ signed 4 b *ℤ pos (2 ^ n))
  -- a count of 0 always fits: the word stays, V clear
  pub by_0 : (b : ℕ) → b < span 4 → shifted_left 0 b ≡ plain 4 b
  -- an operand of 0 always fits: 0 stays, V clear
  pub of_0 : (n : ℕ) → shifted_left n 0 ≡ plain 4 0
  -- the shifts that lose everything, by 32 and more, of any operand but 0: 0, flags Z V
  pub all_lost : (n b : ℕ) → 32 ≤ n → 0 < b → b < span 4 → shifted_left n b ≡ result_of 4 0 true false
  -- "moves 1 left by 32 places, gets 0": flags Z V
  pub one_by_32 : Gives 32 1 0 (4 + 2)
  -- 2 ^ 31 does not fit: flags N V
  pub one_by_31 : Gives 31 1 0x8000_0000 (8 + 2)
  -- 2 ^ 30 fits: no flag
  pub one_by_30 : Gives 30 1 0x4000_0000 0
  -- -2 ^ 31 fits: N only
  pub minus_one_by_31 : Gives 31 (minus 1) 0x8000_0000 8
  -- -2 ^ 32 does not: flags Z V
  pub minus_one_by_32 : Gives 32 (minus 1) 0 (4 + 2)
  -- what the old rule did not see: the number does not fit, though the signs are alike
  pub two_to_30_by_2 : Gives 2 0x4000_0000 0 (4 + 2)
  pub five_by_30 : Gives 30 5 0x4000_0000 2
  pub minus_three_by_31 : Gives 31 (minus 3) 0x8000_0000 (8 + 2)
  -- the lowest number, and 0
  pub lowest_by_0 : Gives 0 0x8000_0000 0x8000_0000 8
  pub lowest_by_1 : Gives 1 0x8000_0000 0 (4 + 2)
  pub zero_by_32 : Gives 32 0 0 4
  -- to the right nothing sets V, whatever is lost
  pub one_by_minus_1 : Gives (minus 1) 1 0 4
