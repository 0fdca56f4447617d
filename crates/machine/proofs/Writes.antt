-- Writes on memories: what `commit` keeps, changes and has alike on two memories.
use Prim.Native.Nat.{ℕ, suc, ◌<◌}
use mathlib.Core.Path.{◌≡◌, refl, sym, ◌∙◌}
use mathlib.Core.Logic.{◌≢◌}
use mathlib.Core.List.{List, [], ◌∷◌}
use native.Mathlib.Decide.{ℕ_discrete, dec_lt}
use native.Mathlib.Omega.{arith}
use lib.ListN.{length, set, length-set}
use lib.Seq.{get_or-set_same, get_or-set_other, set_out, sets}
use Rattle.machine.specs.Words.{Memory, byte_at}
use Rattle.machine.specs.Map.{RealWrites, real_writes_from, commit}

-- a property of every place that is written
abbrev pub Each : (ℕ → Type 0) → RealWrites → Type 0
Each P [] = Unit {0}
Each P (w ∷ ws) = P w.0.0 × Each P ws

pub each_map : {P Q : ℕ → Type 0} (ws : RealWrites) → ((a : ℕ) → P a → Q a) → Each P ws → Each Q ws
each_map [] f h = tt
each_map (w ∷ ws) f h = (f w.0.0 h.0, each_map ws f h.1)

pub commit-length : (ws : RealWrites) (m : Memory) → length (commit ws m) ≡ length m
unfolding commit
commit-length [] m = refl
commit-length (w ∷ ws) m = commit-length ws (set m w.0.0 w.1) ∙ length-set m w.0.0 w.1

set_same : (x y : Memory) (i b a : ℕ) → length x ≡ length y → byte_at x a ≡ byte_at y a
    → byte_at (set x i b) a ≡ byte_at (set y i b) a
set_same x y i b a l h = go (ℕ_discrete a i) (dec_lt i (length x))
  where
    go : Dec (a ≡ i) → Dec (i < length x) → byte_at (set x i b) a ≡ byte_at (set y i b) a
    go (no f) r = rw (get_or-set_other x i a b 0 f, get_or-set_other y i a b 0 f) h
    go (yes e) (yes r) = rw e (get_or-set_same x i b 0 r ∙ sym (get_or-set_same y i b 0 (omega arith)))
    go (yes e) (no f) = rw (set_out x i b (omega arith), set_out y i b (omega arith)) h

-- where two memories agree, they agree after the same writes
pub commit_same : (ws : RealWrites) (x y : Memory) (a : ℕ) → length x ≡ length y → byte_at x a ≡ byte_at y a
    → byte_at (commit ws x) a ≡ byte_at (commit ws y) a
unfolding commit
commit_same [] x y a l h = h
commit_same (w ∷ ws) x y a l h =
    commit_same ws (set x w.0.0 w.1) (set y w.0.0 w.1) a (simp length-set l)
    (set_same x y w.0.0 w.1 a l h)

-- a place that is not written keeps its byte
pub commit-other : (ws : RealWrites) (m : Memory) (a : ℕ) → Each (λ i. a ≢ i) ws → byte_at (commit ws m) a ≡ byte_at m a
unfolding commit
commit-other [] m a h = refl
commit-other (w ∷ ws) m a h =
    commit-other ws (set m w.0.0 w.1) a h.1 ∙ get_or-set_other m w.0.0 a w.1 0 h.0

pub commit_from : (bs : List ℕ) (a : ℕ) (m : Memory) → commit (real_writes_from a bs) m ≡ sets m a bs
unfolding commit real_writes_from
commit_from [] a m = refl
commit_from (b ∷ bs) a m = commit_from bs (suc a) (set m a b)
