-- What `first_armed` says of a list: the laws for callers.
use Rattle.std.proofs.lemmas.Iterator.Adapters.{position_from-zero}
use Rattle.std.specs.List.{position_from}
use Rattle.std.specs.Prelude.{Option, Some, None, is_some, position, cond}
use mathlib.Core.Path.{◌≡◌, refl, sym, ◌∙◌, subst}
use mathlib.Core.Bool.{Bool, true, false, ◌&&◌}
use mathlib.Core.List.{List, [], ◌∷◌}
use Prim.Native.Nat.{ℕ, zero, suc, ◌+◌, ◌<◌}
use native.Mathlib.Numerals.{add-one}
use native.Mathlib.Nat.{zero-add, add-zero, add-suc, suc-add, le_of_suc-le-suc, not-suc-le-zero, zero-lt-suc}
use native.Mathlib.Omega.{arith}
use lib.Dec.{eqb}
use lib.ListN.{length, get_or}
use borrow.Author.Tests.{eqb-true}
use Rattle.machine.specs.Words.{pick}
use Rattle.machine.proofs.Widths.{and_true}
use Rattle.breakpoints.specs.declared.Breakpoint.{Breakpoint}
use Rattle.breakpoints.specs.Breakpoints.{unarmed, holds_at, first_from, first_armed}
use Rattle.watch.specs.Addresses.{among}
use Rattle.breakpoints.specs.Gathered.{armed_addresses}
use Rattle.breakpoints.specs.Holding.{FirstAt, AllOff}

-- ---- it is the place that `position` finds

position-from : (r15 k : ℕ) (ps : List Breakpoint) → position_from (holds_at r15) k ps ≡ first_from r15 k ps
unfolding first_from
position-from r15 k [] = refl
position-from r15 k (p ∷ ps) = rw add-one (rw (position-from r15 (suc k) ps) (by_test (holds_at r15 p)))
  where
    by_test : (b : Bool) → cond b (Some k) (first_from r15 (suc k) ps) ≡ pick b (Some k) (first_from r15 (suc k) ps)
    by_test true = refl
    by_test false = refl

pub is_position : (r15 : ℕ) (ps : List Breakpoint) → position (holds_at r15) ps ≡ first_armed r15 ps
unfolding first_armed
is_position r15 ps = position_from-zero (holds_at r15) ps ∙ position-from r15 0 ps

-- ---- a breakpoint holds where its address is among the armed ones'

either_holds : (here : Bool) (k : ℕ) (among-others : Bool) (z : Option ℕ) → among-others ≡ is_some z
    → pick here true among-others ≡ is_some (pick here (Some k) z)
either_holds true k among-others z e = refl
either_holds false k among-others z e = e

among_from : (r15 k : ℕ) (ps : List Breakpoint) → among r15 (armed_addresses ps) ≡ is_some (first_from r15 k ps)
unfolding among armed_addresses first_from
among_from r15 k [] = refl
among_from r15 k (p ∷ ps) = by_switch p.armed (among_from r15 (suc k) ps)
  where
    by_switch : (on : Bool) → among r15 (armed_addresses ps) ≡ is_some (first_from r15 (suc k) ps)
        → among r15 (pick on (p.r15.0 ∷ armed_addresses ps) (armed_addresses ps))
        ≡ is_some (pick (on && eqb p.r15.0 r15) (Some k) (first_from r15 (suc k) ps))
    by_switch true e = either_holds (eqb p.r15.0 r15) k _ (first_from r15 (suc k) ps) e
    by_switch false e = e

pub among_is_armed : (r15 : ℕ) (ps : List Breakpoint) → among r15 (armed_addresses ps) ≡ is_some (first_armed r15 ps)
unfolding first_armed
among_is_armed r15 ps = among_from r15 0 ps

-- ---- the place is that of the first breakpoint that holds

-- none of them holds
abbrev pub NoneHolds : ℕ → List Breakpoint → Type 0
NoneHolds r15 ps = (j : ℕ) → j < length ps → holds_at r15 (get_or ps j unarmed) ≡ false

-- what an answer says of the breakpoints from place k on
abbrev Says : ℕ → ℕ → List Breakpoint → Option ℕ → Type 0
Says r15 k ps (Some i) = (m : ℕ) × ((i ≡ k + m) × FirstAt r15 ps m)
Says r15 k ps None = NoneHolds r15 ps

-- one that does not hold stands before them
passed : (r15 k : ℕ) (p : Breakpoint) (ps : List Breakpoint) → holds_at r15 p ≡ false → (z : Option ℕ)
    → Says r15 (suc k) ps z → Says r15 k (p ∷ ps) z
passed r15 k p ps off (Some i) (m, (e, g)) = (
  suc m,
  (
    e ∙ suc-add k m ∙ sym (add-suc k m),
    record {
      within = omega (arith, g.within);
      armed = g.armed;
      equal = g.equal;
      before = before_it;
    },
  ),
)
  where
    before_it : (j : ℕ) → j < suc m → holds_at r15 (get_or (p ∷ ps) j unarmed) ≡ false
    before_it zero l = off
    before_it (suc j) l = g.before j (le_of_suc-le-suc l)
passed r15 k p ps off None g = none_holds
  where
    none_holds : NoneHolds r15 (p ∷ ps)
    none_holds zero l = off
    none_holds (suc j) l = g j (le_of_suc-le-suc l)

says : (r15 k : ℕ) (ps : List Breakpoint) → Says r15 k ps (first_from r15 k ps)
unfolding first_from
says r15 k [] = λ j l. absurd (not-suc-le-zero l)
says r15 k (p ∷ ps) = by_test (holds_at r15 p) refl (says r15 (suc k) ps)
  where
    by_test : (b : Bool) → holds_at r15 p ≡ b → Says r15 (suc k) ps (first_from r15 (suc k) ps)
        → Says r15 k (p ∷ ps) (pick b (Some k) (first_from r15 (suc k) ps))
    by_test true e g = (
      0,
      (
        sym (add-zero k),
        record {
          within = zero-lt-suc (length ps);
          armed = (and_true p.armed (eqb p.r15.0 r15) e).0;
          equal = eqb-true p.r15.0 r15 (and_true p.armed (eqb p.r15.0 r15) e).1;
          before = λ j l. absurd (not-suc-le-zero l);
        },
      ),
    )
    by_test false e g = passed r15 k p ps e (first_from r15 (suc k) ps) g

pub is_first : (r15 : ℕ) (ps : List Breakpoint) (i : ℕ) → first_armed r15 ps ≡ Some i → FirstAt r15 ps i
unfolding first_armed
is_first r15 ps i e =
    let (m, (same, g)) = subst (Says r15 0 ps) e (says r15 0 ps) in
    subst (FirstAt r15 ps) (sym (same ∙ zero-add m)) g

pub none_holds : (r15 : ℕ) (ps : List Breakpoint) → first_armed r15 ps ≡ None → NoneHolds r15 ps
unfolding first_armed
none_holds r15 ps e = subst (Says r15 0 ps) e (says r15 0 ps)

-- ---- where every breakpoint is off, none holds

off_from : (r15 k : ℕ) (ps : List Breakpoint) → AllOff ps → first_from r15 k ps ≡ None
unfolding first_from
off_from r15 k [] off = refl
off_from r15 k (p ∷ ps) off =
    rw (off 0 (zero-lt-suc (length ps))) (off_from r15 (suc k) ps (λ j l. off (suc j) (omega (arith, l))))

pub all_off : (r15 : ℕ) (ps : List Breakpoint) → AllOff ps → first_armed r15 ps ≡ None
unfolding first_armed
all_off r15 ps off = off_from r15 0 ps off
