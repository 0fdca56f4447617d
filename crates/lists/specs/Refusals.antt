-- Request F-1 of document 02, what is refused of a list: "Refused: 17, unknown command, a list cut
-- short or bytes after its end; 18, more than 4,096 pieces; 19, a put outside memory; tried in that
-- order after 1." Each is judged over the whole list before the next.
use Rattle.std.specs.Prelude.{ℕ, Bool, true, ◌&&◌, List, [], ◌∷◌, ltb, leb, Result, Ok, Err}
use Rattle.machine.specs.declared.Refusal.TheVariants as machine
use Rattle.machine.specs.Words.{pick}
use Rattle.machine.specs.Map.{RealWrites}
use Rattle.machine.specs.Calls as calls
use Rattle.lists.specs.declared.LoadRefusal.{LoadRefusal}
use Rattle.lists.specs.declared.LoadRefusal.TheVariants.{Length, Malformed, Pieces, Outside}
use Rattle.lists.specs.Lists.{well_formed, pieces_of, puts_of}

-- ---- Numbers: "In demand 1 the refusals added here and later join 1 to 7."

abbrev pub load_refusal_number : LoadRefusal → ℕ
-- number 1 of document 01: the memory length is not allowed
load_refusal_number Length = calls.refusal_number machine.Length
-- "unknown command, a list cut short or bytes after its end"
load_refusal_number Malformed = 17
-- "more than 4,096 pieces"
load_refusal_number Pieces = 18
-- "a put outside memory"
load_refusal_number Outside = 19

-- whether a list is loaded: Ok tt, or Err with the refusal
abbrev pub LoadAnswer : Type 0
LoadAnswer = Result (Unit {0}) LoadRefusal

-- 0 for none
abbrev pub load_answer_number : LoadAnswer → ℕ
load_answer_number = calls.number_or_0 load_refusal_number

-- ---- Tests

-- "18, more than 4,096 pieces"
abbrev pub desk_pieces : ℕ
desk_pieces = 4096

-- "19, a put outside memory": every put has an address below the memory's length n
unfoldable pub all_inside : ℕ → RealWrites → Bool
all_inside n [] = true
all_inside n (w ∷ ws) = ltb w.0.0 n && all_inside n ws

-- refused where the test does not hold; else what comes next
abbrev pub unless : Bool → LoadRefusal → LoadAnswer → LoadAnswer
unless test k next = pick test next (Err k)

-- "tried in that order": a list of at most `limit` pieces, for a memory of n bytes. A malformed list
-- has no pieces and no puts, so that 17 would come first in any order; 18 comes before 19
unfoldable pub list_refusal : ℕ → ℕ → List ℕ → LoadAnswer
list_refusal limit n list =
    unless (well_formed list) Malformed
    (unless (leb (pieces_of list) limit) Pieces
    (unless (all_inside n (puts_of list)) Outside
    (Ok tt)))
