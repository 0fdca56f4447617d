-- A list is read as some commands exactly where it is their bytes and an end.
use Prim.Native.Nat.{ℕ, zero, suc, ◌+◌, ◌*◌, ◌/◌, ◌%◌, ◌≤◌, ◌<◌}
use mathlib.Core.Path.{◌≡◌, refl, sym, ◌∙◌}
use mathlib.Core.Logic.{◌≢◌}
use mathlib.Core.Bool.{Bool, true, false}
use mathlib.Core.List.{List, [], ◌∷◌, ◌++◌, append_assoc}
use native.Mathlib.Decide.{ℕ_discrete}
use native.Mathlib.Nat.{add_assoc, add-zero}
use native.Mathlib.Numerals.{add-one}
use native.Mathlib.Omega.{arith}
use borrow.Author.Tests.{le-leb, leb-true, eqb-true, eq-eqb}
use lib.Dec.{leb, eqb}
use lib.ListN.{length, drop, length-append}
use lib.Seq.{drop-cons, drop-length, get_or-append-add}
use Rattle.std.specs.Prelude.{Some, None, Ok, Err}
use Rattle.machine.specs.Words.{pick, byte_at, bytes_of, word_at}
use Rattle.machine.proofs.Bytes.{word_of_bytes}
use Rattle.words.proofs.Bytes.{two_bytes_back, four_bytes_back}
use Rattle.lists.specs.declared.Command.{Command}
use Rattle.lists.specs.declared.Command.TheVariants.{Move, Byte, Four, Copies}
use Rattle.lists.specs.declared.LoadRefusal.TheVariants.{Malformed}
use Rattle.lists.specs.Lists.{width_of, Next, width_in, next_at, Reading, malformed, commands, followed, reading_from}
use Rattle.lists.specs.Lists.{bytes_of_command, list_of, reading_of}
use Rattle.lists.specs.Format.{HasRoom, AllHaveRoom, AllBytes, Format}
use Rattle.lists.proofs.Reading.{whole, at_00, at_01, at_02, at_03, at_04, at_unknown, width_positive}

-- ---- What is read was written

module _ (list : List ℕ) (small : AllBytes list) where
  next : (a b : ℕ) → b ≡ a + 1 → a < length list → drop a list ≡ byte_at list a ∷ drop b list
  next a b e h = rw (e, add-one, drop-cons list a 0 h)

  -- the bytes of a command, what stands behind them, and that its numbers have room
  Stands : ℕ → Command → Type 0
  Stands at c = (drop at list ≡ bytes_of_command c ++ drop (at + width_of c) list) × HasRoom c

  module _ (at : ℕ) where
    byte_stands : byte_at list at ≡ 0x02 → at + 2 ≤ length list → Stands at (Byte (byte_at list (at + 1)))
    unfolding Stands
    byte_stands e h =
        (rw (next at (at + 1) refl (omega arith), next (at + 1) (at + 2) (omega arith) (omega arith), e), tt)

    five : at + 5 ≤ length list
        → drop at list
        ≡ byte_at list at ∷ byte_at list (at + 1) ∷ byte_at list (at + 2) ∷ byte_at list (at + 3) ∷ byte_at list (at + 4)
        ∷ drop (at + 5) list
    five h =
        rw (
          next at (at + 1) refl (omega arith),
          next (at + 1) (at + 2) (omega arith) (omega arith),
          next (at + 2) (at + 3) (omega arith) (omega arith),
          next (at + 3) (at + 4) (omega arith) (omega arith),
          next (at + 4) (at + 5) (omega arith) (omega arith),
        )

    four_stands : byte_at list at ≡ 0x03 → at + 5 ≤ length list
        → Stands at (Four (byte_at list (at + 1)) (byte_at list (at + 2)) (byte_at list (at + 3)) (byte_at list (at + 4)))
    unfolding Stands
    four_stands e h = (five h ∙ rw e, tt)

    move_stands : byte_at list at ≡ 0x01 → at + 5 ≤ length list → Stands at (Move (record { 0 = word_at list (at + 1) }))
    unfolding Stands word_at
    move_stands e h =
        let f : at + 1 + 1 ≡ at + 2 = omega arith in
        let g : at + 1 + 2 ≡ at + 3 = omega arith in
        let k : at + 1 + 3 ≡ at + 4 = omega arith in (
          five h ∙ rw (
            e,
            f,
            g,
            k,
            four_bytes_back (byte_at list (at + 1)) (byte_at list (at + 2)) (byte_at list (at + 3)) (byte_at list (at + 4))
                (small (at + 1)) (small (at + 2)) (small (at + 3)) (small (at + 4)),
          ),
          omega (arith, small (at + 1), small (at + 1 + 1), small (at + 1 + 2), small (at + 1 + 3)),
        )

    copies_stands : byte_at list at ≡ 0x04 → at + 4 ≤ length list
        → Stands at (Copies (byte_at list (at + 1) * 0x100 + byte_at list (at + 2)) (byte_at list (at + 3)))
    unfolding Stands
    copies_stands e h = (
      rw (
        next at (at + 1) refl (omega arith),
        next (at + 1) (at + 2) (omega arith) (omega arith),
        next (at + 2) (at + 3) (omega arith) (omega arith),
        next (at + 3) (at + 4) (omega arith) (omega arith),
        e,
        two_bytes_back (byte_at list (at + 1)) (byte_at list (at + 2)) (small (at + 1)) (small (at + 2)),
      ),
      omega (arith, small (at + 1), small (at + 2)),
    )

    -- what stands whole at its place
    of_whole : (width : ℕ) (y x : Next) → next_at list at ≡ whole list at width y → next_at list at ≡ x → x ≢ Err Malformed
        → (at + width ≤ length list) × (y ≡ x)
    of_whole width y x e h n = go (leb (at + width) (length list)) refl (sym e ∙ h)
      where
        go : (b : Bool) → leb (at + width) (length list) ≡ b → pick b y (Err Malformed) ≡ x
            → (at + width ≤ length list) × (y ≡ x)
        go true l q = (leb-true (at + width) (length list) l, q)
        go false l q = absurd (n (sym q))

    end-unlike : (c : Command) → ◌≢◌ {A = Next} (Ok None) (Ok (Some c))
    end-unlike c e = let z : ◌≡◌ {A = ℕ} 0 1 = cc in omega arith

    none-unlike : (c : Command) → ◌≢◌ {A = Next} (Ok (Some c)) (Err Malformed)
    none-unlike c e = let z : ◌≡◌ {A = ℕ} 0 1 = cc in omega arith

    -- a command
    more_stands : (c : Command) → next_at list at ≡ Ok (Some c) → Stands at c
    more_stands c h =
        go (ℕ_discrete (byte_at list at) 0) (ℕ_discrete (byte_at list at) 1) (ℕ_discrete (byte_at list at) 2)
        (ℕ_discrete (byte_at list at) 3) (ℕ_discrete (byte_at list at) 4)
      where
        is : (width : ℕ) (d : Command) → next_at list at ≡ whole list at width (Ok (Some d))
            → (at + width ≤ length list → Stands at d) → Stands at c
        is width d e s =
            let w = of_whole width (Ok (Some d)) (Ok (Some c)) e h (none-unlike c) in
            let same : d ≡ c = let q : ◌≡◌ {A = Next} (Ok (Some d)) (Ok (Some c)) = w.1 in cc in
            rw same at (s w.0)

        go : Dec (byte_at list at ≡ 0) → Dec (byte_at list at ≡ 1) → Dec (byte_at list at ≡ 2) → Dec (byte_at list at ≡ 3)
            → Dec (byte_at list at ≡ 4) → Stands at c
        go (yes e) b2 b3 b4 b5 =
            absurd (end-unlike c (of_whole 1 (Ok None) (Ok (Some c)) (at_00 list at e) h (none-unlike c)).1)
        go (no b1) (yes e) b3 b4 b5 =
            is 5 (Move (record { 0 = word_at list (at + 1) })) (at_01 list at e) (move_stands e)
        go (no b1) (no b2) (yes e) b4 b5 = is 2 (Byte (byte_at list (at + 1))) (at_02 list at e) (byte_stands e)
        go (no b1) (no b2) (no b3) (yes e) b5 =
            is 5 (Four (byte_at list (at + 1)) (byte_at list (at + 2)) (byte_at list (at + 3)) (byte_at list (at + 4)))
            (at_03 list at e) (four_stands e)
        go (no b1) (no b2) (no b3) (no b4) (yes e) =
            is 4 (Copies (byte_at list (at + 1) * 0x100 + byte_at list (at + 2)) (byte_at list (at + 3))) (at_04 list at e)
            (copies_stands e)
        go (no b1) (no b2) (no b3) (no b4) (no b5) = absurd (none-unlike c (sym h ∙ at_unknown list at (omega arith)))

    -- the end
    end_byte : next_at list at ≡ Ok None → byte_at list at ≡ 0x00
    end_byte h =
        go (ℕ_discrete (byte_at list at) 0) (ℕ_discrete (byte_at list at) 1) (ℕ_discrete (byte_at list at) 2)
        (ℕ_discrete (byte_at list at) 3) (ℕ_discrete (byte_at list at) 4)
      where
        differs : ◌≢◌ {A = Next} (Ok None) (Err Malformed)
        differs e = let z : ◌≡◌ {A = ℕ} 0 1 = cc in omega arith

        no_more : (width : ℕ) (d : Command) → next_at list at ≡ whole list at width (Ok (Some d)) → byte_at list at ≡ 0x00
        no_more width d e = absurd (end-unlike d (sym (of_whole width (Ok (Some d)) (Ok None) e h differs).1))

        go : Dec (byte_at list at ≡ 0) → Dec (byte_at list at ≡ 1) → Dec (byte_at list at ≡ 2) → Dec (byte_at list at ≡ 3)
            → Dec (byte_at list at ≡ 4) → byte_at list at ≡ 0x00
        go (yes e) b2 b3 b4 b5 = e
        go (no b1) (yes e) b3 b4 b5 = no_more _ _ (at_01 list at e)
        go (no b1) (no b2) (yes e) b4 b5 = no_more _ _ (at_02 list at e)
        go (no b1) (no b2) (no b3) (yes e) b5 = no_more _ _ (at_03 list at e)
        go (no b1) (no b2) (no b3) (no b4) (yes e) = no_more _ _ (at_04 list at e)
        go (no b1) (no b2) (no b3) (no b4) (no b5) = absurd (differs (sym h ∙ at_unknown list at (omega arith)))

    end_stands : next_at list at ≡ Ok None → at + 1 ≡ length list → drop at list ≡ 0x00 ∷ []
    end_stands h l = rw (next at (at + 1) refl (omega arith), end_byte h, l, drop-length)

  -- from any offset on
  RestWritten : ℕ → List Command → Type 0
  RestWritten at cs = (drop at list ≡ list_of cs) × AllHaveRoom cs

  rest_written : (n at : ℕ) (cs : List Command) → reading_from n list at ≡ commands cs → RestWritten at cs
  unfolding reading_from followed list_of Stands RestWritten
  rest_written zero at cs h = absurd (let z : ◌≡◌ {A = ℕ} 0 1 = cc in omega arith)
  rest_written (suc n) at cs h =
      go (next_at list at) refl (reading_from n list (at + width_in (next_at list at))) refl h
      (λ ds. rest_written n (at + width_in (next_at list at)) ds)
    where
      go : (x : Next) → next_at list at ≡ x → (r : Reading) → reading_from n list (at + width_in x) ≡ r
          → followed x (eqb (at + 1) (length list)) r ≡ commands cs
          → ((ds : List Command) → reading_from n list (at + width_in x) ≡ commands ds → RestWritten (at + width_in x) ds)
          → RestWritten at cs
      go (Ok (Some c)) e malformed f h k = absurd (let z : ◌≡◌ {A = ℕ} 0 1 = cc in omega arith)
      go (Ok (Some c)) e (commands ds) f h k =
          let same : c ∷ ds ≡ cs = cc in
          let first = more_stands at c e in
          rw (← same) (first.0 ∙ rw (k ds f).0, (first.1, (k ds f).1))
      go (Err u) e r f h k = absurd (let z : ◌≡◌ {A = ℕ} 0 1 = cc in omega arith)
      go (Ok None) e r f h k = ends (eqb (at + 1) (length list)) refl h
        where
          ends : (b : Bool) → eqb (at + 1) (length list) ≡ b → followed (Ok None) b r ≡ commands cs → RestWritten at cs
          ends true l q =
              let same : [] ≡ cs = cc in
              rw (← same) (end_stands at e (eqb-true (at + 1) (length list) l), tt)
          ends false l q = absurd (let z : ◌≡◌ {A = ℕ} 0 1 = cc in omega arith)

-- ---- What is written is read

width_bytes : (c : Command) → length (bytes_of_command c) ≡ width_of c
unfolding bytes_of
width_bytes (Move a) = refl
width_bytes (Byte b) = refl
width_bytes (Four a b c d) = refl
width_bytes (Copies n b) = refl

-- some bytes r behind others
module _ (p r : List ℕ) where
  byte_behind : (i : ℕ) → byte_at (p ++ r) (length p + i) ≡ byte_at r i
  byte_behind i = get_or-append-add p r i 0

  first_behind : byte_at (p ++ r) (length p) ≡ byte_at r 0
  first_behind = rw add-zero at (byte_behind 0)

  word_behind_lem : (i : ℕ) → word_at (p ++ r) (length p + i) ≡ word_at r i
  unfolding word_at
  word_behind_lem i =
      rw (
        add_assoc (length p) i 1,
        add_assoc (length p) i 2,
        add_assoc (length p) i 3,
        byte_behind i,
        byte_behind (i + 1),
        byte_behind (i + 2),
        byte_behind (i + 3),
      )

  whole_behind : (width : ℕ) (x : Next) → width ≤ length r → whole (p ++ r) (length p) width x ≡ x
  whole_behind width x h =
      let l : length p + width ≤ length (p ++ r) = simp length-append (omega arith) in
      rw (le-leb _ _ l)

address_read : (x : ℕ) (q : List ℕ) → x < 0x1_0000_0000 → word_at (0x01 ∷ (bytes_of 4 x ++ q)) 1 ≡ x
unfolding word_at bytes_of
address_read x q h =
    let e : word_at (bytes_of 4 x) 0 ≡ x % 0x1_0000_0000 = word_of_bytes x in
    let f : x % 0x1_0000_0000 ≡ x = omega arith in
    e ∙ f

count_read : (n : ℕ) → n < 0x1_0000 → n / 256 % 256 * 256 + n / 1 % 256 ≡ n
count_read n h = omega arith

command_read : (p : List ℕ) (c : Command) (q : List ℕ) → HasRoom c
    → next_at (p ++ (bytes_of_command c ++ q)) (length p) ≡ Ok (Some c)
unfolding bytes_of
command_read p (Move a) q w =
    let r = bytes_of_command (Move a) ++ q in
    at_01 _ _ (first_behind p r) ∙ whole_behind p r 5 _ (omega arith)
    ∙ rw (word_behind_lem p r 1, address_read a.0 q w)
command_read p (Byte b) q w =
    let r = bytes_of_command (Byte b) ++ q in
    at_02 _ _ (first_behind p r) ∙ whole_behind p r 2 _ (omega arith) ∙ rw (byte_behind p r 1)
command_read p (Four a b c d) q w =
    let r = bytes_of_command (Four a b c d) ++ q in
    at_03 _ _ (first_behind p r) ∙ whole_behind p r 5 _ (omega arith)
    ∙ rw (byte_behind p r 1, byte_behind p r 2, byte_behind p r 3, byte_behind p r 4)
command_read p (Copies n b) q w =
    let r = bytes_of_command (Copies n b) ++ q in
    at_04 _ _ (first_behind p r) ∙ whole_behind p r 4 _ (omega arith)
    ∙ rw (byte_behind p r 1, byte_behind p r 2, byte_behind p r 3, count_read n w)

-- from any offset on
rest_read : (p : List ℕ) (cs : List Command) (n : ℕ) → AllHaveRoom cs → length cs < n
    → reading_from n (p ++ list_of cs) (length p) ≡ commands cs
unfolding reading_from followed list_of
rest_read p cs zero w h = absurd (omega arith)
rest_read p [] (suc n) w h =
    let e : next_at (p ++ 0x00 ∷ []) (length p) ≡ Ok None =
    at_00 _ _ (first_behind p (0x00 ∷ [])) ∙ whole_behind p (0x00 ∷ []) 1 _ (omega arith)
    in
    let l : length p + 1 ≡ length (p ++ 0x00 ∷ []) = simp length-append in
    rw (e, eq-eqb _ _ l)
rest_read p (c ∷ cs) (suc n) w h =
    let e = command_read p c (list_of cs) w.0 in
    let k : reading_from n (p ++ (bytes_of_command c ++ list_of cs)) (length p + width_of c) ≡ commands cs =
    rw (← width_bytes c, ← length-append, ← append_assoc) (rest_read (p ++ bytes_of_command c) cs n w.1 (omega arith))
    in
    rw (e, k)

fewer : (cs : List Command) → length cs < length (list_of cs)
unfolding list_of
fewer [] = omega arith
fewer (c ∷ cs) = simp (length-append, width_bytes) (omega (arith, fewer cs, width_positive c))

pub format : Format
unfolding reading_of RestWritten
format = record {
  read = λ cs w. rest_read [] cs (length (list_of cs)) w (fewer cs);
  only = λ list small cs h. rest_written list small (length list) 0 cs h;
  width = width_bytes;
}
