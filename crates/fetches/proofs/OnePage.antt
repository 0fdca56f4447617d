-- What one lookup tells of the bytes in its page: the six bytes of an operand.
use Rattle.std.proofs.Common.{◌≡◌, ℕ, ◌+◌, ◌%◌, ◌<◌, ◌≤◌, refl, sym, ap, ◌∙◌, arith}
use Rattle.machine.specs.declared.RealAddress.{RealAddress}
use Rattle.machine.specs.declared.VirtualAddress.{VirtualAddress}
use Rattle.machine.specs.declared.Alarm.{Alarm}
use Rattle.machine.specs.declared.Access.TheVariants.{Fetch}
use Rattle.machine.specs.declared.Map.{Map}
use Rattle.machine.specs.Words.{Memory, byte_at, word_at, wrap}
use Rattle.machine.specs.Alarms.{got, alarm}
use Rattle.machine.specs.Map.{view_by, read_from}
use Rattle.machine.specs.Operands.{fields_at}
use Rattle.machine.proofs.Pages.{Finds, read_from_lem, read_page}
use Rattle.machine.proofs.Bytes.{one_byte_value, four_byte_value}
use Rattle.fetches.specs.Answers.{operand_bytes_at}

module _ {s : ℕ} {map : Map} {m : Memory} {x : VirtualAddress} where
  pub fields_page : {a : RealAddress} → Finds s map m x Fetch a → x.0 % 512 + 6 ≤ 512
      → got (operand_bytes_at m a.0) ≡ fields_at (view_by s map m) x.0
  unfolding fields_at
  fields_page {a} f l =
      let v = view_by s map m in
      let w0 : wrap x.0 ≡ x.0 = omega arith in
      let w1 : wrap (x.0 + 1) ≡ x.0 + 1 = omega arith in
      let w2 : wrap (x.0 + 2) ≡ x.0 + 2 = omega arith in
      let first : read_from v Fetch 1 x.0 0 ≡ got (byte_at m a.0) = read_page f 1 (omega arith) ∙ ap got
      (sym (one_byte_value m a.0)) in
      let second : read_from v Fetch 1 (x.0 + 1) 0 ≡ got (byte_at m (a.0 + 1)) =
      read_from_lem f 1 1 0 (omega arith) ∙ ap got (sym (one_byte_value m (a.0 + 1))) in
      let third : read_from v Fetch 4 (x.0 + 2) 0 ≡ got (word_at m (a.0 + 2)) =
      read_from_lem f 4 2 0 (omega arith) ∙ ap got (sym (four_byte_value m (a.0 + 2))) in
      rw (w0, w1, w2, first, second, third) refl

pub fields_alarm : (s : ℕ) (map : Map) (m : Memory) (x : VirtualAddress) (n : Alarm) (y : ℕ) → x.0 < 0x1_0000_0000
    → view_by s map m x Fetch ≡ alarm n y → alarm n y ≡ fields_at (view_by s map m) x.0
unfolding fields_at read_from
fields_alarm s map m x n y small h = let w0 : wrap x.0 ≡ x.0 = omega arith in rw (w0, w0, h)
