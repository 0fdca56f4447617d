-- The operand rules of a command byte, written as one number: how such a number reads, and the
-- number of a list of rules; the table of these numbers, byte by byte; and the mode that a byte
-- needs.
use Rattle.std.specs.Prelude.{ℕ, zero, suc, ◌+◌, ◌*◌, ◌/◌, ◌%◌, ◌≡◌, Bool, true, false, ◌||◌, List, [], ◌∷◌, ◌++◌, eqb, length}
use Rattle.std.proofs.Math.Option.{Option, none, some}
use Rattle.machine.specs.declared.Size.{Size}
use Rattle.machine.specs.declared.Size.TheVariants.{B, H, W}
use Rattle.machine.specs.declared.Role.{Role}
use Rattle.machine.specs.declared.Role.TheVariants.{Value, Address, Destination, Update}
use Rattle.machine.specs.declared.Kind.{Kind}
use Rattle.machine.specs.declared.Kind.TheVariants.{F, D}
use Rattle.machine.specs.Words.{pick}
use Rattle.machine.specs.State.{user_mode}
use Rattle.machine.specs.Code.{Rule, Known, known}
use Rattle.machine.specs.FloatCode.{KnownFloat, known_float}

-- ---- How a number reads

-- The highest of four hexadecimal digits is the operand count. The digits below are the operands',
-- the first operand's lowest: the size in a digit's low two bits, the role in its high two.

-- the operand count
abbrev pub count_in : ℕ → ℕ
count_in n = n / 0x1000

-- the size in the lowest digit: 1 for B, 2 for H, 3 for W
abbrev pub size_in : ℕ → Size
size_in n = pick (eqb (n % 4) 1) B (pick (eqb (n % 4) 2) H W)

-- the role in the lowest digit: 0 for a value, 1 for an address, 2 for a destination, 3 for an
-- update
abbrev pub role_in : ℕ → Role
role_in n =
    pick (eqb (n / 4 % 4) 0) Value (pick (eqb (n / 4 % 4) 1) Address (pick (eqb (n / 4 % 4) 2) Destination Update))

-- the rules in the k lowest digits
unfoldable pub rules_from : ℕ → ℕ → List Rule
rules_from zero n = []
rules_from (suc k) n = record { size = size_in n; role = role_in n } ∷ rules_from k (n / 16)

-- as many as the number says
abbrev pub rules_in : ℕ → List Rule
rules_in n = rules_from (count_in n) n

-- the rules of a table entry; a byte that is unknown has no operands
abbrev pub known_rules : Option Known → List Rule
known_rules none = []
known_rules (some k) = k.operands

-- ---- How the number of a floating command reads

-- the kind in the lowest digit: 1 for F, 2 for D
abbrev pub kind_in : ℕ → Kind
kind_in n = pick (eqb (n % 4) 2) D F

-- the roles in the k lowest digits
unfoldable pub roles_from : ℕ → ℕ → List Role
roles_from zero n = []
roles_from (suc k) n = role_in n ∷ roles_from k (n / 16)

abbrev pub roles_in : ℕ → List Role
roles_in n = roles_from (count_in n) n

-- those of a table entry; a byte that is unknown has no operands, and stands as F
abbrev pub known_roles : Option KnownFloat → List Role
known_roles none = []
known_roles (some k) = k.roles

abbrev pub known_kind : Option KnownFloat → Kind
known_kind none = F
known_kind (some k) = k.kind

-- ---- The number of a list of rules

-- a digit is the sum of its size and its role

abbrev pub size_number : Size → ℕ
size_number B = 1
size_number H = 2
size_number W = 3

abbrev pub role_number : Role → ℕ
role_number Value = 0
role_number Address = 4
role_number Destination = 8
role_number Update = 12

-- the digits alone
abbrev pub digits_of : List Rule → ℕ
digits_of [] = 0
digits_of (r ∷ rs) = size_number r.size + role_number r.role + 16 * digits_of rs

-- with the count above them
abbrev pub rules_number : List Rule → ℕ
rules_number rs = 0x1000 * length rs + digits_of rs

-- of a floating command, whose operands are all of its kind

abbrev pub kind_number : Kind → ℕ
kind_number F = 1
kind_number D = 2

abbrev pub role_digits : Kind → List Role → ℕ
role_digits k [] = 0
role_digits k (r ∷ rs) = kind_number k + role_number r + 16 * role_digits k rs

abbrev pub float_number : Option KnownFloat → ℕ
float_number none = 0
float_number (some k) = 0x1000 * length k.roles + role_digits k.kind k.roles

-- ---- The table

-- the numbers of k bytes from b on
unfoldable pub numbers_from : ℕ → ℕ → List ℕ
numbers_from zero b = []
numbers_from (suc k) b = rules_number (known_rules (known b)) ∷ numbers_from k (suc b)

-- F-6: of the floating commands, k bytes from b on
unfoldable pub float_numbers_from : ℕ → ℕ → List ℕ
float_numbers_from zero b = []
float_numbers_from (suc k) b = float_number (known_float b) ∷ float_numbers_from k (suc b)

-- each byte from 0x00 to 0x7F, and from 0x80 to 0xA5, the last that is known
unfoldable pub table_of : List ℕ
table_of = numbers_from 0x80 0 ++ float_numbers_from 0x26 0x80

-- ---- Roles

-- a role takes its operand's address
abbrev pub addressed_by : Role → Bool
addressed_by Value = false
addressed_by Address = true
addressed_by Destination = false
addressed_by Update = false

-- ---- Operands of one size

-- the size of the first operand; where there is none, W
abbrev pub size_of : List Rule → Size
size_of [] = W
size_of (k ∷ ks) = k.size

-- these operands all have this size
abbrev pub AllOf : Size → List Rule → Type 0
AllOf s [] = Unit {0}
AllOf s (k ∷ ks) = (s ≡ k.size) × AllOf s ks

-- of none of them the address is taken
abbrev pub Unaddressed : List Rule → Type 0
Unaddressed [] = Unit {0}
Unaddressed (k ∷ ks) = (addressed_by k.role ≡ false) × Unaddressed ks

-- ---- The mode

-- 13: "HALT or RESUME in user mode, or a system call in kernel mode"
abbrev pub forbidden_of : ℕ → ℕ → Bool
forbidden_of b s = pick (user_mode s) (eqb b 0 || eqb b 5) (eqb b 3)
