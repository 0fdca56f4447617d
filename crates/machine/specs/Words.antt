-- Bytes, words, sizes and kinds. Document 01: "Bytes of a value stand highest first (source document 000,
-- 1.2). B, H, W are values of 1, 2, 4 bytes; that length is L."
use Rattle.std.specs.Prelude.{ℕ, zero, suc, ◌+◌, ◌-◌, ◌*◌, ◌/◌, ◌%◌, ◌^◌, Bool, true, false, List, [], ◌∷◌, ◌++◌, get_or}
use Rattle.machine.specs.declared.Kind.{Kind}
use Rattle.machine.specs.declared.Kind.TheVariants.{F, D}
use Rattle.machine.specs.declared.Size.{Size}
use Rattle.machine.specs.declared.Size.TheVariants.{B, H, W}

-- the first value where the test holds, else the second
abbrev pub pick {ℓ} : {A : Type ℓ} → Bool → A → A → A
pick true a b = a
pick false a b = b

-- the contents of the lent slice, byte by byte
abbrev pub Memory : Type 0
Memory = List ℕ

abbrev pub byte_at : Memory → ℕ → ℕ
byte_at m a = get_or m a 0

-- L
abbrev pub length_of : Size → ℕ
length_of B = 1
length_of H = 2
length_of W = 4

-- "Add k = 0, 1, 2 for B, H, W"
abbrev pub size_at : ℕ → Size
size_at zero = B
size_at (suc zero) = H
size_at (suc (suc k)) = W

-- document 02, F-6: "j = 0 for F (4 bytes), 1 for D (8)"
abbrev pub kind_at : ℕ → Kind
kind_at zero = F
kind_at (suc j) = D

abbrev pub kind_length : Kind → ℕ
kind_length F = 4
kind_length D = 8

-- L bytes hold the values below 256 ^ L
abbrev pub span : ℕ → ℕ
span L = 256 ^ L

-- the L bytes of a value, highest first
unfoldable pub bytes_of : ℕ → ℕ → List ℕ
bytes_of zero x = []
bytes_of (suc L) x = x / 256 ^ L % 256 ∷ bytes_of L x

-- the bytes of some words
unfoldable pub bytes_of_words : List ℕ → List ℕ
bytes_of_words [] = []
bytes_of_words (w ∷ ws) = bytes_of 4 w ++ bytes_of_words ws

-- the word whose highest byte stands at place a
unfoldable pub word_at : Memory → ℕ → ℕ
word_at m a = byte_at m a * 0x100_0000 + byte_at m (a + 1) * 0x1_0000 + byte_at m (a + 2) * 0x100 + byte_at m (a + 3)

-- the number that the L bytes from place a on make up, highest first, after those that make up acc
unfoldable pub value_at : Memory → ℕ → ℕ → ℕ → ℕ
value_at m zero a acc = acc
value_at m (suc L) a acc = value_at m L (a + 1) (acc * 256 + byte_at m a)

-- k words from place a on
unfoldable pub words_at : ℕ → Memory → ℕ → List ℕ
words_at zero m a = []
words_at (suc k) m a = word_at m a ∷ words_at k m (a + 4)

-- "Addresses and register steps wrap modulo 2^32"
abbrev pub wrap : ℕ → ℕ
wrap a = a % 0x1_0000_0000

abbrev pub raised : ℕ → ℕ → ℕ
raised a n = wrap (a + n)

abbrev pub lowered : ℕ → ℕ → ℕ
lowered a n = wrap (a + (0x1_0000_0000 - n))
