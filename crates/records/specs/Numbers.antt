-- Numbers as bytes, the low byte first, over the width (document 01, "Settings sheet": "little-endian").
use Rattle.std.specs.Prelude.{ℕ, zero, suc, ◌+◌, ◌*◌, ◌/◌, ◌%◌, List, [], ◌∷◌, get_or}

-- the k bytes of a number, "little-endian"; the last one is what is left, a byte where the number fits into k bytes
abbrev pub little_endian : (k n : ℕ) → List ℕ
little_endian zero n = []
little_endian (suc zero) n = n ∷ []
little_endian (suc (suc k)) n = n % 256 ∷ little_endian (suc k) (n / 256)

-- the number whose k bytes start at index i, the low one first; a byte that is not there counts as 0
abbrev pub number_at : (k : ℕ) → List ℕ → ℕ → ℕ
number_at zero s i = 0
number_at (suc zero) s i = get_or s i 0
number_at (suc (suc k)) s i = get_or s i 0 + number_at (suc k) s (i + 1) * 256

-- "2 bytes, little-endian", and four
abbrev pub word_at : List ℕ → ℕ → ℕ
word_at s i = number_at 2 s i

abbrev pub long_at : List ℕ → ℕ → ℕ
long_at s i = number_at 4 s i
