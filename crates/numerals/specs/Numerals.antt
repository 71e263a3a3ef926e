-- Document 02: numbers as the programs write them.
use Rattle.std.specs.Prelude.{ℕ, ◌+◌, ◌/◌, ◌%◌, ◌≡◌, cond, List, [], ◌∷◌, length, ltb}
use Rattle.io.specs.Digits.{last_digits, IsDigitCount}
use Rattle.buffers.specs.Buffers.{put_whole}

-- "decimal": as few digits as hold the number, at least one, the highest first
pub record Decimal (n : ℕ) (text : List ℕ) : Type 0 where
  pub places : ℕ
  pub fewest : IsDigitCount 10 1 n places
  pub is : text ≡ last_digits 10 places n

-- "two capital hex digits": 0 to 9 are 30 to 39, and A to F are 41 to 46
abbrev pub capital : ℕ → ℕ
capital d = cond (ltb d 10) (48 + d) (55 + d)

abbrev pub hexadecimal : ℕ → List ℕ
hexadecimal n = capital (n / 16) ∷ capital (n % 16) ∷ []

-- the decimal digits of n are put into a text at an index, where they all fit, and how many they are is given
pub record PutsDecimal (n : ℕ) (before : List ℕ) (at : ℕ) (after : List ℕ) (count : ℕ) : Type 0 where
  pub number : List ℕ
  pub decimal : Decimal n number
  pub there : after ≡ put_whole before at number
  pub counted : count ≡ length number
  pub as_many : count ≡ decimal.places
