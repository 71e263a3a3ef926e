-- What is read from one word of a set.
use Rattle.std.specs.Prelude.{ℕ, ◌≤◌, ◌<◌, ◌≡◌, true, false}
use Rattle.codes.specs.Codes.{bit, how_many}

-- r is how many of the 64 bits of the word w are set
pub record Weight (w r : ℕ) : Type 0 where
  pub upto : r ≤ 64
  pub counted : r ≡ how_many (bit w) 64

-- r is the least index from s on at which a bit of the word w is set, or 64
pub record FirstBit (w s r : ℕ) : Type 0 where
  pub upto : r ≤ 64
  pub clear : (j : ℕ) → s ≤ j → j < r → bit w j ≡ false
  pub found : r < 64 → (s ≤ r) × (bit w r ≡ true)
