-- The exclusive-or of a list of bytes with a seed, from the left.
use Rattle.std.specs.Prelude.{ℕ, List, [], ◌∷◌}
use Rattle.std.specs.Int.Bits.{bit_xor}

unfoldable pub xor_all : ℕ → List ℕ → ℕ
xor_all seed [] = seed
xor_all seed (b ∷ s) = xor_all (bit_xor seed b) s
