-- Bytes as one number, for taking several at a time: what the checksum's own parts return. No promise to a caller rests on it.
use Rattle.std.specs.Prelude.{ℕ, zero, suc, ◌+◌, ◌*◌, ◌/◌, ◌%◌, List, [], ◌∷◌}
use Rattle.std.specs.Int.Bits.{bit_xor}

-- a run of bytes as one number, the lowest first
unfoldable pub packed : List ℕ → ℕ
packed [] = 0
packed (b ∷ s) = packed s * 256 + b

-- the exclusive-or of the n lowest bytes of a number
unfoldable pub folded : ℕ → ℕ → ℕ
folded zero w = 0
folded (suc n) w = bit_xor (w % 256) (folded n (w / 256))
