-- Parts of a line, and the fields that stand in it.
use Rattle.std.specs.Prelude.{ℕ, ◌+◌, ◌*◌, cond, ◌&&◌, List, [], ◌∷◌, length, nat_le, slice_index, slice_range}
use Rattle.message_vector_table.specs.declared.fields.Fields.{Fields}

-- the bytes from start to end, or none where there is no such part
abbrev pub part_of : List ℕ → ℕ → ℕ → List ℕ
part_of s start end = cond (nat_le start end && nat_le end (length s)) (slice_range s start end) []

-- the word at an index, the high byte first
abbrev pub word_at : List ℕ → ℕ → ℕ
word_at w at = slice_index w at * 256 + slice_index w (at + 1)

-- three single bytes and two words behind a command number, each 0 where there is none
abbrev pub gathered : ℕ → List ℕ → List ℕ → Fields
gathered command b w = record { command = command; bytes = slice_index b 0 ∷ slice_index b 1 ∷ slice_index b 2 ∷ []; words = word_at w 0 ∷ word_at w 2 ∷ [] }
