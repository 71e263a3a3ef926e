-- Document 01, "Settings sheet": records.
use Rattle.std.specs.Prelude.{ℕ, ◌+◌, Bool, ◌&&◌, List, ◌++◌, length, leb, eqb}
use Rattle.records.specs.Numbers.{little_endian, word_at}

-- "Records: length (2 bytes, little-endian, counting what follows it), kind (2 bytes, little-endian), body."
abbrev pub head_of : (len kind : ℕ) → List ℕ
head_of len kind = little_endian 2 len ++ little_endian 2 kind

abbrev pub record_of : (kind : ℕ) → List ℕ → List ℕ
record_of kind body = head_of (2 + length body) kind ++ body

-- whether s begins with a record of this length and kind; if not, it is "cut, length or kind wrong". The kind is part of
-- the length: none is below 2.
unfoldable pub begins_with : (len kind : ℕ) → List ℕ → Bool
begins_with len kind s = leb 2 len && (leb (2 + len) (length s) && (eqb (word_at s 0) len && eqb (word_at s 2) kind))
