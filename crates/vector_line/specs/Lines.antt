-- A line of the vector programs' input: pairs of hexadecimal digits, with spaces between them, and marks between the parts.
use Rattle.std.specs.Prelude.{ℕ, ◌+◌, ◌-◌, ◌*◌, ◌/◌, ◌%◌, ◌<◌, ◌≢◌, ◌&&◌, cond, List, [], ◌∷◌, length, get_or, leb, eqb, Option, Some, None}

-- ---- pairs

-- the value of a hexadecimal digit, "0" to "9" or "A" to "F"; none of another byte
abbrev pub digit_of : ℕ → Option ℕ
digit_of b = cond (leb 0x30 b && leb b 0x39) (Some (b - 0x30)) (cond (leb 0x41 b && leb b 0x46) (Some (b - 0x41 + 10)) None)

-- the byte of two digits, the high one first, in front of the bytes behind it; none, where one of them is none
abbrev pub byte_before : (high low : Option ℕ) → Option (List ℕ) → Option (List ℕ)
byte_before (Some high) (Some low) (Some bytes) = Some ((high * 16 + low) ∷ bytes)
byte_before (Some high) (Some low) None = None
byte_before (Some high) None bytes = None
byte_before None low bytes = None

-- the bytes that a text stands for: pairs of digits, with any spaces (20) between the pairs; none of another form
unfoldable pub pairs_of : List ℕ → Option (List ℕ)
pairs_of [] = Some []
pairs_of (a ∷ []) = cond (eqb a 0x20) (Some []) None
pairs_of (a ∷ b ∷ text) = cond (eqb a 0x20) (pairs_of (b ∷ text)) (byte_before (digit_of a) (digit_of b) (pairs_of text))

-- these bytes, where a buffer has room for all of them
abbrev pub within : (room : ℕ) → Option (List ℕ) → Option (List ℕ)
within room None = None
within room (Some bytes) = cond (leb (length bytes) room) (Some bytes) None

-- ---- marks

-- no byte of a text is the mark
abbrev pub Without : (mark : ℕ) → List ℕ → Type 0
Without mark text = (i : ℕ) → i < length text → get_or text i 0 ≢ mark

-- ---- answers

-- the number of an answer, whose digits, the halves of a byte, are decimal
abbrev pub answer_of : ℕ → ℕ
answer_of byte = byte / 16 * 10 + byte % 16
