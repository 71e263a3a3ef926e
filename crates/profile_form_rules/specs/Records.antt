-- Document 01, "Settings sheet": the records of a settings profile (the paper's settings sheet).
use Rattle.std.specs.Prelude.{ℕ, Bool, List, ◌∷◌, get_or}
use Rattle.records.specs.Numbers.{little_endian, word_at}
use Rattle.records.specs.Records.{record_of, begins_with}

-- ---- from a record to bytes

-- "Kind 1"
abbrev pub value_kind : ℕ
value_kind = 1

-- "Kind 1: code, saved value (2 bytes, little-endian)"
abbrev pub value_record : (code value : ℕ) → List ℕ
value_record code value = record_of value_kind (code ∷ little_endian 2 value)

-- "so length 5", and with the length field 7 bytes
abbrev pub record_length : ℕ
record_length = 5

abbrev pub record_size : ℕ
record_size = 7

-- ---- from bytes to a record

-- the code and the value of the record of kind 1 that s begins with
abbrev pub code_in : List ℕ → ℕ
code_in s = get_or s 4 0

abbrev pub value_in : List ℕ → ℕ
value_in s = word_at s 5

-- whether s begins with a record of kind 1; if not, it is "cut, length or kind wrong"
abbrev pub begins_with_record : List ℕ → Bool
begins_with_record s = begins_with record_length value_kind s
