-- Document 02, K9: the numbers of a call list, each named once.
use Rattle.std.specs.Prelude.{ℕ}

-- "at most 1,024 bytes (85 records)"
abbrev pub longest_list : ℕ
longest_list = 1024

abbrev pub most_entries : ℕ
most_entries = 85

-- "records of kind 32"
abbrev pub entry_kind : ℕ
entry_kind = 32

-- "so length 10 and 12 bytes in all"
abbrev pub record_length : ℕ
record_length = 10

abbrev pub record_size : ℕ
record_size = 12

-- "body token and household, four bytes each": behind the length and the kind, two bytes each
abbrev pub token_at : ℕ
token_at = 4

abbrev pub household_at : ℕ
household_at = 8
