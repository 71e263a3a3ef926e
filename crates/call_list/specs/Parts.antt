-- What the inner functions read.
use Rattle.std.specs.Prelude.{ℕ, ◌+◌, Bool, List, length, get_or}
use Rattle.records.specs.Numbers.{long_at}
use Rattle.call_list_rules.specs.Limits.{token_at, household_at}
use Rattle.call_list_rules.specs.CallList.{among}
use Rattle.call_list_rules.specs.declared.Entry.{Entry}

-- the entry of the record that starts at a position
abbrev pub entry_at : List ℕ → ℕ → Entry
entry_at s at = record { token = long_at s (at + token_at); household = long_at s (at + household_at) }

-- the room of a row of numbers: at least one for each entry
abbrev pub row_room : ℕ
row_room = 88

-- the numbers of a row, by their index
abbrev pub number_in : List ℕ → ℕ → ℕ
number_in row i = get_or row i 0

-- whether n is one of a row
abbrev pub stands_in : (row : List ℕ) (n : ℕ) → Bool
stands_in row n = among (number_in row) (length row) n
