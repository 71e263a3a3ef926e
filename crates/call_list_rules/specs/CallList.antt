-- Document 02, K9: the gate check.
use Rattle.std.specs.Prelude.{ℕ, zero, suc, ◌+◌, ◌-◌, ◌*◌, ◌/◌, Bool, false, cond, ◌||◌, List, length, drop, leb, eqb, Option, Some, None, Result, Ok, Err}
use Rattle.message_rules.specs.Answer.{done, text_too_long, broken_record, repeated_token, repeated_household}
use Rattle.message_rules.specs.Refusal.{number_of}
use Rattle.message_rules.specs.declared.refusal.RefusedAt.{RefusedAt}
use Rattle.records.specs.Numbers.{long_at}
use Rattle.records.specs.Records.{begins_with}
use Rattle.call_list_rules.specs.Limits.{longest_list, entry_kind, record_length, record_size, token_at, household_at}
use Rattle.call_list_rules.specs.declared.Checked.{Checked}
use Rattle.call_list_rules.specs.declared.Entry.{Entry}
use Rattle.call_list_rules.specs.declared.EntryNumber.{EntryNumber}

-- ---- the records of a list

-- where record k starts: "12 bytes in all", "records counted from 0"
abbrev pub start_of : ℕ → ℕ
start_of k = k * record_size

-- "records of kind 32 .. so length 10": whether record k is whole; if not, it is "broken"
abbrev pub is_whole : List ℕ → ℕ → Bool
is_whole s k = begins_with record_length entry_kind (drop (start_of k) s)

-- "body token and household, four bytes each, little-endian": of record k
abbrev pub token_of : List ℕ → ℕ → ℕ
token_of s k = long_at s (start_of k + token_at)

abbrev pub household_of : List ℕ → ℕ → ℕ
household_of s k = long_at s (start_of k + household_at)

-- ---- the check

-- whether n is one of the first k of these numbers
unfoldable pub among : (numbers : ℕ → ℕ) (k n : ℕ) → Bool
among numbers zero n = false
among numbers (suc k) n = eqb (numbers k) n || among numbers k n

-- the answer to record k: "broken (17) or that repeats a token (19) or a household (20) of an earlier one, in that order
-- for one record"
unfoldable pub record_answer : List ℕ → ℕ → ℕ
record_answer s k =
    cond (is_whole s k)
    (cond (among (token_of s) k (token_of s k)) repeated_token (cond (among (household_of s) k (household_of s k)) repeated_household done))
    broken_record

-- a list that is accepted, with its number of entries; the position is then its end
abbrev pub accepted_with : ℕ → Checked
accepted_with n = record { answer = done; entries = n; position = record { 0 = start_of n } }

abbrev pub refused_at : (answer position : ℕ) → Checked
refused_at answer position = record { answer = answer; entries = 0; position = record { 0 = position } }

-- "The refusal gives the start of the first record that is ..": of n records, from record k on, by their answers
unfoldable pub first_refused : (answers : ℕ → ℕ) (n k : ℕ) → Checked
first_refused answers zero k = accepted_with k
first_refused answers (suc n) k = cond (eqb (answers k) done) (first_refused answers n (suc k)) (refused_at (answers k) (start_of k))

-- how many records start in so many bytes: the last one may be cut
abbrev pub begun_in : ℕ → ℕ
begun_in size = (size + (record_size - 1)) / record_size

-- "Over 1,024 bytes is 11 at 0, before the others."
unfoldable pub check_list : List ℕ → Checked
check_list s = cond (leb (length s) longest_list) (first_refused (record_answer s) (begun_in (length s)) 0) (refused_at text_too_long 0)

-- what a check says that returns the number of the entries, or the refusal with its position
abbrev pub checked_as : Result ℕ RefusedAt → Checked
checked_as (Ok n) = accepted_with n
checked_as (Err r) = refused_at (number_of r.refusal) r.position.0

-- ---- the query

-- the number of an entry, or that there is none; or how a list was checked that is not accepted
abbrev pub Found : Type 0
Found = Result (Option EntryNumber) Checked

-- the number of the first of n entries, from entry k on, that has this household
unfoldable pub search_from : (households : ℕ → ℕ) (household n k : ℕ) → Option EntryNumber
search_from households household zero k = None
search_from households household (suc n) k = cond (eqb (households k) household) (Some (record { 0 = k })) (search_from households household n (suc k))

-- "A query answers a household's position (records counted from 0), or that it isn't there; on a list that isn't
-- accepted it gives the same refusal."
unfoldable pub find_as : List ℕ → ℕ → Checked → Found
find_as s household c = cond (eqb c.answer done) (Ok (search_from (household_of s) household c.entries 0)) (Err c)

unfoldable pub find_household : List ℕ → ℕ → Found
find_household s household = find_as s household (check_list s)

-- what a query says that returns the refusal with its position
abbrev pub found_as : Result (Option EntryNumber) RefusedAt → Found
found_as (Ok k) = Ok k
found_as (Err r) = Err (checked_as (Err r))

-- ---- the entries

abbrev pub no_entry : Entry
no_entry = record { token = 0; household = 0 }

-- what record k says, where all its bytes are there
unfoldable pub entry_of : List ℕ → ℕ → Entry
entry_of s k = cond (leb (start_of (suc k)) (length s)) (record { token = token_of s k; household = household_of s k }) no_entry
