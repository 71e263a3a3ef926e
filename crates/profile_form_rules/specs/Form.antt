-- Document 02, K4: a settings profile (the paper's settings sheet) "judged by form (records, kind 1, rising codes, no code
-- twice, else 17 at the record's start), not against a board".
use Rattle.std.specs.Prelude.{ℕ, zero, suc, ◌+◌, ◌-◌, ◌/◌, ◌≡◌, Bool, true, cond, ◌&&◌, Result, Ok, Err, List, [], ◌∷◌, ◌++◌, length, drop, leb}
use Rattle.message_rules.specs.Answer.{done, broken_record}
use Rattle.message_rules.specs.Refusal.{number_of}
use Rattle.message_rules.specs.declared.Position.{Position}
use Rattle.message_rules.specs.declared.refusal.RefusedAt.{RefusedAt}
use Rattle.profile_form_rules.specs.declared.Setting.{Setting}
use Rattle.profile_form_rules.specs.Records.{value_record, record_size, code_in, value_in, begins_with_record}

-- ---- the settings of a profile

-- what one record says: a code and its value
abbrev pub setting_in : List ℕ → Setting
setting_in bytes = record { code = code_in bytes; value = value_in bytes }

-- the settings that n records say
unfoldable pub settings_in : (n : ℕ) → List ℕ → List Setting
settings_in zero bytes = []
settings_in (suc n) bytes = setting_in bytes ∷ settings_in n (drop record_size bytes)

-- the bytes begin with a record of kind 1: what it says, and the bytes behind it
pub record First (bytes : List ℕ) (setting : Setting) (behind : List ℕ) : Type 0 where
  pub is_record : begins_with_record bytes ≡ true
  pub says : setting ≡ setting_in bytes
  pub rest : behind ≡ drop record_size bytes

-- those of a profile: it has so many records
abbrev pub settings_of : List ℕ → List Setting
settings_of s = settings_in (length s / record_size) s

-- and back: the records of these settings
unfoldable pub bytes_of : List Setting → List ℕ
bytes_of [] = []
bytes_of (e ∷ es) = value_record e.code e.value ++ bytes_of es

-- ---- the judgement

-- the answer number, and the position that the paper gives with a refusal; after answer 0 the end of the profile
pub record Judged : Type 0 where
  pub answer : ℕ
  pub position : Position

-- what a function returns that judges: done, where the profile has so many bytes, or a refusal and its position
abbrev pub refused_as : RefusedAt → Judged
refused_as e = record { answer = number_of e.refusal; position = e.position }

abbrev pub judged_as : {V : Type 0} (size : ℕ) → Result V RefusedAt → Judged
judged_as size (Ok v) = record { answer = done; position = record { 0 = size } }
judged_as size (Err e) = refused_as e

-- "records, kind 1, rising codes, no code twice": whether the bytes begin with a record whose code is not below the lowest
-- one that may come next
unfoldable pub record_fits : (lowest : ℕ) → List ℕ → Bool
record_fits lowest bytes = begins_with_record bytes && leb lowest (code_in bytes)

-- "else 17 at the record's start": of n records, where the bytes left start at position `at`. The lowest code that may come
-- after a record is one above its own. After answer 0 the position is the end of the profile.
unfoldable pub judge_records : (n lowest at : ℕ) → List ℕ → Judged
judge_records zero lowest at bytes = record { answer = done; position = record { 0 = at } }
judge_records (suc n) lowest at bytes =
    cond (record_fits lowest bytes)
    (judge_records n (suc (code_in bytes)) (at + record_size) (drop record_size bytes))
    (record { answer = broken_record; position = record { 0 = at } })

-- how many records start in so many bytes: the last one may be cut
abbrev pub begun_in : ℕ → ℕ
begun_in size = (size + (record_size - 1)) / record_size

-- every record that starts in the profile is judged, and any code may come first
unfoldable pub judge_form : List ℕ → Judged
judge_form s = judge_records (begun_in (length s)) 0 0 s
