-- Document 01, "Settings sheet": what writing a profile and loading one do.
use Rattle.std.specs.Prelude.{ℕ, zero, suc, ◌+◌, ◌-◌, Bool, cond, not, ◌&&◌, Result, Ok, Err, List, [], ◌∷◌, ◌++◌, length, get_or, drop, leb, eqb}
use Rattle.buffers.specs.Buffers.{over}
use Rattle.message_rules.specs.Answer.{done, wrong_size, code_not_allowed, value_too_large, broken_record}
use Rattle.message_rules.specs.Refusal.{number_of}
use Rattle.message_rules.specs.declared.Position.{Position}
use Rattle.message_rules.specs.declared.refusal.Refusal.{Refusal}
use Rattle.message_rules.specs.declared.refusal.RefusedAt.{RefusedAt}
use Rattle.codes.specs.Codes.{all_codes}
use Rattle.settings_rules.specs.Settings.{exceeds_maximum}
use Rattle.settings_rules.specs.Entries.{Entry, entry_of}
use Rattle.settings_rules.specs.Values.{with_value}
use Rattle.settings_rules.specs.declared.Settings.{Settings}
use Rattle.profile_form_rules.specs.Records.{value_record, record_size, code_in, value_in, begins_with_record}
use Rattle.profile_rules.specs.declared.Written.{Written}
use Rattle.profile_form_rules.specs.Form.{Judged}

-- ---- the codes of a profile

-- "each code that is readable, writable and kept"; only a declared code is any of these
unfoldable pub in_profile : Entry → Bool
in_profile e = e.declared && (e.readable && (e.writable && not e.momentary))

unfoldable pub profile_code : Settings → ℕ → Bool
profile_code s c = in_profile (entry_of s c)

-- "rising": those of c to c + n - 1 that p holds of
unfoldable pub rising : (ℕ → Bool) → (n c : ℕ) → List ℕ
rising p zero c = []
rising p (suc n) c = cond (p c) (c ∷ rising p n (suc c)) (rising p n (suc c))

-- the codes from c on that p holds of
abbrev pub codes_from : (ℕ → Bool) → ℕ → List ℕ
codes_from p c = rising p (all_codes - c) c

abbrev pub profile_codes : Settings → List ℕ
profile_codes s = codes_from (profile_code s) 0

-- ---- writing

-- "One for each code": the records of these codes, with these values
unfoldable pub records_of : (values : List ℕ) → List ℕ → List ℕ
records_of values [] = []
records_of values (c ∷ cs) = value_record c (get_or values c 0) ++ records_of values cs

-- "saved value": the profile of these settings
abbrev pub profile_of : Settings → List ℕ
profile_of s = records_of s.saved (profile_codes s)

-- what the function returns that writes: the length written, or a refusal
abbrev pub written_as : Result ℕ Refusal → Written
written_as (Ok n) = record { answer = done; len = n }
written_as (Err r) = record { answer = number_of r; len = 0 }

-- the answer with the length written, and the output afterwards; "Bytes of an output beyond the reply length stay."
pub record Outcome : Type 0 where
  pub result : Written
  pub output : List ℕ

-- 1: "sheet output too short"
unfoldable pub write_profile : Settings → List ℕ → Outcome
write_profile s out =
    cond (leb (length (profile_of s)) (length out))
    (record { result = record { answer = done; len = length (profile_of s) }; output = over (profile_of s) out })
    (record { result = record { answer = wrong_size; len = 0 }; output = out })

-- ---- loading

-- "cut, length or kind wrong 17; not the next code 8; value 9": the answer to the record that the bytes begin with, where c is the next code.
-- Where no byte is left a record is missing: 17 too.
unfoldable pub record_answer : (c : ℕ) (continuous : Bool) (maximum : ℕ) → List ℕ → ℕ
record_answer c continuous maximum bytes =
    cond (begins_with_record bytes)
    (cond (eqb (code_in bytes) c) (cond (exceeds_maximum continuous maximum (value_in bytes)) value_too_large done) code_not_allowed)
    broken_record

unfoldable pub answer_to : Settings → ℕ → List ℕ → ℕ
answer_to s c bytes = record_answer c (entry_of s c).continuous (entry_of s c).maximum bytes

-- "The first bad record decides", "any bytes after the last code's record, or too few records, 17". "The place is that record's start, or the
-- end of the sheet when records are missing": where the bytes left start, since none are left when a record is missing.
-- The next codes are cs, and the bytes left start at position `at` of the profile. After answer 0 the position is the end of the profile.
unfoldable pub judge : Settings → (cs : List ℕ) (at : ℕ) (bytes : List ℕ) → Judged
judge s [] at bytes = record { answer = cond (eqb (length bytes) 0) done broken_record; position = record { 0 = at } }
judge s (c ∷ cs) at bytes =
    cond (eqb (answer_to s c bytes) done)
    (judge s cs (at + record_size) (drop record_size bytes))
    (record { answer = answer_to s c bytes; position = record { 0 = at } })

-- "Loading sets present and saved of all the sheet's codes": of the codes cs, from the records that the bytes are
unfoldable pub stored : Settings → (cs bytes : List ℕ) → Settings
stored s [] bytes = s
stored s (c ∷ cs) bytes = stored (with_value s c (value_in bytes)) cs (drop record_size bytes)

-- the settings afterwards, the answer number, and the position that document 01 gives with a refusal; after answer 0 the end of the profile
pub record Loaded : Type 0 where
  pub settings : Settings
  pub answer : ℕ
  pub position : Position

-- what the function returns that loads a profile of so many bytes into the settings s: the settings afterwards, or a refusal and its position
abbrev pub loaded_as : (s : Settings) (size : ℕ) → Result Settings RefusedAt → Loaded
loaded_as s size (Ok t) = record { settings = t; answer = done; position = record { 0 = size } }
loaded_as s size (Err e) = record { settings = s; answer = number_of e.refusal; position = e.position }

-- "or changes nothing"
unfoldable pub load_as : Settings → Judged → List ℕ → Loaded
load_as s j bytes = record {
  settings = cond (eqb j.answer done) (stored s (profile_codes s) bytes) s;
  answer = j.answer;
  position = j.position;
}

abbrev pub judge_profile : Settings → List ℕ → Judged
judge_profile s bytes = judge s (profile_codes s) 0 bytes

unfoldable pub load_profile : Settings → List ℕ → Loaded
load_profile s bytes = load_as s (judge_profile s bytes) bytes
