-- Document 02, K4: comparing two settings profiles (the paper's settings sheets).
use Rattle.std.specs.Prelude.{ℕ, zero, suc, min, cond, List, [], ◌∷◌, map, length, leb, eqb}
use Rattle.buffers.specs.Buffers.{over}
use Rattle.codes.specs.Codes.{all_codes}
use Rattle.message_rules.specs.Answer.{done, wrong_size}
use Rattle.profile_form_rules.specs.Form.{Judged, settings_of, bytes_of, judge_form}
use Rattle.profile_form_rules.specs.declared.Setting.{Setting}
use Rattle.profile_compare_rules.specs.declared.Compared.{Compared}

-- ---- the differences

-- what stands for a value "where absent": no value is 65,536, since two bytes hold at most 65,535
abbrev pub absent : ℕ
absent = 65536

-- the value that settings have for a code, or absent
unfoldable pub value_of : List Setting → (code : ℕ) → ℕ
value_of [] code = absent
value_of (e ∷ es) code = cond (eqb e.code code) e.value (value_of es code)

-- a line of the list: a code "with both values"
pub record Difference : Type 0 where
  pub code : ℕ
  pub first : ℕ
  pub second : ℕ

-- "exactly the codes that are in one only or whose value differs, in rising order": of the n codes from c on
unfoldable pub differences_from : (a b : List Setting) (n c : ℕ) → List Difference
differences_from a b zero c = []
differences_from a b (suc n) c =
    cond (eqb (value_of a c) (value_of b c))
    (differences_from a b n (suc c))
    (record { code = c; first = value_of a c; second = value_of b c } ∷ differences_from a b n (suc c))

abbrev pub differences : (a b : List Setting) → List Difference
differences a b = differences_from a b all_codes 0

-- ---- what is lent

-- an array of codes and two of values, entry by entry the list; "absent" stands where a profile does not have the code
pub record Room : Type 0 where
  pub codes : List ℕ
  pub first : List ℕ
  pub second : List ℕ

abbrev pub lent : (codes first second : List ℕ) → Room
lent codes first second = record { codes = codes; first = first; second = second }

-- the shortest of the three
abbrev pub room_in : Room → ℕ
room_in r = min (length r.codes) (min (length r.first) (length r.second))

-- the list at the start of each array; entries past the list stay
abbrev pub listed_in : List Difference → Room → Room
listed_in ds r = record {
  codes = over (map (λ (d : Difference). d.code) ds) r.codes;
  first = over (map (λ (d : Difference). d.first) ds) r.first;
  second = over (map (λ (d : Difference). d.second) ds) r.second;
}

-- ---- the comparison

-- "the answer says which sheet"
abbrev pub neither : ℕ
neither = 0

abbrev pub the_first : ℕ
the_first = 1

abbrev pub the_second : ℕ
the_second = 2

-- the answer, and the arrays afterwards
pub record Outcome : Type 0 where
  pub result : Compared
  pub room : Room

abbrev pub outcome : Compared → Room → Outcome
outcome result room = record { result = result; room = room }

-- "nothing is listed"
abbrev pub refusal : (answer profile position : ℕ) → Compared
refusal answer profile position = record { answer = answer; profile = profile; differences = 0; position = record { 0 = position } }

abbrev pub refused_with : (answer profile position : ℕ) → Room → Outcome
refused_with answer profile position r = outcome (refusal answer profile position) r

-- "then 1 if the lent room is too small"
unfoldable pub list_differences : List Difference → Room → Outcome
list_differences ds r =
    cond (leb (length ds) (room_in r))
    (record { result = record { answer = done; profile = neither; differences = length ds; position = record { 0 = 0 } }; room = listed_in ds r })
    (refused_with wrong_size neither 0 r)

-- "Refusals: the first sheet's 17, the second's 17 (the answer says which sheet)": by how each was judged
unfoldable pub compare_as : (first second : Judged) → List Difference → Room → Outcome
compare_as first second ds r =
    cond (eqb first.answer done)
    (cond (eqb second.answer done) (list_differences ds r) (refused_with second.answer the_second second.position.0 r))
    (refused_with first.answer the_first first.position.0 r)

unfoldable pub compare_profiles : (s t : List ℕ) → Room → Outcome
compare_profiles s t r = compare_as (judge_form s) (judge_form t) (differences (settings_of s) (settings_of t)) r

-- ---- turning the first profile into the second

-- "by the listed differences": the value of a code afterwards is the second one of its difference, or the one it had
unfoldable pub turned_value : List Difference → (value : ℕ → ℕ) → (code : ℕ) → ℕ
turned_value [] value code = value code
turned_value (d ∷ ds) value code = cond (eqb d.code code) d.second (turned_value ds value code)

-- the settings that have these values, of the n codes from c on: a code whose value is absent is left out
unfoldable pub settings_by : (value : ℕ → ℕ) (n c : ℕ) → List Setting
settings_by value zero c = []
settings_by value (suc n) c = cond (eqb (value c) absent) (settings_by value n (suc c)) (record { code = c; value = value c } ∷ settings_by value n (suc c))

-- "Turning the first sheet into the second": a function of the sheet's bytes and of the list alone
abbrev pub turned : List ℕ → List Difference → List ℕ
turned s ds = bytes_of (settings_by (turned_value ds (value_of (settings_of s))) all_codes 0)
