-- Wrong rules, and that the theorems do not hold of them: equal values listed, a value taken from the other profile, a code of
-- the second profile left out, absent taken for 0, the last code not compared, falling order; the second's 17 before the
-- first's, a refusal that does not say which profile; room one short taken, exact room refused, the room of the codes alone, a
-- part of the list where the room is short, entries past the list cleared; and a turning that keeps what is absent.
use mathlib.Core.Path.{◌≡◌, refl, ap}
use mathlib.Core.Bool.{Bool, true, cond, ◌&&◌}
use mathlib.Core.List.{List, [], ◌∷◌, ◌++◌, map}
use Prim.Native.Nat.{ℕ, zero, suc, ◌+◌, ◌-◌, ◌<◌}
use native.Mathlib.Omega.{arith}
use lib.ListN.{length, get_or, replicate}
use lib.Dec.{leb, eqb}
use Rattle.checksum.specs.Bytes.{Bytes, none, more}
use Rattle.records.specs.Records.{begins_with}
use Rattle.profile_form_rules.specs.Form.{settings_in, settings_of, bytes_of, record_fits, judge_records, judge_form}
use Rattle.profile_form_rules.specs.declared.Setting.{Setting}
use Rattle.profile_form_rules.specs.Statements.{record_then}
use Rattle.profile_form_rules.proofs.Theorems as form
use Rattle.profile_compare_rules.specs.Compare.{absent, value_of, Difference, differences_from, differences, Room, room_in, listed_in, Outcome, refused_with, list_differences, compare_as, compare_profiles, turned_value, settings_by}
use Rattle.profile_compare_rules.specs.Statements.{difference, CompareRule, answered, Compares, SameIsEmpty, EmptyIsSame, TurnRule, Turns}
use Rattle.profile_compare_rules.proofs.Theorems.{as_ours}

-- ---- profiles of one setting, and room

abbrev one : (code value : ℕ) → List ℕ
one code value = record_then code value 0 []

byte : (b : ℕ) (s : List ℕ) → b < 256 → Bytes s → Bytes (b ∷ s)
byte b s h r = more h r

record-bytes : (code value : ℕ) (rest : List ℕ) → code < 256 → value < 256 → Bytes rest → Bytes (record_then code value 0 rest)
record-bytes code value rest h k r =
    byte 0x05 _ (omega arith) (byte 0x00 _ (omega arith) (byte 0x01 _ (omega arith) (byte 0x00 _ (omega arith) (byte code _ h (byte value _ k (byte 0 _ (omega arith) r))))))

one-bytes : (code value : ℕ) → code < 256 → value < 256 → Bytes (one code value)
one-bytes code value h k = record-bytes code value [] h k none

-- three arrays of n entries, each 9
abbrev nines : ℕ → Room
nines n = record { codes = replicate n 9; first = replicate n 9; second = replicate n 9 }

-- ---- the list

-- the rule with another list
abbrev compare_by : ((a b : List Setting) → List Difference) → CompareRule
compare_by list s t r = compare_as (judge_form s) (judge_form t) (list (settings_of s) (settings_of t)) r

-- a list the other way round
abbrev turned_over : List Difference → List Difference → List Difference
turned_over [] es = es
turned_over (d ∷ ds) es = turned_over ds (d ∷ es)

-- a list by another test of a code, of n codes from c on
abbrev lines_by : (skip : ℕ → Bool) (line : ℕ → Difference) (n c : ℕ) → List Difference
lines_by skip line zero c = []
lines_by skip line (suc n) c = cond (skip c) (lines_by skip line n (suc c)) (line c ∷ lines_by skip line n (suc c))

abbrev line_of : (a b : List Setting) → ℕ → Difference
line_of a b c = difference c (value_of a c) (value_of b c)

-- equal values are listed
abbrev equal_listed : CompareRule
equal_listed = compare_by (λ a b. lines_by (λ c. eqb (value_of a c) absent && eqb (value_of b c) absent) (line_of a b) 256 0)

pub equal_listed_refuted : SameIsEmpty equal_listed → ⊥
unfolding compare_as list_differences value_of settings_in judge_form judge_records record_fits begins_with
equal_listed_refuted h =
    let s = one 0x10 50 in
    let x = (form.accepts-exactly).is_one s refl in
    let e : ◌≡◌ {A = ℕ} 1 0 = ap (λ (o : Outcome). o.result.differences) (h x.settings s (nines 2) x.is_profile) in
    omega arith

-- both values are the first profile's
abbrev other_value : CompareRule
other_value = compare_by (λ a b. map (λ (d : Difference). difference d.code d.first d.first) (differences a b))

pub other-value_refuted : Compares other_value → ⊥
unfolding compare_profiles compare_as list_differences differences_from value_of settings_in judge_form judge_records record_fits begins_with
other-value_refuted h =
    let o = as_ours other_value h (one 0x10 50) (one 0x10 70) (nines 2) (one-bytes 0x10 50 (omega arith) (omega arith)) (one-bytes 0x10 70 (omega arith) (omega arith)) in
    let e : ◌≡◌ {A = ℕ} 50 70 = ap (λ (o : Outcome). get_or o.room.second 0 0) o in
    omega arith

-- a code that only the second profile has is left out
abbrev second_only_left_out : CompareRule
second_only_left_out = compare_by (λ a b. lines_by (λ c. cond (eqb (value_of a c) absent) true (eqb (value_of a c) (value_of b c))) (line_of a b) 256 0)

pub second-only_left_out_refuted : Compares second_only_left_out → ⊥
unfolding compare_profiles compare_as list_differences differences_from value_of settings_in judge_form judge_records record_fits begins_with
second-only_left_out_refuted h =
    let o = as_ours second_only_left_out h [] (one 0x10 70) (nines 2) none (one-bytes 0x10 70 (omega arith) (omega arith)) in
    let e : ◌≡◌ {A = ℕ} 0 1 = ap (λ (o : Outcome). o.result.differences) o in
    omega arith

-- a code that a profile does not have counts as 0
abbrev zero_if_absent : List Setting → ℕ → ℕ
zero_if_absent es c = cond (eqb (value_of es c) absent) 0 (value_of es c)

abbrev zero_for_absent : CompareRule
zero_for_absent = compare_by (λ a b. lines_by (λ c. eqb (zero_if_absent a c) (zero_if_absent b c)) (line_of a b) 256 0)

-- a code that only the second has, at 0
pub zero_for_absent_refuted : Compares zero_for_absent → ⊥
unfolding compare_profiles compare_as list_differences differences_from value_of settings_in judge_form judge_records record_fits begins_with
zero_for_absent_refuted h =
    let o = as_ours zero_for_absent h [] (one 0x10 0) (nines 2) none (one-bytes 0x10 0 (omega arith) (omega arith)) in
    let e : ◌≡◌ {A = ℕ} 0 1 = ap (λ (o : Outcome). o.result.differences) o in
    omega arith

-- the last code is not compared
abbrev last_left_out : CompareRule
last_left_out = compare_by (λ a b. differences_from a b 255 0)

pub last_left_out_refuted : EmptyIsSame last_left_out → ⊥
unfolding compare_as list_differences differences_from value_of settings_in judge_form judge_records record_fits begins_with
last_left_out_refuted h =
    let same = h (one 0xFF 1) (one 0xFF 2) (nines 2) (one-bytes 0xFF 1 (omega arith) (omega arith)) (one-bytes 0xFF 2 (omega arith) (omega arith)) refl refl in
    let e : ◌≡◌ {A = ℕ} 1 2 = ap (λ (s : List ℕ). get_or s 5 0) same in
    omega arith

-- falling order
abbrev falling : CompareRule
falling = compare_by (λ a b. turned_over (differences a b) [])

pub falling_refuted : Compares falling → ⊥
unfolding compare_profiles compare_as list_differences differences_from value_of settings_in judge_form judge_records record_fits begins_with
falling_refuted h =
    let t = record_then 0x10 1 0 (one 0x12 2) in
    let b = record-bytes 0x10 1 (one 0x12 2) (omega arith) (omega arith) (one-bytes 0x12 2 (omega arith) (omega arith)) in
    let e : ◌≡◌ {A = ℕ} 0x12 0x10 = ap (λ (o : Outcome). get_or o.room.codes 0 0) (as_ours falling h [] t (nines 2) none b) in
    omega arith

-- ---- the refusals

-- a byte is no profile
abbrev cut : List ℕ
cut = 0x05 ∷ []

cut-bytes : Bytes cut
cut-bytes = byte 0x05 [] (omega arith) none

-- the second profile is judged before the first
abbrev second_first : CompareRule
second_first s t r = cond (eqb (judge_form t).answer 0) (compare_profiles s t r) (refused_with (judge_form t).answer 2 (judge_form t).position.0 r)

pub second-first_refuted : Compares second_first → ⊥
unfolding compare_profiles compare_as judge_form judge_records record_fits begins_with
second-first_refuted h =
    let e : ◌≡◌ {A = ℕ} 2 1 = ap (λ (o : Outcome). o.result.profile) (as_ours second_first h cut cut (nines 2) cut-bytes cut-bytes) in
    omega arith

-- the answer does not say which profile
abbrev no_profile : CompareRule
no_profile s t r = let o = compare_profiles s t r in record { result = answered o.result.answer 0 o.result.differences o.result.position.0; room = o.room }

pub no_profile_refuted : Compares no_profile → ⊥
unfolding compare_profiles compare_as judge_form judge_records record_fits begins_with
no_profile_refuted h =
    let e : ◌≡◌ {A = ℕ} 0 2 = ap (λ (o : Outcome). o.result.profile) (as_ours no_profile h [] cut (nines 2) none cut-bytes) in
    omega arith

-- ---- the room

-- the rule with another answer to a list
abbrev lists_by : (List Difference → Room → Outcome) → CompareRule
lists_by lists s t r = cond (eqb (compare_profiles s t r).result.answer 17) (compare_profiles s t r) (lists (differences (settings_of s) (settings_of t)) r)

abbrev accepted : List Difference → Room → Outcome
accepted ds r = record { result = answered 0 0 (length ds) 0; room = listed_in ds r }

-- an entry too few is taken
abbrev one_short : CompareRule
one_short = lists_by (λ ds r. cond (leb (length ds) (room_in r + 1)) (accepted ds r) (refused_with 1 0 0 r))

-- one difference, and the room that is lent for it
one_in : (compare : CompareRule) → Compares compare → (r : Room) → compare [] (one 0x10 70) r ≡ compare_profiles [] (one 0x10 70) r
one_in compare h r = as_ours compare h [] (one 0x10 70) r none (one-bytes 0x10 70 (omega arith) (omega arith))

pub one-short_refuted : Compares one_short → ⊥
unfolding compare_profiles compare_as list_differences differences_from value_of settings_in judge_form judge_records record_fits begins_with
one-short_refuted h = let e : ◌≡◌ {A = ℕ} 0 1 = ap (λ (o : Outcome). o.result.answer) (one_in one_short h (nines 0)) in omega arith

-- room for exactly the differences is refused
abbrev exact_room_refused : CompareRule
exact_room_refused = lists_by (λ ds r. cond (leb (length ds + 1) (room_in r)) (accepted ds r) (refused_with 1 0 0 r))

pub exact_room_refused_refuted : Compares exact_room_refused → ⊥
unfolding compare_profiles compare_as list_differences differences_from value_of settings_in judge_form judge_records record_fits begins_with
exact_room_refused_refuted h = let e : ◌≡◌ {A = ℕ} 1 0 = ap (λ (o : Outcome). o.result.answer) (one_in exact_room_refused h (nines 1)) in omega arith

-- the codes' room is the room
abbrev codes_room : CompareRule
codes_room = lists_by (λ ds r. cond (leb (length ds) (length r.codes)) (accepted ds r) (refused_with 1 0 0 r))

pub codes-room_refuted : Compares codes_room → ⊥
unfolding compare_profiles compare_as list_differences differences_from value_of settings_in judge_form judge_records record_fits begins_with
codes-room_refuted h =
    let r : Room = record { codes = 9 ∷ []; first = 9 ∷ []; second = [] } in
    let e : ◌≡◌ {A = ℕ} 0 1 = ap (λ (o : Outcome). o.result.answer) (one_in codes_room h r) in
    omega arith

-- where the room is short, the codes are listed all the same
abbrev codes_listed : CompareRule
codes_listed = lists_by (λ ds r. cond (leb (length ds) (room_in r)) (accepted ds r) (refused_with 1 0 0 (record { codes = (listed_in ds r).codes; first = r.first; second = r.second })))

pub codes-listed_refuted : Compares codes_listed → ⊥
unfolding compare_profiles compare_as list_differences differences_from value_of settings_in judge_form judge_records record_fits begins_with
codes-listed_refuted h =
    let r : Room = record { codes = 9 ∷ []; first = []; second = [] } in
    let e : ◌≡◌ {A = ℕ} 0x10 9 = ap (λ (o : Outcome). get_or o.room.codes 0 0) (one_in codes_listed h r) in
    omega arith

-- the entries past the list become 0
abbrev rest_cleared : CompareRule
rest_cleared =
    lists_by (λ ds r. cond (leb (length ds) (room_in r))
    (record { result = answered 0 0 (length ds) 0; room = record { codes = map (λ (d : Difference). d.code) ds ++ replicate (length r.codes - length ds) 0; first = (listed_in ds r).first; second = (listed_in ds r).second } })
    (refused_with 1 0 0 r))

pub rest_cleared_refuted : Compares rest_cleared → ⊥
unfolding compare_profiles compare_as list_differences differences_from value_of settings_in judge_form judge_records record_fits begins_with
rest_cleared_refuted h = let e : ◌≡◌ {A = ℕ} 0 9 = ap (λ (o : Outcome). get_or o.room.codes 1 0) (one_in rest_cleared h (nines 2)) in omega arith

-- ---- turning

-- a code that is absent from the second profile keeps its value
abbrev kept_value : List Difference → (value : ℕ → ℕ) → ℕ → ℕ
kept_value ds value c = cond (eqb (turned_value ds value c) absent) (value c) (turned_value ds value c)

abbrev keeps_absent : TurnRule
keeps_absent s ds = bytes_of (settings_by (kept_value ds (value_of (settings_of s))) 256 0)

pub keeps-absent_refuted : Turns keeps_absent compare_profiles → ⊥
unfolding compare_profiles compare_as list_differences differences_from value_of turned_value settings_by bytes_of settings_in judge_form judge_records record_fits begins_with
keeps-absent_refuted h =
    let e : ◌≡◌ {A = ℕ} 7 0 = ap length (h (one 0x10 50) [] (nines 2) none refl) in
    omega arith
