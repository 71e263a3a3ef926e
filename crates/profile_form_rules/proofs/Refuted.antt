-- Wrong rules, and that the theorems do not hold of them: a code may stand twice, codes in any order, a kind or a length that
-- nothing looks at, a cut record passed over, a place behind the record, F4 or the empty profile refused, a value without its high
-- byte.
use mathlib.Core.Path.{◌≡◌, refl, sym, ap, ◌∙◌}
use mathlib.Core.Bool.{Bool, cond, not, ◌&&◌}
use mathlib.Core.List.{List, [], ◌∷◌, map}
use Prim.Native.Nat.{ℕ, zero, suc, ◌+◌, ◌/◌, ◌%◌}
use native.Mathlib.Omega.{arith}
use lib.ListN.{length, drop}
use lib.Dec.{leb, eqb}
use Rattle.records.specs.Numbers.{word_at}
use Rattle.records.specs.Records.{begins_with}
use Rattle.profile_form_rules.specs.Records.{record_size, code_in}
use Rattle.profile_form_rules.specs.Form.{Judged, settings_in, settings_of, bytes_of, record_fits, judge_records, begun_in, judge_form}
use Rattle.profile_form_rules.specs.declared.Setting.{Setting}
use Rattle.profile_form_rules.specs.Statements.{record_then, JudgeRule, ReadRule, AcceptsExactly, FirstRefused, ReadAndWritten}
use Rattle.profile_form_rules.proofs.Judging.{accepted_at, refused_at}
use Rattle.profile_form_rules.proofs.Theorems.{accepts-exactly, read_and_written, first-refused}

-- ---- a rule of which a theorem holds answers as ours does

same-refusal : (judge : JudgeRule) → FirstRefused judge → (s : List ℕ) → (judge_form s).answer ≡ 17 → judge s ≡ judge_form s
same-refusal judge h s e =
    let r = (first-refused.first s (λ z. omega (arith, e, z))).1 in
    h.given s (judge_form s).position.0 r ∙ sym (first-refused.given s (judge_form s).position.0 r)

same_answer : (judge : JudgeRule) → FirstRefused judge → (s : List ℕ) → (judge_form s).answer ≡ 17 → (judge s).answer ≡ 17
same_answer judge h s e = ap (λ (j : Judged). j.answer) (same-refusal judge h s e) ∙ e

accepted_alike : (judge : JudgeRule) → AcceptsExactly judge → (s : List ℕ) → (judge_form s).answer ≡ 0 → (judge s).answer ≡ 0
accepted_alike judge h s e = let x = accepts-exactly.is_one s e in ap (λ (j : Judged). j.answer) (h.every x.settings s x.is_profile)

-- ---- the judgement

-- a record of a small value, and what follows
abbrev setting : (code value : ℕ) → List ℕ → List ℕ
setting code value rest = record_then code value 0 rest

-- the judgement by another test of a record, and with another lowest code behind one
abbrev judge_by : (fits : ℕ → List ℕ → Bool) (next : ℕ → ℕ) (n lowest at : ℕ) → List ℕ → Judged
judge_by fits next zero lowest at bytes = accepted_at at
judge_by fits next (suc n) lowest at bytes = cond (fits lowest bytes) (judge_by fits next n (next (code_in bytes)) (at + record_size) (drop record_size bytes)) (refused_at at)

abbrev by : (fits : ℕ → List ℕ → Bool) (next : ℕ → ℕ) → JudgeRule
by fits next s = judge_by fits next (begun_in (length s)) 0 0 s

-- a code may stand again
abbrev twice : JudgeRule
twice = by record_fits (λ code. code)

pub twice_refuted : FirstRefused twice → ⊥
unfolding judge_form judge_records record_fits begins_with
twice_refuted h = let e : ◌≡◌ {A = ℕ} 0 17 = same_answer twice h (setting 0x10 50 (setting 0x10 70 [])) refl in omega arith

-- the order of the codes is free
abbrev any_order : JudgeRule
any_order = by record_fits (λ code. 0)

pub any_order_refuted : FirstRefused any_order → ⊥
unfolding judge_form judge_records record_fits begins_with
any_order_refuted h = let e : ◌≡◌ {A = ℕ} 0 17 = same_answer any_order h (setting 0x12 50 (setting 0x10 70 [])) refl in omega arith

-- the kind is not looked at
abbrev no_kind : JudgeRule
no_kind = by (λ lowest bytes. leb 7 (length bytes) && (eqb (word_at bytes 0) 5 && leb lowest (code_in bytes))) suc

-- a record of kind 2
pub no_kind_refuted : FirstRefused no_kind → ⊥
unfolding judge_form judge_records record_fits begins_with
no_kind_refuted h = let e : ◌≡◌ {A = ℕ} 0 17 = same_answer no_kind h (0x05 ∷ 0x00 ∷ 0x02 ∷ 0x00 ∷ 0x10 ∷ 50 ∷ 0 ∷ []) refl in omega arith

-- the length is not looked at
abbrev no_length : JudgeRule
no_length = by (λ lowest bytes. leb 7 (length bytes) && (eqb (word_at bytes 2) 1 && leb lowest (code_in bytes))) suc

-- a record of length 6
pub no_length_refuted : FirstRefused no_length → ⊥
unfolding judge_form judge_records record_fits begins_with
no_length_refuted h = let e : ◌≡◌ {A = ℕ} 0 17 = same_answer no_length h (0x06 ∷ 0x00 ∷ 0x01 ∷ 0x00 ∷ 0x10 ∷ 50 ∷ 0 ∷ []) refl in omega arith

-- bytes that are too few for a record are passed over
abbrev rest_ignored : JudgeRule
rest_ignored s = judge_records (length s / record_size) 0 0 s

pub rest_ignored_refuted : FirstRefused rest_ignored → ⊥
unfolding judge_form judge_records record_fits begins_with
rest_ignored_refuted h = let e : ◌≡◌ {A = ℕ} 0 17 = same_answer rest_ignored h (setting 0x10 50 (0x05 ∷ 0x00 ∷ [])) refl in omega arith

-- the place is behind the refused record
abbrev behind_it : JudgeRule
behind_it s = let j = judge_form s in record { answer = j.answer; position = record { 0 = cond (eqb j.answer 0) j.position.0 (j.position.0 + 7) } }

pub behind_it_refuted : FirstRefused behind_it → ⊥
unfolding judge_form judge_records record_fits begins_with
behind_it_refuted h =
    let e : ◌≡◌ {A = ℕ} 14 7 = ap (λ (j : Judged). j.position.0) (same-refusal behind_it h (setting 0x10 50 (setting 0x10 70 [])) refl) in
    omega arith

-- the table's code F4 is not to stand in a profile
abbrev without_table : JudgeRule
without_table = by (λ lowest bytes. record_fits lowest bytes && not (eqb (code_in bytes) 0xF4)) suc

pub without_table_refuted : AcceptsExactly without_table → ⊥
unfolding judge_form judge_records record_fits begins_with
without_table_refuted h = let e : ◌≡◌ {A = ℕ} 17 0 = accepted_alike without_table h (setting 0xF4 1 []) refl in omega arith

-- the empty profile is refused
abbrev empty_refused : JudgeRule
empty_refused s = cond (eqb (length s) 0) (refused_at 0) (judge_form s)

pub empty_refused_refuted : AcceptsExactly empty_refused → ⊥
unfolding judge_form judge_records
empty_refused_refuted h = let e : ◌≡◌ {A = ℕ} 17 0 = accepted_alike empty_refused h [] refl in omega arith

-- ---- the settings

-- the value of the first setting
abbrev value_first : List Setting → ℕ
value_first [] = 0
value_first (e ∷ es) = e.value

-- a value is its low byte
abbrev low_only : ReadRule
low_only s = map (λ (e : Setting). record { code = e.code; value = e.value % 256 }) (settings_of s)

pub low-only_refuted : ReadAndWritten low_only bytes_of → ⊥
unfolding settings_in judge_form judge_records record_fits begins_with
low-only_refuted h =
    let s = record_then 0x10 0x34 0x12 [] in
    let x = accepts-exactly.is_one s refl in
    let e : low_only s ≡ settings_of s = h.settings x.settings s x.is_profile ∙ sym (read_and_written.settings x.settings s x.is_profile) in
    let f : ◌≡◌ {A = ℕ} 0x34 0x1234 = ap value_first e in
    omega arith
