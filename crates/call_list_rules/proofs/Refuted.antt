-- Wrong rules, and that the theorems do not hold of them: the household is judged before the token, only neighbours are
-- compared, a household may stand twice where the token differs, the last record is not compared, a broken tail goes
-- before an earlier repeat, the length of a record is not looked at, the position is a record's number, 86 records are
-- taken, the empty list is refused; the query counts from 1, or gives an entry of a list that is refused; an entry's
-- token and household change places.
use mathlib.Core.Path.{◌≡◌, refl, sym, ap, ◌∙◌}
use mathlib.Core.Bool.{Bool, cond, ◌&&◌}
use mathlib.Core.List.{List, [], ◌∷◌}
use Rattle.std.specs.Prelude.{Some, None, Ok, Err}
use Prim.Native.Nat.{ℕ, suc, ◌-◌, ◌/◌, ◌≤◌}
use native.Mathlib.Omega.{arith}
use lib.ListN.{length, drop, replicate, length-replicate}
use lib.Dec.{leb, eqb}
use Rattle.message_rules.specs.Answer.{done, text_too_long, broken_record, repeated_token, repeated_household}
use Rattle.records.specs.Numbers.{word_at}
use Rattle.records.specs.Records.{begins_with}
use Rattle.call_list_rules.specs.Limits.{entry_kind}
use Rattle.call_list_rules.specs.CallList.{start_of, is_whole, token_of, household_of, among, record_answer, refused_at, first_refused, begun_in, check_list, search_from, Found, find_as, find_household, entry_of}
use Rattle.call_list_rules.specs.Statements.{record_then, CheckRule, FindRule, AcceptsExactly, FirstRefused, FindsExactly, EntryRule, EntriesGiven}
use Rattle.call_list_rules.specs.declared.Checked.{Checked}
use Rattle.call_list_rules.specs.declared.Entry.{Entry}
use Rattle.call_list_rules.proofs.Searching.{counted}
use Rattle.call_list_rules.proofs.Theorems.{accepts-exactly, first-refused, finds-exactly, entries-given}

-- ---- a rule of which a theorem holds answers as ours does

same-refusal : (check : CheckRule) → FirstRefused check → (s : List ℕ) → length s ≤ 1024 → ((check_list s).answer ≡ 0 → ⊥) → check s ≡ check_list s
same-refusal check h s l n =
    let x = first-refused.first s l n in
    h.given s (check_list s).answer (check_list s).position.0 l x ∙ sym (first-refused.given s (check_list s).answer (check_list s).position.0 l x)

same_answer : (check : CheckRule) → FirstRefused check → (s : List ℕ) → length s ≤ 1024 → ((check_list s).answer ≡ 0 → ⊥) → (check s).answer ≡ (check_list s).answer
same_answer check h s l n = ap (λ (c : Checked). c.answer) (same-refusal check h s l n)

-- ---- lists of small numbers

-- a record, and what follows
abbrev call : (token household : ℕ) → List ℕ → List ℕ
call token household rest = record_then token 0 0 0 household 0 0 0 rest

-- the rule with other answers to a record
abbrev check_by : (List ℕ → ℕ → ℕ) → CheckRule
check_by answers s = cond (leb (length s) 1024) (first_refused (answers s) (begun_in (length s)) 0) (refused_at text_too_long 0)

-- ---- the check

-- the household before the token
abbrev household_first : List ℕ → ℕ → ℕ
household_first s k =
    cond (is_whole s k)
    (cond (among (household_of s) k (household_of s k)) repeated_household (cond (among (token_of s) k (token_of s k)) repeated_token done))
    broken_record

-- the same record twice
pub household-first_refuted : FirstRefused (check_by household_first) → ⊥
unfolding check_list first_refused record_answer among begins_with
household-first_refuted h =
    let e : ◌≡◌ {A = ℕ} 20 19 = same_answer (check_by household_first) h (call 1 7 (call 1 7 [])) (omega arith) (λ z. let y : ◌≡◌ {A = ℕ} 19 0 = z in omega arith) in
    omega arith

-- whether the number before number k is n
abbrev just_before : (ℕ → ℕ) → (k n : ℕ) → Bool
just_before numbers k n = leb 1 k && eqb (numbers (k - 1)) n

abbrev neighbours_only : List ℕ → ℕ → ℕ
neighbours_only s k =
    cond (is_whole s k)
    (cond (just_before (token_of s) k (token_of s k)) repeated_token (cond (just_before (household_of s) k (household_of s k)) repeated_household done))
    broken_record

-- a token again, behind another one
pub neighbours_only_refuted : FirstRefused (check_by neighbours_only) → ⊥
unfolding check_list first_refused record_answer among begins_with
neighbours_only_refuted h =
    let e : ◌≡◌ {A = ℕ} 0 19 = same_answer (check_by neighbours_only) h (call 1 7 (call 2 8 (call 1 9 []))) (omega arith) (λ z. let y : ◌≡◌ {A = ℕ} 19 0 = z in omega arith) in
    omega arith

-- a repeated household counts only with its token
abbrev tokens_only : List ℕ → ℕ → ℕ
tokens_only s k = cond (is_whole s k) (cond (among (token_of s) k (token_of s k)) repeated_token done) broken_record

-- a household with two tokens
pub tokens-only_refuted : FirstRefused (check_by tokens_only) → ⊥
unfolding check_list first_refused record_answer among begins_with
tokens-only_refuted h =
    let e : ◌≡◌ {A = ℕ} 0 20 = same_answer (check_by tokens_only) h (call 1 7 (call 2 7 [])) (omega arith) (λ z. let y : ◌≡◌ {A = ℕ} 20 0 = z in omega arith) in
    omega arith

-- the last record has only to be whole
abbrev last_free : List ℕ → ℕ → ℕ
last_free s k = cond (eqb (suc k) (begun_in (length s))) (cond (is_whole s k) done broken_record) (record_answer s k)

pub last-free_refuted : FirstRefused (check_by last_free) → ⊥
unfolding check_list first_refused record_answer among begins_with
last-free_refuted h =
    let e : ◌≡◌ {A = ℕ} 0 19 = same_answer (check_by last_free) h (call 1 7 (call 1 8 [])) (omega arith) (λ z. let y : ◌≡◌ {A = ℕ} 19 0 = z in omega arith) in
    omega arith

-- all records are looked at for their form, and only then for repeats
abbrev form_first : CheckRule
form_first s =
    let form = check_by (λ (t : List ℕ) (k : ℕ). cond (is_whole t k) done broken_record) s in
    cond (eqb form.answer done) (check_list s) form

-- a repeat, and behind it a byte too many
pub form_first_refuted : FirstRefused form_first → ⊥
unfolding check_list first_refused record_answer among begins_with
form_first_refuted h =
    let e : ◌≡◌ {A = ℕ} 17 19 = same_answer form_first h (call 1 7 (call 1 8 (10 ∷ []))) (omega arith) (λ z. let y : ◌≡◌ {A = ℕ} 19 0 = z in omega arith) in
    omega arith

-- the length field is not looked at
abbrev any_length : List ℕ → ℕ → ℕ
any_length s k =
    let bytes = drop (start_of k) s in
    cond (leb 12 (length bytes) && eqb (word_at bytes 2) entry_kind)
    (cond (among (token_of s) k (token_of s k)) repeated_token (cond (among (household_of s) k (household_of s k)) repeated_household done))
    broken_record

-- a record whose length is 11
pub any_length_refuted : FirstRefused (check_by any_length) → ⊥
unfolding check_list first_refused record_answer among begins_with
any_length_refuted h =
    let e : ◌≡◌ {A = ℕ} 0 17 = same_answer (check_by any_length) h (11 ∷ 0 ∷ 32 ∷ 0 ∷ 1 ∷ 0 ∷ 0 ∷ 0 ∷ 7 ∷ 0 ∷ 0 ∷ 0 ∷ []) (omega arith) (λ z. let y : ◌≡◌ {A = ℕ} 17 0 = z in omega arith) in
    omega arith

-- the refusal's position is the record's number
abbrev numbered : CheckRule
numbered s = let c = check_list s in record { answer = c.answer; entries = c.entries; position = record { 0 = c.position.0 / 12 } }

pub numbered_refuted : FirstRefused numbered → ⊥
unfolding check_list first_refused record_answer among begins_with
numbered_refuted h =
    let e : ◌≡◌ {A = ℕ} 1 12 = ap (λ (c : Checked). c.position.0) (same-refusal numbered h (call 1 7 (call 1 8 [])) (omega arith) (λ z. let y : ◌≡◌ {A = ℕ} 19 0 = z in omega arith)) in
    omega arith

-- 86 records are 1,032 bytes
abbrev takes86 : CheckRule
takes86 s = cond (leb (length s) 1032) (first_refused (record_answer s) (begun_in (length s)) 0) (refused_at text_too_long 0)

-- 1,032 zeros are refused for their form
pub takes_86_refuted : FirstRefused takes86 → ⊥
unfolding first_refused record_answer begins_with
takes_86_refuted h =
    let s : List ℕ = replicate 1032 0 in
    let e : ◌≡◌ {A = ℕ} 17 11 = ap (λ (c : Checked). c.answer) (h.long s (omega (arith, length-replicate {A = ℕ} 1032 0))) in
    omega arith

-- a list without a record is refused
abbrev empty_refused : CheckRule
empty_refused s = cond (eqb (length s) 0) (refused_at broken_record 0) (check_list s)

pub empty_refused_refuted : AcceptsExactly empty_refused → ⊥
unfolding check_list first_refused
empty_refused_refuted h =
    let x = accepts-exactly.is_one [] refl in
    let e : ◌≡◌ {A = ℕ} 17 0 = ap (λ (c : Checked). c.answer) (h.every x.entries [] x.is_list) in
    omega arith

-- ---- the query

abbrev onward : Found → Found
onward (Ok (Some k)) = Ok (Some (record { 0 = suc k.0 }))
onward (Ok None) = Ok None
onward (Err c) = Err c

-- entries counted from 1
abbrev from_one : FindRule
from_one s h = onward (find_household s h)

pub from_one_refuted : FindsExactly check_list from_one → ⊥
unfolding find_household find_as search_from check_list first_refused record_answer among begins_with
from_one_refuted h =
    let s = call 1 7 [] in
    let x = accepts-exactly.is_one s refl in
    let stands = (finds-exactly.finds x.entries s 7 x.is_list).only 0 refl in
    let e : ◌≡◌ {A = ℕ} 2 1 = ap counted ((h.finds x.entries s 7 x.is_list).there 0 stands) in
    omega arith

-- a list that is refused is searched all the same
abbrev any_list : FindRule
any_list s h = Ok (search_from (household_of s) h (begun_in (length s)) 0)

pub any_list_refuted : FindsExactly check_list any_list → ⊥
unfolding find_household find_as search_from check_list first_refused record_answer among begins_with
any_list_refuted h =
    let s = call 1 7 (call 1 8 []) in
    let e : ◌≡◌ {A = ℕ} 1 0 = ap counted (h.refused s 7 (λ z. let y : ◌≡◌ {A = ℕ} 19 0 = z in omega arith)) in
    omega arith

-- ---- the entries

-- token and household change places
abbrev crossed : EntryRule
crossed s k = let e = entry_of s k in record { token = e.household; household = e.token }

pub crossed_refuted : EntriesGiven crossed → ⊥
unfolding entry_of check_list first_refused record_answer among begins_with
crossed_refuted h =
    let s = call 1 7 [] in
    let x = accepts-exactly.is_one s refl in
    let e : ◌≡◌ {A = ℕ} 7 1 = ap (λ (y : Entry). y.token) (h x.entries s x.is_list 0 ∙ sym (entries-given x.entries s x.is_list 0)) in
    omega arith
