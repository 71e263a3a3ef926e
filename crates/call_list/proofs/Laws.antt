-- The check from record to record, the query and the entries.
use mathlib.Core.Path.{◌≡◌, refl, sym, ap, ap₂, ◌∙◌, subst}
use mathlib.Core.Bool.{Bool, true, false, true≢false}
use mathlib.Core.List.{List, []}
use Prim.Native.Nat.{ℕ, zero, suc, ◌+◌, ◌-◌, ◌/◌, ◌≤◌, ◌<◌}
use native.Mathlib.Omega.{arith}
use lib.ListN.{length, get_or, take, drop, length-take}
use lib.Seq.{drop-drop}
use lib.Dec.{leb, ltb, eqb}
use borrow.Author.Tests.{le-leb, lt-leb, leb-true, leb-false, ltb-false, eqb-true, eqb-false, eq-eqb, ne_eqb}
use Rattle.std.specs.Prelude.{min, Option, Some, None, Ok, Err}
use Rattle.std.specs.Simd.{first_chunks}
use Rattle.std.specs.List.{position, position_or_len}
use Rattle.std.proofs.lemmas.List.Quantifiers.{position-Some}
use Rattle.std.proofs.lemmas.List.Sums.{fails_before_first}
use Rattle.std.proofs.lemmas.List.{get_or-take}
use Rattle.message_rules.specs.Answer.{done}
use Rattle.message_rules.specs.Refusal.{number_of}
use Rattle.message_rules.specs.declared.refusal.Refusal.{Refusal}
use Rattle.message_rules.specs.declared.refusal.Refusal.TheVariants as refusal
use Rattle.records.specs.Numbers.{word_at, long_at}
use Rattle.records.specs.Records.{begins_with}
use Rattle.records.proofs.Numbers.{number_same, number_dropped}
use Rattle.records.proofs.Records.{stands_whole}
use Rattle.call_list_rules.specs.Limits.{longest_list, record_length, entry_kind, record_size, token_at, household_at}
use Rattle.call_list_rules.specs.CallList.{start_of, is_whole, token_of, household_of, among, record_answer, accepted_with, refused_at, first_refused, begun_in, check_list, search_from, find_as, find_household, no_entry, entry_of}
use Rattle.call_list_rules.specs.declared.Checked.{Checked}
use Rattle.call_list_rules.specs.declared.Entry.{Entry}
use Rattle.call_list_rules.specs.declared.EntryNumber.{EntryNumber}
use Rattle.call_list_rules.proofs.First.{goes_on, stops}
use Rattle.call_list_rules.proofs.Answers.{done-fits}
use Rattle.call_list_rules.proofs.Records.{records_size, drop-next}
use Rattle.call_list_rules.proofs.Searching.{search_here, search_next}
use Rattle.call_list_rules.proofs.Theorems.{check_short, accepts-exactly}
use Rattle.call_list.specs.Parts.{row_room, number_in, stands_in, entry_at}
use Rattle.call_list.specs.Earlier.{answer_behind, Joined}
use Rattle.call_list.specs.declared.earlier.Earlier.{Earlier}
use Rattle.call_list.proofs.Rows.{Alike, alike_next, stands-among}

-- ---- a refusal is not done

pub refused-not_done : (r : Refusal) → number_of r ≡ done → ⊥
refused-not_done refusal.WrongSize e = absurd (omega (arith, e))
refused-not_done refusal.TooShort e = absurd (omega (arith, e))
refused-not_done refusal.WrongFirstByte e = absurd (omega (arith, e))
refused-not_done refusal.WrongLength e = absurd (omega (arith, e))
refused-not_done refusal.WrongChecksum e = absurd (omega (arith, e))
refused-not_done refusal.UnknownCommand e = absurd (omega (arith, e))
refused-not_done refusal.WrongField e = absurd (omega (arith, e))
refused-not_done refusal.CodeNotAllowed e = absurd (omega (arith, e))
refused-not_done refusal.ValueTooLarge e = absurd (omega (arith, e))
refused-not_done refusal.NotWanted e = absurd (omega (arith, e))
refused-not_done refusal.TextTooLong e = absurd (omega (arith, e))
refused-not_done refusal.NullMessage e = absurd (omega (arith, e))
refused-not_done refusal.WrongGrammar e = absurd (omega (arith, e))
refused-not_done refusal.NoNodeRoom e = absurd (omega (arith, e))
refused-not_done refusal.TooDeep e = absurd (omega (arith, e))
refused-not_done refusal.TransferClosed e = absurd (omega (arith, e))
refused-not_done refusal.BrokenRecord e = absurd (omega (arith, e))
refused-not_done refusal.NotDeclarable e = absurd (omega (arith, e))
refused-not_done refusal.RepeatedToken e = absurd (omega (arith, e))
refused-not_done refusal.RepeatedHousehold e = absurd (omega (arith, e))

-- ---- the bytes of a record

leb-least : (n m : ℕ) → leb n (min n m) ≡ leb n m
leb-least n m = go (leb n m) refl
  where
    go : (t : Bool) → leb n m ≡ t → leb n (min n m) ≡ t
    go true e = le-leb n (min n m) (omega (arith, leb-true n m e))
    go false e = lt-leb n (min n m) (omega (arith, leb-false n m e))

module _ (s : List ℕ) (k : ℕ) where
  abbrev pub record_at : List ℕ
  record_at = take record_size (drop (start_of k) s)

  at-same : (i : ℕ) → i < record_size → get_or record_at i 0 ≡ get_or (drop (start_of k) s) i 0
  at-same i l = get_or-take record_size (drop (start_of k) s) i 0 l

  room-same : leb (2 + record_length) (length record_at) ≡ leb (2 + record_length) (length (drop (start_of k) s))
  room-same = ap (leb (2 + record_length)) (length-take record_size (drop (start_of k) s)) ∙ leb-least record_size (length (drop (start_of k) s))

  word-same : (i : ℕ) → i + 2 ≤ record_size → word_at record_at i ≡ word_at (drop (start_of k) s) i
  word-same i l = number_same 2 record_at (drop (start_of k) s) i i (λ m q. at-same (i + m) (omega arith))

  pub whole-at : begins_with record_length entry_kind record_at ≡ is_whole s k
  unfolding begins_with
  whole-at = rw (room-same, word-same 0 (omega arith), word-same 2 (omega arith))

  long-at : (i : ℕ) → i + 4 ≤ record_size → long_at record_at i ≡ long_at s (start_of k + i)
  long-at i l = number_same 4 record_at (drop (start_of k) s) i i (λ m q. at-same (i + m) (omega arith)) ∙ number_dropped 4 s (start_of k) i

  pub entry-at : entry_at record_at 0 ≡ record { token = token_of s k; household = household_of s k }
  entry-at = ap₂ (λ (t h : ℕ). record { token = t; household = h }) (long-at token_at (omega arith)) (long-at household_at (omega arith))

-- ---- the records in front

-- the rows hold the tokens and the households of the first records of a list
pub record Holds (e : Earlier) (s : List ℕ) : Type 0 where
  pub tokens : Alike e.tokens (token_of s) e.len
  pub households : Alike e.households (household_of s) e.len

pub holds_none : (e : Earlier) (s : List ℕ) → e.len ≡ 0 → Holds e s
holds_none e s z = record { tokens = λ i l. absurd (omega arith); households = λ i l. absurd (omega arith) }

-- the answer behind them is the answer to the next record
pub answer_next : (e : Earlier) (s : List ℕ) → Holds e s → answer_behind e (record_at s e.len) ≡ record_answer s e.len
unfolding record_answer
answer_next e s h =
    let k = e.len in
    let x = entry-at s k in
    let t : stands_in (take k e.tokens) (entry_at (record_at s k) 0).token ≡ among (token_of s) k (token_of s k) =
    ap (λ (y : Entry). stands_in (take k e.tokens) y.token) x ∙ stands-among e.tokens (token_of s) k (token_of s k) (omega (arith, e.inside)) h.tokens in
    let u : stands_in (take k e.households) (entry_at (record_at s k) 0).household ≡ among (household_of s) k (household_of s k) =
    ap (λ (y : Entry). stands_in (take k e.households) y.household) x ∙ stands-among e.households (household_of s) k (household_of s k) (omega (arith, e.inside)) h.households in
    rw (whole-at s k, t, u)

pub holds_next : (e f : Earlier) (s : List ℕ) → Holds e s → e.len < row_room → Joined e (entry_at (record_at s e.len) 0) f → Holds f s
holds_next e f s h l j =
    let x = entry-at s e.len in
    record {
      tokens = λ i p. ap (λ (r : List ℕ). number_in r i) j.tokens ∙ alike_next e.tokens (token_of s) e.len _ (omega (arith, l, e.inside)) (ap (λ (y : Entry). y.token) x) h.tokens i (omega (arith, j.len));
      households = λ i p. ap (λ (r : List ℕ). number_in r i) j.households ∙ alike_next e.households (household_of s) e.len _ (omega (arith, l, e.inside)) (ap (λ (y : Entry). y.household) x) h.households i (omega (arith, j.len));
    }

-- the entry put behind them is that of the record
pub joined_at : (e : Earlier) (s r : List ℕ) {f : Earlier} → r ≡ record_at s e.len → Joined e (entry_at r 0) f → Joined e (entry_at (record_at s e.len) 0) f
joined_at e s r {f} q j = subst (λ (t : List ℕ). Joined e (entry_at t 0) f) q j

-- the bytes behind record k
pub drop_next : (s : List ℕ) (k n : ℕ) → n ≡ k + 1 → drop record_size (drop (start_of k) s) ≡ drop (start_of n) s
drop_next s k n e = let q : start_of n ≡ start_of k + record_size = omega (arith, e) in drop-drop record_size (start_of k) s ∙ ap (λ (m : ℕ). drop m s) (sym q)

-- ---- the check

-- the answer to the records from k on is the answer to the list
abbrev pub CheckLeft : List ℕ → ℕ → Type 0
CheckLeft s k = first_refused (record_answer s) (begun_in (length s) - k) k ≡ check_list s

pub check_starts : (s : List ℕ) → length s ≤ longest_list → CheckLeft s 0
check_starts s h = let e : begun_in (length s) - 0 ≡ begun_in (length s) = omega arith in ap (λ (m : ℕ). first_refused (record_answer s) m 0) e ∙ sym (check_short s h)

module _ (s : List ℕ) (k : ℕ) (left : CheckLeft s k) where
  abbrev after : ℕ
  after = begun_in (length s) - (k + 1)

  next : start_of k < length s → first_refused (record_answer s) (suc after) k ≡ check_list s
  next l = let e : suc after ≡ begun_in (length s) - k = omega arith in ap (λ (m : ℕ). first_refused (record_answer s) m k) e ∙ left

  -- a refused record
  pub check_refused : start_of k < length s → (a : ℕ) → a ≡ record_answer s k → (a ≡ done → ⊥) → refused_at a (start_of k) ≡ check_list s
  check_refused l a e n = ap (λ (b : ℕ). refused_at b (start_of k)) e ∙ sym (stops (record_answer s) after k (λ z. n (e ∙ z))) ∙ next l

  -- an accepted one
  pub check_on : start_of k < length s → record_answer s k ≡ done → CheckLeft s (k + 1)
  check_on l e =
      let q : k + 1 ≡ suc k = omega arith in
      ap (first_refused (record_answer s) after) q ∙ sym (goes_on (record_answer s) after k e) ∙ next l

  -- no record is left
  pub check_ends : length s ≤ start_of k → accepted_with k ≡ check_list s
  unfolding first_refused
  check_ends l = let e : 0 ≡ begun_in (length s) - k = omega arith in ap (λ (m : ℕ). first_refused (record_answer s) m k) e ∙ left

-- an accepted record is whole
pub accepted-whole : (s : List ℕ) (k : ℕ) → start_of k ≤ length s → record_answer s k ≡ done → start_of (k + 1) ≤ length s
accepted-whole s k l e = omega (arith, stands_whole record_length entry_kind s (start_of k) l (done-fits s k e).whole)

-- ---- the query

module _ (f : ℕ → ℕ) (h : ℕ) where
  abbrev numbered : ℕ → Option EntryNumber
  numbered k = Some (record { 0 = k })

  first-step : (n k m : ℕ) → ((j : ℕ) → k ≤ j → j < m → f j ≡ h → ⊥) → f m ≡ h → (t : Bool) → eqb k m ≡ t
      → (k < m → numbered m ≡ search_from f h n (suc k)) → k ≤ m → numbered m ≡ search_from f h (suc n) k
  first-step n k m others e true q next a = let z = eqb-true k m q in ap numbered (sym z) ∙ sym (search_here f h n k (ap f z ∙ e))
  first-step n k m others e false q next a =
      let z = eqb-false k m q in
      let l : k < m = omega arith in
      next l ∙ sym (search_next f h n k (others k (omega arith) l))

  -- the first that has the household, behind others
  pub search_first : (n k m : ℕ) → k ≤ m → m < k + n → ((j : ℕ) → k ≤ j → j < m → f j ≡ h → ⊥) → f m ≡ h → numbered m ≡ search_from f h n k
  search_first zero k m a b others e = absurd (omega arith)
  search_first (suc n) k m a b others e = first-step n k m others e (eqb k m) refl (λ l. search_first n (suc k) m l (omega arith) (λ j c d. others j (omega arith) d) e) a

  -- none has it
  pub search_none : (n k : ℕ) → ((j : ℕ) → k ≤ j → j < k + n → f j ≡ h → ⊥) → None ≡ search_from f h n k
  unfolding search_from
  search_none zero k others = refl
  search_none (suc n) k others = search_none n (suc k) (λ j c d. others j (omega arith) (omega arith)) ∙ sym (search_next f h n k (others k (omega arith) (omega arith)))

-- ---- the whole records

pub chunks-length : (m : ℕ) (s : List ℕ) → length (first_chunks record_size m s) ≡ m
chunks-length zero s = refl
chunks-length (suc m) s = ap suc (chunks-length m (drop record_size s))

pub chunk_at : (m : ℕ) (s : List ℕ) (i : ℕ) → i < m → get_or (first_chunks record_size m s) i [] ≡ record_at s i
chunk_at zero s i l = absurd (omega arith)
chunk_at (suc m) s zero l = refl
chunk_at (suc m) s (suc i) l = chunk_at m (drop record_size s) i (omega arith) ∙ ap (take record_size) (drop-next s i)

-- whether the bytes of a record have a household
abbrev pub has : ℕ → List ℕ → Bool
has h r = eqb (entry_at r 0).household h

-- the first of the whole records that has it, or none
module _ (s : List ℕ) (h : ℕ) where
  abbrev count : ℕ
  count = length s / record_size

  abbrev pub records : List (List ℕ)
  records = first_chunks record_size count s

  abbrev some : Option ℕ → ℕ
  some (Some k) = 1
  some None = 0

  household-at : (i : ℕ) → i < count → (entry_at (get_or records i []) 0).household ≡ household_of s i
  household-at i l = ap (λ (r : List ℕ). (entry_at r 0).household) (chunk_at count s i l) ∙ ap (λ (e : Entry). e.household) (entry-at s i)

  pub records_first : (k : ℕ) → position (has h) records ≡ Some k → Some (record { 0 = k }) ≡ search_from (household_of s) h count 0
  records_first k e =
      let p = position-Some (has h) records k [] e in
      let l : k < count = omega (arith, p.0, chunks-length count s) in
      search_first (household_of s) h count 0 k (omega arith) (omega (arith, l)) (λ j a m z. true≢false (sym (eq-eqb _ h (household-at j (omega (arith, m, l)) ∙ z)) ∙ p.2 j m))
      (sym (household-at k l) ∙ eqb-true _ h p.1)

  pub records_none : position (has h) records ≡ None → None ≡ search_from (household_of s) h count 0
  records_none e = go (ltb (position_or_len (has h) records) (length records)) refl
    where
      go : (t : Bool) → ltb (position_or_len (has h) records) (length records) ≡ t → None ≡ search_from (household_of s) h count 0
      go true q =
          let z : position (has h) records ≡ Some (position_or_len (has h) records) = rw q in
          let y : 0 ≡ 1 = ap some (sym e ∙ z) in
          absurd (omega (arith, y))
      go false q =
          let l = ltb-false (position_or_len (has h) records) (length records) q in
          search_none (household_of s) h count 0
          (λ j a m z. true≢false (sym (eq-eqb _ h (household-at j (omega (arith, m)) ∙ z)) ∙ fails_before_first (has h) records j [] (omega (arith, m, l, chunks-length count s))))

-- ---- an entry

module _ (s : List ℕ) (k : ℕ) where
  pub entry-there : k < length s / record_size → entry_at (get_or (first_chunks record_size (length s / record_size) s) k []) 0 ≡ entry_of s k
  unfolding entry_of
  entry-there l =
      let e : entry_of s k ≡ record { token = token_of s k; household = household_of s k } = rw (le-leb (start_of (suc k)) (length s) (omega (arith, l))) in
      ap (λ (r : List ℕ). entry_at r 0) (chunk_at (length s / record_size) s k l) ∙ entry-at s k ∙ sym e

  pub entry_past : length s / record_size ≤ k → no_entry ≡ entry_of s k
  unfolding entry_of
  entry_past l = rw (lt-leb (start_of (suc k)) (length s) (omega (arith, l)))

-- ---- from the check to the query

module _ (s : List ℕ) (h : ℕ) where
  pub find_searched : (n : ℕ) → accepted_with n ≡ check_list s → Ok (search_from (household_of s) h (length s / record_size) 0) ≡ find_household s h
  unfolding find_household find_as
  find_searched n e =
      let x = accepts-exactly.is_one s (sym (ap (λ (c : Checked). c.answer) e)) in
      let q : n ≡ length x.entries = ap (λ (c : Checked). c.entries) (e ∙ accepts-exactly.every x.entries s x.is_list) in
      let m : length s / record_size ≡ n = omega (arith, q, records_size [] x.entries s x.is_list.whole) in
      ap (λ (j : ℕ). Ok (search_from (household_of s) h j 0)) m ∙ ap (find_as s h) e

  pub find_refused : (r : Refusal) (at : ℕ) → refused_at (number_of r) at ≡ check_list s → Err (refused_at (number_of r) at) ≡ find_household s h
  unfolding find_household find_as
  find_refused r at e =
      let c = refused_at (number_of r) at in
      let q : find_as s h c ≡ Err c = rw (ne_eqb (number_of r) done (refused-not_done r)) in
      sym q ∙ ap (find_as s h) e
