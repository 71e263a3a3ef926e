-- The records of a list: by their bytes one after the other, and by their number.
use mathlib.Core.Path.{◌≡◌, refl, sym, ap, subst, ◌∙◌}
use mathlib.Core.Bool.{true}
use mathlib.Core.List.{List, [], ◌∷◌, map}
use Prim.Native.Nat.{ℕ, zero, suc, ◌+◌, ◌*◌, ◌≤◌, ◌<◌}
use native.Mathlib.Omega.{arith}
use lib.ListN.{length, get_or, drop}
use lib.Seq.{drop-cons, drop-drop}
use Rattle.records.specs.Numbers.{long_at}
use Rattle.records.specs.Records.{begins_with}
use Rattle.records.proofs.Numbers.{number_dropped}
use Rattle.records.proofs.Records.{Whole, whole, whole-begins}
use Rattle.call_list_rules.specs.Limits.{entry_kind, record_length, record_size, token_at, household_at}
use Rattle.call_list_rules.specs.CallList.{start_of, is_whole, token_of, household_of}
use Rattle.call_list_rules.specs.Statements.{number, record_then, entry_in, Records, none, one}
use Rattle.call_list_rules.specs.declared.Entry.{Entry}
use Rattle.call_list_rules.proofs.Among.{Agrees}

-- ---- one record

-- the first twelve elements of a list
twelve : (s : List ℕ) → 12 ≤ length s
    → s ≡ get_or s 0 0 ∷ get_or s 1 0 ∷ get_or s 2 0 ∷ get_or s 3 0 ∷ get_or s 4 0 ∷ get_or s 5 0 ∷ get_or s 6 0 ∷ get_or s 7 0 ∷ get_or s 8 0 ∷ get_or s 9 0 ∷ get_or s 10 0 ∷ get_or s 11 0 ∷ drop 12 s
twelve s h =
    at 0 _ (omega arith) (at 1 _ (omega arith) (at 2 _ (omega arith) (at 3 _ (omega arith) (at 4 _ (omega arith) (at 5 _ (omega arith)
    (at 6 _ (omega arith) (at 7 _ (omega arith) (at 8 _ (omega arith) (at 9 _ (omega arith) (at 10 _ (omega arith) (at 11 _ (omega arith) refl)))))))))))
  where
    at : (j : ℕ) (t : List ℕ) → j < 12 → drop (suc j) s ≡ t → drop j s ≡ get_or s j 0 ∷ t
    at j t l e = drop-cons s j 0 (omega arith) ∙ ap (λ (r : List ℕ). get_or s j 0 ∷ r) e

-- the bytes s as a record and what follows
abbrev pub as_record : List ℕ → List ℕ
as_record s = record_then (get_or s 4 0) (get_or s 5 0) (get_or s 6 0) (get_or s 7 0) (get_or s 8 0) (get_or s 9 0) (get_or s 10 0) (get_or s 11 0) (drop record_size s)

-- bytes that begin with a record are that record and what follows
pub record-read : (s : List ℕ) → begins_with record_length entry_kind s ≡ true → s ≡ as_record s
record-read s e =
    let w : Whole record_length entry_kind s = whole record_length entry_kind s e in
    let e0 : get_or s 0 0 ≡ 10 = omega (arith, w.len) in
    let e1 : get_or s 1 0 ≡ 0 = omega (arith, w.len) in
    let e2 : get_or s 2 0 ≡ 32 = omega (arith, w.kind) in
    let e3 : get_or s 3 0 ≡ 0 = omega (arith, w.kind) in
    cc (twelve s w.size)

-- the bytes of a record begin with one
module _ (a b c d e f g h : ℕ) (rest : List ℕ) where
  abbrev bytes : List ℕ
  bytes = record_then a b c d e f g h rest

  pub record-whole : is_whole bytes 0 ≡ true
  record-whole = whole-begins record_length entry_kind bytes (record { least = omega arith; size = omega arith; len = refl; kind = refl })

  pub record-token : token_of bytes 0 ≡ number a b c d
  record-token = omega arith

  pub record-household : household_of bytes 0 ≡ number e f g h
  record-household = omega arith

-- ---- behind the first record

module _ (s : List ℕ) (k : ℕ) where
  start-next : start_of (suc k) ≡ record_size + start_of k
  start-next = omega arith

  pub drop-next : drop (start_of k) (drop record_size s) ≡ drop (start_of (suc k)) s
  drop-next = drop-drop (start_of k) record_size s ∙ ap (λ (n : ℕ). drop n s) (sym start-next)

  pub whole-next : is_whole (drop record_size s) k ≡ is_whole s (suc k)
  whole-next = ap (begins_with record_length entry_kind) drop-next

  long-next : (i : ℕ) → long_at (drop record_size s) (start_of k + i) ≡ long_at s (start_of (suc k) + i)
  long-next i =
      let e : record_size + (start_of k + i) ≡ start_of (suc k) + i = omega arith in
      number_dropped 4 s record_size (start_of k + i) ∙ ap (long_at s) e

  pub token-next : token_of (drop record_size s) k ≡ token_of s (suc k)
  token-next = long-next token_at

  pub household-next : household_of (drop record_size s) k ≡ household_of s (suc k)
  household-next = long-next household_at

-- ---- from records to their numbers

-- the size of the list, and the bytes behind the records
pub records_size : (behind : List ℕ) (es : List Entry) (s : List ℕ) → Records behind es s → length s ≡ 12 * length es + length behind
records_size behind [] s none = omega arith
records_size behind (e ∷ es) s (one {rest = rest} r) = omega (arith, records_size behind es rest r)

pub records_behind : (behind : List ℕ) (es : List Entry) (s : List ℕ) → Records behind es s → drop (start_of (length es)) s ≡ behind
records_behind behind [] s none = refl
records_behind behind (e ∷ es) s (one {rest = rest} r) = sym (drop-next s (length es)) ∙ records_behind behind es rest r

-- each record is whole
pub records_whole : (behind : List ℕ) (es : List Entry) (s : List ℕ) → Records behind es s → (i : ℕ) → i < length es → is_whole s i ≡ true
records_whole behind [] s none i l = absurd (omega arith)
records_whole behind (x ∷ es) s (one {a} {b} {c} {d} {e} {f} {g} {h} {rest = rest} r) zero l = record-whole a b c d e f g h rest
records_whole behind (x ∷ es) s (one {rest = rest} r) (suc i) l = sym (whole-next s i) ∙ records_whole behind es rest r i (omega arith)

-- a field of an entry, and of a record by its number
pub record Field : Type 0 where
  pub of : Entry → ℕ
  pub at : List ℕ → ℕ → ℕ
  pub here : (a b c d e f g h : ℕ) (rest : List ℕ) → at (record_then a b c d e f g h rest) 0 ≡ of (entry_in a b c d e f g h)
  pub next : (s : List ℕ) (k : ℕ) → at (drop record_size s) k ≡ at s (suc k)
  pub dropped : (s : List ℕ) (k : ℕ) → at (drop (start_of k) s) 0 ≡ at s k

abbrev pub token : Field
token = record { of = λ x. x.token; at = token_of; here = record-token; next = token-next; dropped = λ s k. number_dropped 4 s (start_of k) token_at }

abbrev pub household : Field
household = record { of = λ x. x.household; at = household_of; here = record-household; next = household-next; dropped = λ s k. number_dropped 4 s (start_of k) household_at }

-- the field of a record whose bytes are known
pub field_read : (x : Field) (s : List ℕ) (k a b c d e f g h : ℕ) (rest : List ℕ) → drop (start_of k) s ≡ record_then a b c d e f g h rest → x.at s k ≡ x.of (entry_in a b c d e f g h)
field_read x s k a b c d e f g h rest q = sym (x.dropped s k) ∙ ap (λ (t : List ℕ). x.at t 0) q ∙ x.here a b c d e f g h rest

-- the field of each record is that of its entry
pub records_agree : (x : Field) (behind : List ℕ) (es : List Entry) (s : List ℕ) → Records behind es s → Agrees (x.at s) (map x.of es)
records_agree x behind [] s none i l = absurd (omega arith)
records_agree x behind (y ∷ es) s (one {a} {b} {c} {d} {e} {f} {g} {h} {rest = rest} r) zero l = x.here a b c d e f g h rest
records_agree x behind (y ∷ es) s (one {rest = rest} r) (suc i) l = sym (x.next s i) ∙ records_agree x behind es rest r i (omega arith)

-- ---- from whole records to their entries

-- the entries of the first k records
unfoldable pub listed : ℕ → List ℕ → List Entry
listed zero s = []
listed (suc k) s = entry_in (get_or s 4 0) (get_or s 5 0) (get_or s 6 0) (get_or s 7 0) (get_or s 8 0) (get_or s 9 0) (get_or s 10 0) (get_or s 11 0) ∷ listed k (drop record_size s)

pub listed-length : (k : ℕ) (s : List ℕ) → length (listed k s) ≡ k
unfolding listed
listed-length zero s = refl
listed-length (suc k) s = ap suc (listed-length k (drop record_size s))

pub listed_records : (k : ℕ) (s : List ℕ) → ((i : ℕ) → i < k → is_whole s i ≡ true) → Records (drop (start_of k) s) (listed k s) s
unfolding listed
listed_records zero s h = none
listed_records (suc k) s h =
    let rest = drop record_size s in
    let r = listed_records k rest (λ i l. whole-next s i ∙ h (suc i) (omega arith)) in
    subst (λ (b : List ℕ). Records b (listed (suc k) s) s) (drop-next s k)
    (subst (Records (drop (start_of k) rest) (listed (suc k) s)) (sym (record-read s (h 0 (omega arith)))) (one r))

-- the entries are the only ones
pub listed-only : (behind : List ℕ) (es : List Entry) (s : List ℕ) → Records behind es s → es ≡ listed (length es) s
unfolding listed
listed-only behind [] s none = refl
listed-only behind (x ∷ es) s (one {rest = rest} r) = ap (λ (t : List Entry). x ∷ t) (listed-only behind es rest r)
