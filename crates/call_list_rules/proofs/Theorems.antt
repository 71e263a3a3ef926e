-- The theorems of specs/Statements.antt.
use mathlib.Core.Path.{◌≡◌, refl, sym, ap, ap₂, subst, ◌∙◌}
use mathlib.Core.Bool.{Bool, true, false, cond, true≢false}
use mathlib.Core.List.{List, [], map}
use Rattle.std.specs.Prelude.{Ok, Err}
use Prim.Native.Nat.{ℕ, suc, ◌+◌, ◌-◌, ◌*◌, ◌≤◌, ◌<◌}
use native.Mathlib.Omega.{arith}
use lib.ListN.{length, get_or, drop, length-drop, length-map, drop_of_length-le, get_or-map, get_or-eq_default}
use lib.Dec.{leb, ltb, eqb}
use borrow.Author.Tests.{leb-true, leb-false, eqb-true, eqb-false, ltb-true, ltb-false, le-leb, lt-leb, ne_eqb}
use Rattle.message_rules.specs.Answer.{done, text_too_long}
use Rattle.records.specs.Records.{begins_with}
use Rattle.call_list_rules.specs.Limits.{longest_list, most_entries, record_length, entry_kind}
use Rattle.call_list_rules.specs.CallList.{start_of, is_whole, token_of, household_of, among, record_answer, refused_at, first_refused, begun_in, check_list, search_from, find_as, find_household, no_entry, entry_of}
use Rattle.call_list_rules.specs.Statements.{record_then, entry_in, Records, Good, IsList, SomeList, AcceptsExactly, AtMost85, OnlyEntries, Bad, broken, token, household, RefusedFirst, FirstRefused, Finds, FindsExactly, Stands, EntriesGiven, tokens_of, households_of}
use Rattle.call_list_rules.specs.declared.Checked.{Checked}
use Rattle.call_list_rules.specs.declared.Entry.{Entry}
use Rattle.call_list_rules.proofs.Among.{Agrees, distinct, not_repeated, among_stands, stands-among}
use Rattle.call_list_rules.proofs.First.{Walked, all, first, walked, passes, stops}
use Rattle.call_list_rules.proofs.Records as records
use Rattle.call_list_rules.proofs.Answers as answers
use Rattle.call_list_rules.proofs.Searching as searching

-- ---- good records are the accepted ones

module _ (behind : List ℕ) (es : List Entry) (s : List ℕ) (r : Records behind es s) where
  pub tokens_agree : Agrees (token_of s) (tokens_of es)
  tokens_agree = records.records_agree records.token behind es s r

  pub households_agree : Agrees (household_of s) (households_of es)
  households_agree = records.records_agree records.household behind es s r

  fits-good : ((i : ℕ) → i < length es → answers.Fits s i) → Good es
  fits-good f = record {
    tokens = distinct (token_of s) (tokens_of es) tokens_agree (λ i l. (f i (omega (arith, length-map es (λ (e : Entry). e.token)))).new_token);
    households = distinct (household_of s) (households_of es) households_agree (λ i l. (f i (omega (arith, length-map es (λ (e : Entry). e.household)))).new_household);
  }

  good-fits : Good es → (i : ℕ) → i < length es → answers.Fits s i
  good-fits g i l = record {
    whole = records.records_whole behind es s r i l;
    new_token = not_repeated (token_of s) (tokens_of es) tokens_agree g.tokens i (omega (arith, length-map es (λ (e : Entry). e.token)));
    new_household = not_repeated (household_of s) (households_of es) households_agree g.households i (omega (arith, length-map es (λ (e : Entry). e.household)));
  }

  good-done : Good es → (i : ℕ) → i < length es → record_answer s i ≡ done
  good-done g i l = answers.fits-done s i (good-fits g i l)

-- ---- the check by its size

pub check_short : (s : List ℕ) → length s ≤ longest_list → check_list s ≡ first_refused (record_answer s) (begun_in (length s)) 0
unfolding check_list
check_short s h = rw (le-leb (length s) longest_list h)

pub check_long : (s : List ℕ) → longest_list < length s → check_list s ≡ refused_at text_too_long 0
unfolding check_list
check_long s h = rw (lt-leb (length s) longest_list h)

-- all records are accepted, or one is the first that is not
check_walked : (s : List ℕ) → length s ≤ longest_list → Walked (record_answer s) (begun_in (length s)) (check_list s)
check_walked s h =
    subst (Walked (record_answer s) (begun_in (length s))) (sym (check_short s h))
    (walked (record_answer s) (begun_in (length s)) (begun_in (length s)) 0 (omega arith) (λ i l. absurd (omega arith)))

-- the first k records, where all of them are accepted
module _ (s : List ℕ) (k : ℕ) (accepted : (i : ℕ) → i < k → record_answer s i ≡ done) where
  abbrev front : List Entry
  front = records.listed k s

  front_records : Records (drop (start_of k) s) front s
  front_records = records.listed_records k s (λ i l. (answers.done-fits s i (accepted i l)).whole)

  front_good : Good front
  front_good = fits-good (drop (start_of k) s) front s front_records (λ i l. answers.done-fits s i (accepted i (omega (arith, records.listed-length k s))))

-- ---- accepted exactly

all_accepted : (s : List ℕ) → length s ≤ longest_list → ((i : ℕ) → i < begun_in (length s) → record_answer s i ≡ done) → SomeList s
all_accepted s h accepted =
    let n = begun_in (length s) in
    let e : drop (start_of n) s ≡ [] = drop_of_length-le s {i = start_of n} (omega arith) in
    record { entries = front s n accepted; is_list = record { size = h; whole = subst (λ (b : List ℕ). Records b (front s n accepted) s) e (front_records s n accepted); good = front_good s n accepted } }

accepted-short : (s : List ℕ) → (check_list s).answer ≡ 0 → length s ≤ longest_list
accepted-short s a = go (leb (length s) longest_list) refl
  where
    go : (t : Bool) → leb (length s) longest_list ≡ t → length s ≤ longest_list
    go true e = leb-true (length s) longest_list e
    go false e =
        let z : ◌≡◌ {A = ℕ} 11 0 = sym (ap (λ (c : Checked). c.answer) (check_long s (leb-false (length s) longest_list e))) ∙ a in
        absurd (omega arith)

is_one : (s : List ℕ) → (check_list s).answer ≡ 0 → SomeList s
is_one s a = go (check_list s) (check_walked s (accepted-short s a)) a
  where
    go : (c : Checked) → Walked (record_answer s) (begun_in (length s)) c → c.answer ≡ 0 → SomeList s
    go c (all d) z = all_accepted s (accepted-short s a) d
    go c (first j l d n) z = absurd (n z)

every : (es : List Entry) (s : List ℕ) → IsList es s → check_list s ≡ record { answer = 0; entries = length es; position = record { 0 = length s } }
unfolding first_refused
every es s x =
    let size = records.records_size [] es s x.whole in
    let n : begun_in (length s) ≡ length es + 0 = omega arith in
    let m : 0 + length es ≡ length es = omega arith in
    let p : start_of (0 + length es) ≡ length s = omega arith in
    check_short s x.size
    ∙ ap (λ (k : ℕ). first_refused (record_answer s) k 0) n
    ∙ passes (record_answer s) 0 (length es) 0 (λ i l. good-done [] es s x.whole x.good i (omega arith))
    ∙ ap₂ (λ (k q : ℕ). record { answer = 0; entries = k; position = record { 0 = q } }) m p

pub accepts-exactly : AcceptsExactly check_list
accepts-exactly = record { is_one = is_one; every = every }

pub at-most_85 : AtMost85
at-most_85 es s x = let size = x.size in omega (arith, records.records_size [] es s x.whole)

pub only-entries : OnlyEntries
only-entries es fs s x y =
    let e : length es ≡ length fs = omega (arith, records.records_size [] es s x.whole, records.records_size [] fs s y.whole) in
    records.listed-only [] es s x.whole ∙ ap (λ (n : ℕ). records.listed n s) e ∙ sym (records.listed-only [] fs s y.whole)

-- ---- the first refused

not_true : (t : Bool) → (t ≡ true → ⊥) → t ≡ false
not_true true h = absurd (h refl)
not_true false h = refl

-- the record behind these entries, which the bytes begin with
module _ (es : List Entry) (bytes s : List ℕ) (r : Records bytes es s) where
  abbrev k : ℕ
  k = length es

  module _ (a b c d e f g h : ℕ) (rest : List ℕ) (q : bytes ≡ record_then a b c d e f g h rest) where
    is-whole : is_whole s k ≡ true
    is-whole = ap (begins_with record_length entry_kind) (records.records_behind bytes es s r ∙ q) ∙ records.record-whole a b c d e f g h rest

    module _ (x : records.Field) where
      read : x.at s k ≡ x.of (entry_in a b c d e f g h)
      read = records.field_read x s k a b c d e f g h rest (records.records_behind bytes es s r ∙ q)

      repeated-stands : among (x.at s) k (x.at s k) ≡ true → Stands (x.of (entry_in a b c d e f g h)) (map x.of es)
      repeated-stands t =
          subst (λ (n : ℕ). Stands n (map x.of es)) read
          (among_stands (x.at s) (map x.of es) (records.records_agree x bytes es s r) k (x.at s k) (sym (length-map es x.of)) t)

      stands-repeated : Stands (x.of (entry_in a b c d e f g h)) (map x.of es) → among (x.at s) k (x.at s k) ≡ true
      stands-repeated v =
          stands-among (x.at s) (map x.of es) (records.records_agree x bytes es s r) k (x.at s k) (sym (length-map es x.of))
          (subst (λ (n : ℕ). Stands n (map x.of es)) (sym read) v)

    -- why a whole record is refused
    why-whole : (n : ℕ) → answers.Answered s k n → (n ≡ done → ⊥) → Bad es (record_then a b c d e f g h rest) n
    why-whole n (answers.broken w) z = absurd (true≢false (sym is-whole ∙ w))
    why-whole n (answers.token w t) z = token (repeated-stands records.token t)
    why-whole n (answers.household w t v) z = household (λ y. true≢false (sym (stands-repeated records.token y) ∙ t)) (repeated-stands records.household v)
    why-whole n (answers.good w t v) z = absurd (z refl)

  -- a record that is whole, by its bytes
  as-record : is_whole s k ≡ true → bytes ≡ records.as_record bytes
  as-record w = records.record-read bytes (ap (begins_with record_length entry_kind) (sym (records.records_behind bytes es s r)) ∙ w)

  -- from the record's answer to why it is refused ..
  why : (n : ℕ) → 0 < length bytes → answers.Answered s k n → (n ≡ done → ⊥) → Bad es bytes n
  why n l (answers.broken w) z = broken l (λ a b c d e f g h rest q. true≢false (sym (is-whole a b c d e f g h rest q) ∙ w))
  why n l (answers.token w t) z = subst (λ (b : List ℕ). Bad es b 19) (sym (as-record w)) (why-whole _ _ _ _ _ _ _ _ _ (as-record w) 19 (answers.token w t) z)
  why n l (answers.household w t v) z = subst (λ (b : List ℕ). Bad es b 20) (sym (as-record w)) (why-whole _ _ _ _ _ _ _ _ _ (as-record w) 20 (answers.household w t v) z)
  why n l (answers.good w t v) z = absurd (z refl)

-- .. and back
because : (es : List Entry) (bytes s : List ℕ) → Records bytes es s → (n : ℕ) → Bad es bytes n → answers.Answered s (length es) n
because es bytes s r n (broken l no_record) =
    answers.broken (not_true (is_whole s (length es)) (λ w. no_record _ _ _ _ _ _ _ _ _ (as-record es bytes s r w)))
because es bytes s r n (token {a} {b} {c} {d} {e} {f} {g} {h} {rest} v) =
    answers.token (is-whole es bytes s r a b c d e f g h rest refl) (stands-repeated es bytes s r a b c d e f g h rest refl records.token v)
because es bytes s r n (household {a} {b} {c} {d} {e} {f} {g} {h} {rest} fresh v) =
    answers.household (is-whole es bytes s r a b c d e f g h rest refl)
    (not_true (answers.repeats_token s (length es)) (λ t. fresh (repeated-stands es bytes s r a b c d e f g h rest refl records.token t)))
    (stands-repeated es bytes s r a b c d e f g h rest refl records.household v)

-- a refused record has a byte, and its number is not 0
bad-begun : (es : List Entry) (bytes : List ℕ) (n : ℕ) → Bad es bytes n → 0 < length bytes
bad-begun es bytes n (broken l no_record) = l
bad-begun es bytes n (token v) = omega arith
bad-begun es bytes n (household fresh v) = omega arith

bad-refused : (es : List Entry) (bytes : List ℕ) (n : ℕ) → Bad es bytes n → n ≡ done → ⊥
bad-refused es bytes n (broken l no_record) e = omega arith
bad-refused es bytes n (token v) e = omega arith
bad-refused es bytes n (household fresh v) e = omega arith

is-first : (s : List ℕ) → length s ≤ 1024 → ((check_list s).answer ≡ 0 → ⊥) → RefusedFirst s (check_list s).answer (check_list s).position.0
is-first s h a = go (check_list s) (check_walked s h) a
  where
    go : (c : Checked) → Walked (record_answer s) (begun_in (length s)) c → (c.answer ≡ 0 → ⊥) → RefusedFirst s c.answer c.position.0
    go c (all d) z = absurd (z refl)
    go c (first j l d n) z =
        let bytes = drop (start_of j) s in
        let size : length (front s j d) ≡ j = records.listed-length j s in
        record {
          earlier = front s j d;
          bytes = bytes;
          before = front_records s j d;
          good = front_good s j d;
          bad = why (front s j d) bytes s (front_records s j d) (record_answer s j) (omega (arith, length-drop (start_of j) s)) (subst (λ (k : ℕ). answers.Answered s k (record_answer s j)) (sym size) (answers.answered s j)) n;
          start = omega arith;
        }

is-given : (s : List ℕ) (answer position : ℕ) → length s ≤ 1024 → RefusedFirst s answer position → check_list s ≡ record { answer = answer; entries = 0; position = record { 0 = position } }
is-given s answer position h x =
    let es = x.earlier in
    let size = records.records_size x.bytes es s x.before in
    let begun = bad-begun es x.bytes answer x.bad in
    let left = begun_in (length s) - suc (length es) in
    let n : begun_in (length s) ≡ length es + suc left = omega arith in
    let m : 0 + length es ≡ length es = omega arith in
    let p : start_of (length es) ≡ position = omega (arith, x.start) in
    let a : record_answer s (length es) ≡ answer = answers.answer-is s (length es) answer (because es x.bytes s x.before answer x.bad) in
    check_short s h
    ∙ ap (λ (k : ℕ). first_refused (record_answer s) k 0) n
    ∙ passes (record_answer s) (suc left) (length es) 0 (λ i l. good-done x.bytes es s x.before x.good i (omega arith))
    ∙ ap (first_refused (record_answer s) (suc left)) m
    ∙ stops (record_answer s) left (length es) (λ z. bad-refused es x.bytes answer x.bad (sym a ∙ z))
    ∙ ap₂ refused_at a p

pub first-refused : FirstRefused check_list
first-refused = record { first = is-first; given = is-given; long = check_long }

-- a list that is refused has no entries, and no list has more than 85
pub refused_none : (s : List ℕ) → ((check_list s).answer ≡ 0 → ⊥) → (check_list s).entries ≡ 0
refused_none s z = go (leb (length s) longest_list) refl
  where
    go : (t : Bool) → leb (length s) longest_list ≡ t → (check_list s).entries ≡ 0
    go true e = let h = leb-true (length s) longest_list e in ap (λ (c : Checked). c.entries) (is-given s _ _ h (is-first s h z))
    go false e = ap (λ (c : Checked). c.entries) (check_long s (leb-false (length s) longest_list e))

pub entries-at-most : (s : List ℕ) → (check_list s).entries ≤ most_entries
entries-at-most s = go (eqb (check_list s).answer 0) refl
  where
    go : (t : Bool) → eqb (check_list s).answer 0 ≡ t → (check_list s).entries ≤ most_entries
    go true e =
        let x = is_one s (eqb-true (check_list s).answer 0 e) in
        let n : (check_list s).entries ≡ length x.entries = ap (λ (c : Checked). c.entries) (every x.entries s x.is_list) in
        omega (arith, at-most_85 x.entries s x.is_list)
    go false e = omega (arith, refused_none s (eqb-false (check_list s).answer 0 e))

-- ---- the query

finds : (es : List Entry) (s : List ℕ) (h : ℕ) → IsList es s → Finds es h (find_household s h)
unfolding find_household find_as
finds es s h x =
    let f = household_of s in
    let n = length-map es (λ (e : Entry). e.household) in
    let e : find_household s h ≡ Ok (search_from f h (length es) 0) = ap (find_as s h) (every es s x) in
    subst (Finds es h) (sym e)
    (searching.finds es f h (households_agree [] es s x.whole) x.good.households (search_from f h (length es) 0)
    (searching.searched f h (length (households_of es)) (length es) 0 (omega arith) (λ i l. absurd (omega arith))))

find_refused : (s : List ℕ) (h : ℕ) → ((check_list s).answer ≡ 0 → ⊥) → find_household s h ≡ Err (check_list s)
unfolding find_household find_as
find_refused s h z = rw (ne_eqb (check_list s).answer done z)

pub finds-exactly : FindsExactly check_list find_household
finds-exactly = record { finds = finds; refused = find_refused }

-- ---- the entries

pub entries-given : EntriesGiven entry_of
unfolding entry_of
entries-given es s x k = go (ltb k (length es)) refl
  where
    size : length s ≡ 12 * length es + 0
    size = records.records_size [] es s x.whole

    field : (y : records.Field) → k < length es → y.at s k ≡ get_or (map y.of es) k 0
    field y l = records.records_agree y [] es s x.whole k (omega (arith, length-map es y.of))

    go : (t : Bool) → ltb k (length es) ≡ t → cond (leb (start_of (suc k)) (length s)) (record { token = token_of s k; household = household_of s k }) no_entry ≡ get_or es k no_entry
    go true e =
        let l = ltb-true k (length es) e in
        rw (le-leb (start_of (suc k)) (length s) (omega (arith, size)))
        (ap₂ (λ (t h : ℕ). record { token = t; household = h }) (field records.token l ∙ get_or-map (λ (y : Entry). y.token) es k no_entry)
        (field records.household l ∙ get_or-map (λ (y : Entry). y.household) es k no_entry))
    go false e =
        let l = ltb-false k (length es) e in
        rw (lt-leb (start_of (suc k)) (length s) (omega (arith, size))) (sym (get_or-eq_default es no_entry {n = k} l))
