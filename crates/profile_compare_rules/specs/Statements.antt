-- Document 02, K4, on comparing two profiles, sentence by sentence, in the paper's own numbers. A statement takes the rule as a
-- parameter: proofs/ proves it of Compare.antt's, and refutes it of wrong ones.
use Rattle.std.specs.Prelude.{ℕ, zero, suc, ◌≤◌, ◌≡◌, List, [], ◌∷◌, ◌++◌, map, length, get_or, take, drop}
use Rattle.checksum.specs.Bytes.{Bytes}
use Rattle.profile_form_rules.specs.declared.Setting.{Setting}
use Rattle.profile_form_rules.specs.Statements.{Stands, Rising, IsProfile, RefusedAt}
use Rattle.profile_compare_rules.specs.Compare.{Difference, Room, Outcome}
use Rattle.profile_compare_rules.specs.declared.Compared.{Compared}

-- ---- the list

-- what is listed of a profile for a code: its value, or 65,536 "where absent"
pub data Shows (es : List Setting) (code : ℕ) : ℕ → Type 0 where
  value : {v : ℕ} → Stands (record { code = code; value = v }) es → Shows es code v
  absent : ((v : ℕ) → Stands (record { code = code; value = v }) es → ⊥) → Shows es code 65536

abbrev pub difference : (code first second : ℕ) → Difference
difference code first second = record { code = code; first = first; second = second }

-- "exactly the codes that are in one only or whose value differs .. with both values": a code is listed with x and y exactly
-- when the first profile shows x, the second y, and they differ
pub record Exactly (a b : List Setting) (ds : List Difference) : Type 0 where
  pub only : (c x y : ℕ) → Stands (difference c x y) ds → Shows a c x × Shows b c y × (x ≡ y → ⊥)
  pub every : (c x y : ℕ) → Shows a c x → Shows b c y → (x ≡ y → ⊥) → Stands (difference c x y) ds

abbrev pub listed_codes : List Difference → List ℕ
listed_codes ds = map (λ (d : Difference). d.code) ds

abbrev pub first_values : List Difference → List ℕ
first_values ds = map (λ (d : Difference). d.first) ds

abbrev pub second_values : List Difference → List ℕ
second_values ds = map (λ (d : Difference). d.second) ds

-- "in rising order"
pub record IsList (a b : List Setting) (ds : List Difference) : Type 0 where
  pub exactly : Exactly a b ds
  pub rising : Rising 0 (listed_codes ds)

-- some such list, which has at most 256 lines
pub record SomeList (a b : List Setting) : Type 0 where
  pub list : List Difference
  pub is_list : IsList a b list
  pub short : length list ≤ 256

-- two profiles have one, and no other
pub record OneList : Type 0 where
  pub some : (a b : List Setting) (s t : List ℕ) → Bytes s → Bytes t → IsProfile a s → IsProfile b t → SomeList a b
  pub only : (a b : List Setting) (ds es : List Difference) → IsList a b ds → IsList a b es → ds ≡ es

-- ---- the comparison

abbrev pub CompareRule : Type 0
CompareRule = (s t : List ℕ) → Room → Outcome

abbrev pub answered : (answer profile differences position : ℕ) → Compared
answered answer profile differences position = record { answer = answer; profile = profile; differences = differences; position = record { 0 = position } }

-- each of the lent arrays has an entry for each line
pub record Fits (ds : List Difference) (r : Room) : Type 0 where
  pub codes : length ds ≤ length r.codes
  pub first : length ds ≤ length r.first
  pub second : length ds ≤ length r.second

pub record Compares (compare : CompareRule) : Type 0 where
  -- "the first sheet's 17", whatever the second is; "nothing is listed"
  pub first : (s t : List ℕ) (r : Room) (p : ℕ) → RefusedAt s p → compare s t r ≡ record { result = answered 17 1 0 p; room = r }
  -- "the second's 17 (the answer says which sheet)"
  pub second : (a : List Setting) (s t : List ℕ) (r : Room) (p : ℕ) → IsProfile a s → RefusedAt t p → compare s t r ≡ record { result = answered 17 2 0 p; room = r }
  -- "then 1 if the lent room is too small; nothing is listed"
  pub short : (a b : List Setting) (s t : List ℕ) (ds : List Difference) (r : Room) → Bytes s → Bytes t → IsProfile a s → IsProfile b t → IsList a b ds
      → (Fits ds r → ⊥) → compare s t r ≡ record { result = answered 1 0 0 0; room = r }
  -- else the list, at the start of each array; the entries past it stay
  pub listed : (a b : List Setting) (s t : List ℕ) (ds : List Difference) (r : Room) → Bytes s → Bytes t → IsProfile a s → IsProfile b t → IsList a b ds
      → Fits ds r → compare s t r ≡ record {
        result = answered 0 0 (length ds) 0;
        room = record {
          codes = listed_codes ds ++ drop (length ds) r.codes;
          first = first_values ds ++ drop (length ds) r.first;
          second = second_values ds ++ drop (length ds) r.second;
        };
      }

-- ---- "Of accepted sheets, equal bytes give an empty list and an empty list means equal bytes."

abbrev pub SameIsEmpty : CompareRule → Type 0
SameIsEmpty compare = (a : List Setting) (s : List ℕ) (r : Room) → IsProfile a s → compare s s r ≡ record { result = answered 0 0 0 0; room = r }

abbrev pub EmptyIsSame : CompareRule → Type 0
EmptyIsSame compare = (s t : List ℕ) (r : Room) → Bytes s → Bytes t → (compare s t r).result.answer ≡ 0 → (compare s t r).result.differences ≡ 0 → s ≡ t

-- ---- "Turning the first sheet into the second by the listed differences gives its exact bytes."

-- the first n lines, as whoever lent the arrays reads them
abbrev pub lines_in : (n : ℕ) (codes first second : List ℕ) → List Difference
lines_in zero codes first second = []
lines_in (suc n) codes first second = difference (get_or codes 0 0) (get_or first 0 0) (get_or second 0 0) ∷ lines_in n (drop 1 codes) (drop 1 first) (drop 1 second)

abbrev pub lines_of : Outcome → List Difference
lines_of o = lines_in o.result.differences o.room.codes o.room.first o.room.second

-- a rule that turns a sheet by such lines, and by nothing else
abbrev pub TurnRule : Type 0
TurnRule = List ℕ → List Difference → List ℕ

abbrev pub Turns : TurnRule → CompareRule → Type 0
Turns turn compare = (s t : List ℕ) (r : Room) → Bytes t → (compare s t r).result.answer ≡ 0 → turn s (lines_of (compare s t r)) ≡ t

-- ---- "It has room for 256 codes."

-- so much room is never too small
abbrev pub RoomEnough : CompareRule → Type 0
RoomEnough compare = (a b : List Setting) (s t : List ℕ) (r : Room) → IsProfile a s → IsProfile b t
    → 256 ≤ length r.codes → 256 ≤ length r.first → 256 ≤ length r.second → (compare s t r).result.answer ≡ 0

-- ---- these sentences leave no choice

-- two rules that compare so answer alike of all bytes, and leave the same arrays
abbrev pub OneComparison : Type 0
OneComparison = (one other : CompareRule) → Compares one → Compares other → (s t : List ℕ) (r : Room) → Bytes s → Bytes t → one s t r ≡ other s t r

-- whoever reads 1,793 bytes of longer inputs compares them as if all were read
abbrev pub LongCompared : CompareRule → Type 0
LongCompared compare = (s t : List ℕ) (r : Room) → Bytes s → Bytes t → compare (take 1793 s) (take 1793 t) r ≡ compare s t r
