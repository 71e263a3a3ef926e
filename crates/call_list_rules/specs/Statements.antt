-- Document 02, K9, sentence by sentence, in literal bytes and the paper's own numbers. A statement takes the rule as a
-- parameter: proofs/ proves it of CallList.antt's, and refutes it of wrong ones.
use Rattle.std.specs.Prelude.{ℕ, ◌+◌, ◌*◌, ◌≤◌, ◌<◌, ◌≡◌, List, [], ◌∷◌, map, length, get_or, Some, None, Ok, Err}
use Rattle.call_list_rules.specs.CallList.{Found}
use Rattle.call_list_rules.specs.declared.Checked.{Checked}
use Rattle.call_list_rules.specs.declared.Entry.{Entry}

-- ---- the records of a list

-- "four bytes each, little-endian"
abbrev pub number : (a b c d : ℕ) → ℕ
number a b c d = a + b * 256 + c * 65536 + d * 16777216

-- "records of kind 32, body token and household, four bytes each, little-endian, so length 10 and 12 bytes in all": the
-- bytes of a record, and what follows it
abbrev pub record_then : (a b c d e f g h : ℕ) → List ℕ → List ℕ
record_then a b c d e f g h rest = 10 ∷ 0 ∷ 32 ∷ 0 ∷ a ∷ b ∷ c ∷ d ∷ e ∷ f ∷ g ∷ h ∷ rest

-- the entry that it says
abbrev pub entry_in : (a b c d e f g h : ℕ) → Entry
entry_in a b c d e f g h = record { token = number a b c d; household = number e f g h }

-- the bytes s are the records of these entries, in this order, and the bytes behind them
pub data Records (behind : List ℕ) : List Entry → (s : List ℕ) → Type 0 where
  none : Records behind [] behind
  one : {a b c d e f g h : ℕ} {es : List Entry} {rest : List ℕ}
      → Records behind es rest → Records behind (entry_in a b c d e f g h ∷ es) (record_then a b c d e f g h rest)

abbrev pub tokens_of : List Entry → List ℕ
tokens_of es = map (λ (e : Entry). e.token) es

abbrev pub households_of : List Entry → List ℕ
households_of es = map (λ (e : Entry). e.household) es

-- n is number i of these
pub record StandsAt (n : ℕ) (ns : List ℕ) (i : ℕ) : Type 0 where
  pub inside : i < length ns
  pub is : get_or ns i 0 ≡ n

-- n stands among these
pub record Stands (n : ℕ) (ns : List ℕ) : Type 0 where
  pub at : ℕ
  pub there : StandsAt n ns at

-- "no token stands twice", "no household stands twice"
abbrev pub Distinct : List ℕ → Type 0
Distinct ns = (n i j : ℕ) → StandsAt n ns i → StandsAt n ns j → i ≡ j

-- records of which none is refused
pub record Good (es : List Entry) : Type 0 where
  pub tokens : Distinct (tokens_of es)
  pub households : Distinct (households_of es)

-- ---- the check

abbrev pub CheckRule : Type 0
CheckRule = List ℕ → Checked

-- "Accept exactly when the list is at most 1,024 bytes (85 records), every record is whole, no token stands twice and no
-- household stands twice": s is the list of these entries
pub record IsList (es : List Entry) (s : List ℕ) : Type 0 where
  pub size : length s ≤ 1024
  pub whole : Records [] es s
  pub good : Good es

-- s is some list
pub record SomeList (s : List ℕ) : Type 0 where
  pub entries : List Entry
  pub is_list : IsList entries s

pub record AcceptsExactly (check : CheckRule) : Type 0 where
  -- what is accepted is a list ..
  pub is_one : (s : List ℕ) → (check s).answer ≡ 0 → SomeList s
  -- .. and every list is accepted, with the number of its entries and its end
  pub every : (es : List Entry) (s : List ℕ) → IsList es s → check s ≡ record { answer = 0; entries = length es; position = record { 0 = length s } }

-- "(85 records)"
abbrev pub AtMost85 : Type 0
AtMost85 = (es : List Entry) (s : List ℕ) → IsList es s → length es ≤ 85

-- the entries are the only ones that the bytes are a list of
abbrev pub OnlyEntries : Type 0
OnlyEntries = (es fs : List Entry) (s : List ℕ) → IsList es s → IsList fs s → es ≡ fs

-- a record behind good ones is refused with this number: "broken (17) or that repeats a token (19) or a household (20) of
-- an earlier one, in that order for one record"
pub data Bad (earlier : List Entry) : (bytes : List ℕ) (answer : ℕ) → Type 0 where
  -- there are bytes left, and they begin with no record
  broken : {bytes : List ℕ} → 0 < length bytes → ((a b c d e f g h : ℕ) (rest : List ℕ) → bytes ≡ record_then a b c d e f g h rest → ⊥)
      → Bad earlier bytes 17
  token : {a b c d e f g h : ℕ} {rest : List ℕ} → Stands (number a b c d) (tokens_of earlier)
      → Bad earlier (record_then a b c d e f g h rest) 19
  household : {a b c d e f g h : ℕ} {rest : List ℕ} → (Stands (number a b c d) (tokens_of earlier) → ⊥) → Stands (number e f g h) (households_of earlier)
      → Bad earlier (record_then a b c d e f g h rest) 20

-- "The refusal gives the start of the first record that is ..": the records before it are good, and 12 bytes each
pub record RefusedFirst (s : List ℕ) (answer position : ℕ) : Type 0 where
  pub earlier : List Entry
  pub bytes : List ℕ
  pub before : Records bytes earlier s
  pub good : Good earlier
  pub bad : Bad earlier bytes answer
  pub start : position ≡ 12 * length earlier

pub record FirstRefused (check : CheckRule) : Type 0 where
  -- a refusal of a list that is not too long has that number and position ..
  pub first : (s : List ℕ) → length s ≤ 1024 → ((check s).answer ≡ 0 → ⊥) → RefusedFirst s (check s).answer (check s).position.0
  -- .. and wherever the rule says so it is given
  pub given : (s : List ℕ) (answer position : ℕ) → length s ≤ 1024 → RefusedFirst s answer position
      → check s ≡ record { answer = answer; entries = 0; position = record { 0 = position } }
  -- "Over 1,024 bytes is 11 at 0, before the others."
  pub long : (s : List ℕ) → 1024 < length s → check s ≡ record { answer = 11; entries = 0; position = record { 0 = 0 } }

-- ---- the query

abbrev pub FindRule : Type 0
FindRule = List ℕ → (household : ℕ) → Found

-- "A query answers a household's position (records counted from 0), or that it isn't there": of a list of these entries
pub record Finds (es : List Entry) (household : ℕ) (found : Found) : Type 0 where
  pub there : (k : ℕ) → StandsAt household (households_of es) k → found ≡ Ok (Some (record { 0 = k }))
  pub only : (k : ℕ) → found ≡ Ok (Some (record { 0 = k })) → StandsAt household (households_of es) k
  pub absent : (Stands household (households_of es) → ⊥) → found ≡ Ok None
  pub none : found ≡ Ok None → Stands household (households_of es) → ⊥

pub record FindsExactly (check : CheckRule) (find : FindRule) : Type 0 where
  pub finds : (es : List Entry) (s : List ℕ) (household : ℕ) → IsList es s → Finds es household (find s household)
  -- "on a list that isn't accepted it gives the same refusal"
  pub refused : (s : List ℕ) (household : ℕ) → ((check s).answer ≡ 0 → ⊥) → find s household ≡ Err (check s)

-- ---- the entries

abbrev pub EntryRule : Type 0
EntryRule = List ℕ → (k : ℕ) → Entry

-- of a list, number k gives its entry k; past its entries, token and household 0
abbrev pub EntriesGiven : EntryRule → Type 0
EntriesGiven entry = (es : List Entry) (s : List ℕ) → IsList es s → (k : ℕ) → entry s k ≡ get_or es k (record { token = 0; household = 0 })
