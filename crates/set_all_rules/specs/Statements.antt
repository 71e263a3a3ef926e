-- Document 02, K1, sentence by sentence, in the paper's own numbers. A statement takes the rule for the call as a
-- parameter, and where it speaks of messages the rule for steps too: proofs/ proves it of SetAll.antt's and Step.antt's,
-- and refutes it of wrong ones.
use Rattle.std.specs.Prelude.{ℕ, ◌≤◌, ◌<◌, ◌≡◌, true, false, ◌⊎◌, List, [], ◌∷◌, length, get_or}
use Rattle.checksum.specs.Bytes.{Bytes}
use Rattle.message_rules.specs.Body.{Words}
use Rattle.message_rules.specs.Message.{set_feature, requests, encode, to_display}
use Rattle.settings_rules.specs.Entries.{entry_of, entry_present, Sized}
use Rattle.profile_rules.specs.Statements as profile
use Rattle.display_rules.specs.Kept.{Kept, StepRule, kept_after}
use Rattle.display_rules.specs.Operations.{LentRight, SameTexts}
use Rattle.display_rules.specs.Statements.{Made}
use Rattle.display_rules.specs.declared.Display.{Display}
use Rattle.set_all_rules.specs.SetAll.{DisplayLeft}

-- a rule for the call: that of SetAll.antt, or a wrong one
abbrev pub SetAllRule : Type 0
SetAllRule = Display → (codes values answers : List ℕ) → DisplayLeft

-- ---- the call's own answer, and what is lent

-- a call that neither refusal names
pub record Allowed (codes values answers : List ℕ) : Type 0 where
  pub room : length codes ≤ length answers
  pub few : length codes ≤ 64
  pub paired : length codes ≡ length values

pub record SetsAll (d : Display) (codes values answers : List ℕ) (left : DisplayLeft) : Type 0 where
  -- "An answer buffer shorter than the codes is refused with 1,"
  pub short : length answers < length codes → left.changed.answer ≡ 1
  -- "then more than 64, or unequally many codes and values, with 7"
  pub many : length codes ≤ length answers → 64 < length codes → left.changed.answer ≡ 7
  pub uneven : length codes ≤ length answers → (length codes ≡ length values → ⊥) → left.changed.answer ≡ 7
  pub otherwise : Allowed codes values answers → left.changed.answer ≡ 0
  -- "nothing is tried and no answer written"
  pub untried : (left.changed.answer ≡ 0 → ⊥) → left.changed.display ≡ d
  pub unwritten : (left.changed.answer ≡ 0 → ⊥) → left.answers ≡ answers
  -- the answer of a setting is 0, 8 or 9
  pub numbers : left.changed.answer ≡ 0 → (i : ℕ) → i < length codes → let k = get_or left.answers i 0 in (k ≡ 0) ⊎ ((k ≡ 8) ⊎ (k ≡ 9))
  -- there are as many answers as before, and those beyond the codes stay
  pub size : length left.answers ≡ length answers
  pub beyond : (i : ℕ) → length codes ≤ i → get_or left.answers i 0 ≡ get_or answers i 0
  -- of the display nothing changes but its settings
  pub texts : SameTexts d left.changed.display

abbrev pub SetsAllAsWritten : SetAllRule → Type 0
SetsAllAsWritten set_all = (d : Display) (codes values answers : List ℕ) → SetsAll d codes values answers (set_all d codes values answers)

-- ---- "It must equal that many Set messages one after the other"

-- the messages, one for each code with its value
abbrev pub set_messages : (codes values : List ℕ) → List (List ℕ)
set_messages [] values = []
set_messages (c ∷ codes) [] = []
set_messages (c ∷ codes) (v ∷ values) = encode requests to_display (set_feature c v) ∷ set_messages codes values

-- what messages come to, one after the other: each step finds display, table and output as the last one left them
pub record MessagesLeft : Type 0 where
  pub kept : Kept
  pub out : List ℕ
  -- the answer to each message, in their order
  pub answers : List ℕ

abbrev pub step_all : StepRule → Kept → (out : List ℕ) → (messages : List (List ℕ)) → MessagesLeft
step_all step now out [] = record { kept = now; out = out; answers = [] }
step_all step now out (m ∷ messages) =
    let o = step now m out in
    let rest = step_all step (kept_after now o) o.out messages in
    record { kept = rest.kept; out = rest.out; answers = o.answer ∷ rest.answers }

pub record Equals (now : Kept) (codes out : List ℕ) (left : DisplayLeft) (stepped : MessagesLeft) : Type 0 where
  -- "the same board afterwards"
  pub display : left.changed.display ≡ stepped.kept.display
  -- "the same answer at each place"
  pub answers : (i : ℕ) → i < length codes → get_or left.answers i 0 ≡ get_or stepped.answers i 0
  -- a Set has no reply and no table: the messages too leave the table and the output as they were
  pub table : stepped.kept.table ≡ now.table
  pub output : stepped.out ≡ out

-- of every display and whatever is lent to it in the right sizes; codes are bytes and values 16-bit numbers
abbrev pub EqualsMessages : StepRule → SetAllRule → Type 0
EqualsMessages step set_all = (now : Kept) (codes values answers out : List ℕ) → LentRight now out → Bytes codes → Words values
    → Allowed codes values answers
    → Equals now codes out (set_all now.display codes values answers) (step_all step now out (set_messages codes values))

-- ---- "The same code twice is allowed; of a kept code the later accepted value stands."

-- setting number i of a call is of this code, to this value, and accepted
pub record AcceptedAt (codes values answers : List ℕ) (i c v : ℕ) : Type 0 where
  pub inside : i < length codes
  pub code : get_or codes i 0 ≡ c
  pub value : get_or values i 0 ≡ v
  pub accepted : get_or answers i 0 ≡ 0

-- what an allowed call leaves of the entry of a code
pub record LastOf (d : Display) (codes values : List ℕ) (c : ℕ) (left : DisplayLeft) : Type 0 where
  -- the accepted value behind which no other of that code is accepted stands, if the code is kept ..
  pub last : (i v : ℕ) → AcceptedAt codes values left.answers i c v
      → ((j w : ℕ) → i < j → AcceptedAt codes values left.answers j c w → ⊥)
      → (entry_of d.settings c).momentary ≡ false
      → entry_of left.changed.display.settings c ≡ entry_present (entry_of d.settings c) v
  -- .. a momentary code is as it was, accepted or not ..
  pub momentary : (entry_of d.settings c).momentary ≡ true → entry_of left.changed.display.settings c ≡ entry_of d.settings c
  -- .. and so is a code of which none is accepted
  pub none : ((i v : ℕ) → AcceptedAt codes values left.answers i c v → ⊥)
      → entry_of left.changed.display.settings c ≡ entry_of d.settings c

abbrev pub LaterStands : SetAllRule → Type 0
LaterStands set_all = (d : Display) (codes values answers : List ℕ) → Sized d.settings → Bytes codes → Allowed codes values answers
    → (c : ℕ) → LastOf d codes values c (set_all d codes values answers)

-- ---- a display that calls have made stays such a one: all that holds of those holds after this call too

abbrev pub StaysMade : StepRule → SetAllRule → Type 0
StaysMade step set_all = (d : Display) (codes values answers : List ℕ) → Made step d → Bytes codes → Words values
    → Made step (set_all d codes values answers).changed.display

-- and its settings too, as the profile's theorems take them: what they write loads back into them
abbrev pub SettingsStayMade : SetAllRule → Type 0
SettingsStayMade set_all = (d : Display) (codes values answers : List ℕ) → profile.Made d.settings → Bytes codes
    → profile.Made (set_all d codes values answers).changed.display.settings
