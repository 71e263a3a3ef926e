-- What is claimed of a display. A theorem over steps takes the rule for steps as a parameter: proofs/ proves it of
-- Step.antt's (`step_kept`), and refutes it of wrong ones.
use Rattle.std.specs.Prelude.{ℕ, None, min, ◌+◌, ◌-◌, ◌≤◌, ◌<◌, ◌≡◌, ◌⊎◌, Bool, true, false, cond, ◌&&◌, ◌||◌, List, [], ◌∷◌, ◌++◌, length, take, drop, eqb, ltb}
use Rattle.checksum.specs.Bytes.{Bytes}
use Rattle.codes.specs.Codes.{all_codes, how_many, count_of}
use Rattle.message_rules.specs.Answer.{done, unknown_command, code_not_allowed}
use Rattle.message_rules.specs.Limits.{most_fragment}
use Rattle.message_rules.specs.Message.{Request, get_feature, set_feature, timing, save, text, table_read, table_write, requests, encode, decode, to_display}
use Rattle.message_rules.specs.Read.{Read, ok, refused}
use Rattle.buffers.specs.Buffers.{over}
use Rattle.settings_rules.specs.Entries as entries
use Rattle.message_rules.specs.Message.{table_code}
use Rattle.settings_rules.specs.declared.Declaration.{Declaration}
use Rattle.settings_rules.specs.declared.Timing.{Timing}
use Rattle.message_rules.specs.Limits.{longest_text}
use Rattle.display_rules.specs.Limits.{table_room}
use Rattle.display_rules.specs.State.{starting_cursor, cursor_of, start, declare}
use Rattle.display_rules.specs.Turn.{bytes_of}
use Rattle.display_rules.specs.Fragments.{fragment_at, found_bytes, fragment_reply}
use Rattle.display_rules.specs.Step.{Outcome}
use Rattle.display_rules.specs.Kept.{Kept, RightSizes, StepRule, kept_after, load}
use Rattle.message_rules.specs.declared.TextKind.{TextKind}
use Rattle.message_rules.specs.declared.TextKind.TheVariants.{Capabilities, Table}
use Rattle.display_rules.specs.declared.TextState.{TextState}
use Rattle.display_rules.specs.declared.Display.{Display}

-- ---- a refusal leaves what the table of answers says

abbrev pub is_table_read : Read Request → Bool
is_table_read (ok (get_feature c)) = false
is_table_read (ok (set_feature c v)) = false
is_table_read (ok timing) = false
is_table_read (ok save) = false
is_table_read (ok (text q)) = false
is_table_read (ok (table_read c q)) = true
is_table_read (ok (table_write c q s)) = false
is_table_read (refused k) = false

-- 6: "null message in the output"; 8: "Table read: null message"
abbrev pub null_due : Read Request → (answer : ℕ) → Bool
null_due r k = eqb k unknown_command || (is_table_read r && eqb k code_not_allowed)

-- "the three bytes 6E 80 BE"
abbrev pub null_bytes : List ℕ
null_bytes = 0x6E ∷ 0x80 ∷ 0xBE ∷ []

-- no setting, saved value, table byte, table length or cursor is changed, and the output only where the null message
-- is due
pub record NothingChanged (now : Kept) (b : List ℕ) (r : Read Request) (o : Outcome) : Type 0 where
  pub display : o.display ≡ now.display
  pub table : o.table ≡ now.table
  pub found : o.found ≡ None
  pub len : o.len ≡ cond (null_due r o.answer) 3 0
  pub out : o.out ≡ cond (null_due r o.answer) (over null_bytes b) b

abbrev pub RefusalsChangeNothing : StepRule → Type 0
RefusalsChangeNothing step = (now : Kept) (message out : List ℕ) → ((step now message out).answer ≡ done → ⊥)
    → NothingChanged now out (decode requests to_display message) (step now message out)

-- ---- displays that calls have made

-- by a start, refused or not, then declaring, steps and loading a profile, in any order, whatever was lent and
-- whatever bytes the messages and the profiles were
pub data Made (step : StepRule) : Display → Type 0 where
  started : (t : Timing) (n p : ℕ) → Made step (start t n p).display
  declared : {d : Display} → Made step d → (e : Declaration) → e.code < all_codes → Made step (declare d e).display
  stepped : (now : Kept) → Made step now.display → (message out : List ℕ) → Bytes message → Made step (step now message out).display
  loaded : {d : Display} → Made step d → (profile : List ℕ) → Made step (load d profile)

-- a text of which nothing was sent, or the last fragment had "the next min(piece size, bytes left) bytes"
abbrev pub Placed : (size : ℕ) → TextState → Type 0
Placed p t = (t.cursor ≡ starting_cursor) ⊎ (t.cursor.len ≡ min p (t.len - t.cursor.offset.0))

pub record Sound (d : Display) : Type 0 where
  pub settings : entries.Sound d.settings
  pub low : 1 ≤ d.size
  pub high : d.size ≤ most_fragment
  pub text : d.capabilities.len ≤ longest_text
  pub room : d.table.len ≤ table_room
  pub capabilities : Placed d.size d.capabilities
  pub table : Placed d.size d.table

abbrev pub MadeIsSound : StepRule → Type 0
MadeIsSound step = (d : Display) → Made step d → Sound d

-- ---- reading a text

-- a whole text: the capabilities string as it is lent, or the first bytes of the table's buffer
abbrev pub whole : TextKind → Kept → List ℕ
whole Capabilities now = now.text
whole Table now = take now.display.table.len now.table

-- the request for a fragment at q
abbrev pub asks_for : TextKind → ℕ → Request
asks_for Capabilities q = text q
asks_for Table q = table_read table_code q

-- The paper's sentences on a read at the offset q, one a field.
pub record Reads (k : TextKind) (now : Kept) (out : List ℕ) (q : ℕ) (o : Outcome) : Type 0 where
  pub answer : o.answer ≡ done
  -- "Offset 0: the place's offset is 0."
  pub zero : q ≡ 0 → (cursor_of k o.display).offset.0 ≡ 0
  -- "Equal to the place's offset: send that piece again."
  pub again : let c = cursor_of k now.display in (q ≡ 0 → ⊥) → q ≡ c.offset.0 → cursor_of k o.display ≡ c
  -- "Equal to offset + length: move there."
  pub next : let c = cursor_of k now.display in q ≡ c.offset.0 + c.len → (cursor_of k o.display).offset.0 ≡ q
  -- "Otherwise go to 0."
  pub other : let c = cursor_of k now.display in (q ≡ c.offset.0 → ⊥) → (q ≡ c.offset.0 + c.len → ⊥) → (cursor_of k o.display).offset.0 ≡ 0
  -- "The piece is the next min(piece size, bytes left) bytes; at the end it has none."
  pub size : let most = now.display.size in let left = length (whole k now) - (cursor_of k o.display).offset.0 in
      (cursor_of k o.display).len ≡ cond (ltb most left) most left
  -- "The reply carries the place's new offset" and the bytes from there
  pub sent : take o.len o.out ≡ bytes_of (fragment_reply k (cursor_of k o.display) (fragment_at (whole k now) (cursor_of k o.display)))
  pub rest : drop o.len o.out ≡ drop o.len out
  -- "The piece found is handed back as a part of whichever of the two lent texts was asked for."
  pub handed : found_bytes now.text o.table o.found ≡ fragment_at (whole k now) (cursor_of k o.display)
  -- the text is as it was
  pub kept : whole k (kept_after now o) ≡ whole k now

abbrev pub ReadsFollow : StepRule → Type 0
ReadsFollow step = (k : TextKind) (now : Kept) (out : List ℕ) (q : ℕ)
    → Made step now.display → RightSizes now out → q < 65536
    → Reads k now out q (step now (encode requests to_display (asks_for k q)) out)

-- the messages that move the cursor of a text or change it; a Table read or write of another code than F4 is 8, and
-- does neither
abbrev pub touches : TextKind → Read Request → Bool
touches k (ok (get_feature c)) = false
touches k (ok (set_feature c v)) = false
touches k (ok timing) = false
touches k (ok save) = false
touches Capabilities (ok (text q)) = true
touches Table (ok (text q)) = false
touches Capabilities (ok (table_read c q)) = false
touches Table (ok (table_read c q)) = eqb c table_code
touches Capabilities (ok (table_write c at s)) = false
touches Table (ok (table_write c at s)) = eqb c table_code
touches k (refused n) = false

-- a text and its cursor are as they were
abbrev pub Untouched : TextKind → (now next : Kept) → Type 0
Untouched k now next = (cursor_of k next.display ≡ cursor_of k now.display) × (whole k next ≡ whole k now)

-- all others leave it, and its cursor, alone
abbrev pub OthersKeep : StepRule → Type 0
OthersKeep step = (k : TextKind) (now : Kept) (message out : List ℕ) → touches k (decode requests to_display message) ≡ false
    → Untouched k now (kept_after now (step now message out))

-- ---- writing the table

-- at offset 0 the table is the data; above 0 the data stand at the offset, and what was before and behind them stays
abbrev pub table_after : (table : List ℕ) (at : ℕ) (s : List ℕ) → List ℕ
table_after table at s = cond (eqb at 0) s (take at table ++ (s ++ drop (at + length s) table))

-- every write is accepted that none of the refusals names, and the next read starts anew
abbrev pub WritesGoIn : StepRule → Type 0
WritesGoIn step = (now : Kept) (message out : List ℕ) (at : ℕ) (s : List ℕ)
    → Made step now.display → RightSizes now out → decode requests to_display message ≡ ok (table_write table_code at s)
    → at ≤ now.display.table.len → at + length s ≤ table_room
    → let o = step now message out in
    (o.answer ≡ done)
    × (whole Table (kept_after now o) ≡ table_after (whole Table now) at s)
    × (cursor_of Table o.display ≡ starting_cursor)

-- ---- the number declared

-- the count of the set is the number of codes that are declared
abbrev pub NumberDeclared : Type 0
NumberDeclared = (d : Display) → count_of d.settings.declared ≡ how_many (λ (c : ℕ). (entries.entry_of d.settings c).declared) all_codes

-- an accepted declaration adds one to it, and a refused one and a step add none
abbrev pub DeclaringAddsOne : StepRule → Type 0
DeclaringAddsOne step = (d : Display) (e : Declaration) → Made step d → e.code < all_codes
    → count_of (declare d e).display.settings.declared ≡ count_of d.settings.declared + cond (eqb (declare d e).answer done) 1 0

abbrev pub StepsDeclareNone : StepRule → Type 0
StepsDeclareNone step = (now : Kept) (message out : List ℕ) → (step now message out).display.settings.declared ≡ now.display.settings.declared
