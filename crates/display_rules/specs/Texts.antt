-- Document 01, "The board": Table write sentence by sentence, and the numbers and replies of Text and Table read, of
-- any rule for steps.
use Rattle.std.specs.Prelude.{ℕ, ◌+◌, ◌≤◌, ◌<◌, ◌≡◌, List, [], ◌∷◌, length, get_or, take, drop}
use Rattle.message_rules.specs.Message.{text, table_read, table_write, text_fragment, table_fragment, replies, encode, to_host}
use Rattle.display_rules.specs.Step.{Outcome}
use Rattle.display_rules.specs.Kept.{Kept, StepRule}
use Rattle.display_rules.specs.Operations.{LentRight, Says, NoReply, Replies, Stays}
use Rattle.display_rules.specs.declared.FragmentCursor.{FragmentCursor}

-- ---- Table write

pub record Writes (now : Kept) (out : List ℕ) (c at : ℕ) (s : List ℕ) (o : Outcome) : Type 0 where
  -- "8 unless F4; 10 if the offset is above the list's length; 11 if offset + data passes 1,024."
  pub code : (c ≡ 0xF4 → ⊥) → o.answer ≡ 8
  pub gap : c ≡ 0xF4 → now.display.table.len < at → o.answer ≡ 10
  pub long : c ≡ 0xF4 → at ≤ now.display.table.len → 1024 < at + length s → o.answer ≡ 11
  pub otherwise : c ≡ 0xF4 → at ≤ now.display.table.len → at + length s ≤ 1024 → o.answer ≡ 0
  -- 8, 10 and 11 leave "nothing changed"
  pub refused : (o.answer ≡ 0 → ⊥) → Stays now o
  -- "Bytes go at the offset.", and all others of the buffer stay
  pub inside : o.answer ≡ 0 → (i : ℕ) → i < length s → get_or o.table (at + i) 0 ≡ get_or s i 0
  pub before : (i : ℕ) → i < at → get_or o.table i 0 ≡ get_or now.table i 0
  pub behind : (i : ℕ) → at + length s ≤ i → get_or o.table i 0 ≡ get_or now.table i 0
  pub buffer : length o.table ≡ length now.table
  -- "At offset 0 the new length is the data's; above 0 it is the larger of the old length and offset + data."
  pub anew : o.answer ≡ 0 → at ≡ 0 → o.display.table.len ≡ length s
  pub grown : o.answer ≡ 0 → 0 < at → now.display.table.len ≤ at + length s → o.display.table.len ≡ at + length s
  pub within : o.answer ≡ 0 → 0 < at → at + length s ≤ now.display.table.len → o.display.table.len ≡ now.display.table.len
  -- "The list's place becomes 0, 0. No reply."
  pub offset : o.answer ≡ 0 → o.display.table.cursor.offset.0 ≡ 0
  pub len : o.answer ≡ 0 → o.display.table.cursor.len ≡ 0
  pub reply : NoReply out o
  pub settings : o.display.settings ≡ now.display.settings
  pub capabilities : o.display.capabilities ≡ now.display.capabilities
  pub size : o.display.size ≡ now.display.size

abbrev pub WriteNumbers : StepRule → Type 0
WriteNumbers step = (now : Kept) (message out : List ℕ) (c at : ℕ) (s : List ℕ) → LentRight now out
    → Says message (table_write c at s) → Writes now out c at s (step now message out)

-- ---- Text, Table read: `ReadsFollow` says where a read goes

-- the bytes of a text at a fragment cursor
abbrev pub part_at : List ℕ → FragmentCursor → List ℕ
part_at s c = take c.len (drop c.offset.0 s)

pub record TextReads (now : Kept) (o : Outcome) : Type 0 where
  -- of Text the paper names no refusal
  pub answer : o.answer ≡ 0
  -- "Text piece E3", of the capabilities string: "The reply carries the place's new offset."
  pub sent : take o.len o.out
      ≡ encode replies to_host (text_fragment o.display.capabilities.cursor.offset.0 (part_at now.text o.display.capabilities.cursor))

pub record TableReads (now : Kept) (out : List ℕ) (c : ℕ) (o : Outcome) : Type 0 where
  -- "8 unless F4"
  pub code : (c ≡ 0xF4 → ⊥) → o.answer ≡ 8
  pub otherwise : c ≡ 0xF4 → o.answer ≡ 0
  -- 8: "nothing; Table read: null message, length 3"; "the three bytes 6E 80 BE"
  pub null : (c ≡ 0xF4 → ⊥) → Replies 3 (0x6E ∷ 0x80 ∷ 0xBE ∷ []) out o
  pub stays : (c ≡ 0xF4 → ⊥) → Stays now o
  -- "Table piece E4", of the call list
  pub sent : c ≡ 0xF4
      → take o.len o.out ≡ encode replies to_host (table_fragment o.display.table.cursor.offset.0 (part_at now.table o.display.table.cursor))

pub record ReadNumbers (step : StepRule) : Type 0 where
  pub text : (now : Kept) (message out : List ℕ) (q : ℕ) → LentRight now out → Says message (text q)
      → TextReads now (step now message out)
  pub table : (now : Kept) (message out : List ℕ) (c q : ℕ) → LentRight now out → Says message (table_read c q)
      → TableReads now out c (step now message out)
