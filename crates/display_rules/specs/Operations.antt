-- Document 01, "The board", the operations sentence by sentence: answer numbers, what is kept of each code, and each
-- byte of a reply, in the paper's own numbers.
-- A statement takes the rule for steps as a parameter: proofs/ proves it of Step.antt's, and refutes it of wrong
-- ones. This file has 1, the reader's refusals, Get, Set, Save and Timing.
use Rattle.std.specs.Prelude.{ℕ, None, ◌≤◌, ◌<◌, ◌≡◌, true, false, List, [], ◌∷◌, length, take, drop}
use Rattle.checksum.specs.Bytes.{Bytes}
use Rattle.message_rules.specs.Message.{Request, get_feature, set_feature, timing, save, Reply, value, timing_reply, requests, replies, encode, decode, to_display, to_host}
use Rattle.message_rules.specs.Read.{ok, refused}
use Rattle.settings_rules.specs.Entries.{entry_of, Sized}
use Rattle.settings_rules.specs.Operations.{Sets, Saves}
use Rattle.display_rules.specs.Step.{Outcome}
use Rattle.display_rules.specs.Kept.{Kept, StepRule}
use Rattle.display_rules.specs.Statements.{Made}
use Rattle.display_rules.specs.declared.Display.{Display}

-- ---- what a step is lent, and what it leaves

-- "A step is lent the list's buffer of exactly 1,024 bytes and the text at its starting length", and an output of 38
-- bytes or more
pub record LentRight (now : Kept) (out : List ℕ) : Type 0 where
  pub text : length now.text ≡ now.display.capabilities.len
  pub table : length now.table ≡ 1024
  pub output : 38 ≤ length out

-- the message is read as this request
abbrev pub Says : List ℕ → Request → Type 0
Says message m = decode requests to_display message ≡ ok m

-- "Where no reply is due its length is 0 and no output byte changes."
pub record NoReply (out : List ℕ) (o : Outcome) : Type 0 where
  pub len : o.len ≡ 0
  pub bytes : o.out ≡ out
  pub found : o.found ≡ None

-- a reply of n bytes; "Bytes of an output beyond the reply length stay."
pub record Replies (n : ℕ) (bytes out : List ℕ) (o : Outcome) : Type 0 where
  pub len : o.len ≡ n
  pub sent : take n o.out ≡ bytes
  pub rest : drop n o.out ≡ drop n out
  pub found : o.found ≡ None

-- a message of n bytes to the host
abbrev pub Sends : ℕ → Reply → List ℕ → Outcome → Type 0
Sends n m = Replies n (encode replies to_host m)

-- display and table are as they were
pub record Stays (now : Kept) (o : Outcome) : Type 0 where
  pub display : o.display ≡ now.display
  pub table : o.table ≡ now.table

-- the texts' lengths and cursors and the fragment size are as they were
pub record SameTexts (d after : Display) : Type 0 where
  pub capabilities : after.capabilities ≡ d.capabilities
  pub table : after.table ≡ d.table
  pub size : after.size ≡ d.size

-- all but the settings is as it was
pub record StaysButSettings (now : Kept) (o : Outcome) : Type 0 where
  pub display : SameTexts now.display o.display
  pub table : o.table ≡ now.table

-- ---- 1

pub record Sizes (now : Kept) (out : List ℕ) (o : Outcome) : Type 0 where
  -- "lent output under 38 bytes; .. list buffer or capability text of a wrong size"
  pub output : length out < 38 → o.answer ≡ 1
  pub table : (length now.table ≡ 1024 → ⊥) → o.answer ≡ 1
  pub text : (length now.text ≡ now.display.capabilities.len → ⊥) → o.answer ≡ 1
  pub otherwise : LentRight now out → o.answer ≡ 1 → ⊥
  -- 1 leaves "nothing changed"
  pub stays : o.answer ≡ 1 → Stays now o
  pub reply : o.answer ≡ 1 → NoReply out o

abbrev pub SizeNumbers : StepRule → Type 0
SizeNumbers step = (now : Kept) (message out : List ℕ) → Sizes now out (step now message out)

-- ---- 2 to 7: what the reader refuses

pub record Refuses (now : Kept) (out : List ℕ) (k : ℕ) (o : Outcome) : Type 0 where
  pub answer : o.answer ≡ k
  -- 6: "null message in the output, reply length 3"; "the three bytes 6E 80 BE"
  pub null : k ≡ 6 → Replies 3 (0x6E ∷ 0x80 ∷ 0xBE ∷ []) out o
  pub silent : (k ≡ 6 → ⊥) → NoReply out o
  pub stays : Stays now o

abbrev pub ReaderRefuses : StepRule → Type 0
ReaderRefuses step = (now : Kept) (message out : List ℕ) (k : ℕ) → LentRight now out → decode requests to_display message ≡ refused k
    → Refuses now out k (step now message out)

-- ---- Get

pub record Gets (now : Kept) (out : List ℕ) (c : ℕ) (o : Outcome) : Type 0 where
  -- "always answer 0 with a Value reply"; "type (0 kept, 1 momentary)"
  pub answer : o.answer ≡ 0
  pub kept : let e = entry_of now.display.settings c in e.declared ≡ true → e.readable ≡ true → e.momentary ≡ false
      → Sends 11 (value 0 c 0 e.maximum e.present) out o
  pub momentary : let e = entry_of now.display.settings c in e.declared ≡ true → e.readable ≡ true → e.momentary ≡ true
      → Sends 11 (value 0 c 1 e.maximum e.present) out o
  -- "A code undeclared or not readable gives result 1 with type, max and present 0."
  pub undeclared : (entry_of now.display.settings c).declared ≡ false → Sends 11 (value 1 c 0 0 0) out o
  pub write_only : (entry_of now.display.settings c).readable ≡ false → Sends 11 (value 1 c 0 0 0) out o
  pub stays : Stays now o

abbrev pub GetsFollow : StepRule → Type 0
GetsFollow step = (now : Kept) (message out : List ℕ) (c : ℕ) → LentRight now out → Says message (get_feature c)
    → Gets now out c (step now message out)

-- ---- Set: "No reply."

abbrev pub SetsFollow : StepRule → Type 0
SetsFollow step = (now : Kept) (message out : List ℕ) (c v : ℕ) → Sized now.display.settings → LentRight now out → Bytes message
    → Says message (set_feature c v) → let o = step now message out in
    Sets now.display.settings c v o.answer o.display.settings × StaysButSettings now o × NoReply out o

-- ---- Save: "every saved value is the present one. No reply."

abbrev pub SavesFollow : StepRule → Type 0
SavesFollow step = (now : Kept) (message out : List ℕ) → LentRight now out → Says message save
    → let o = step now message out in
    (o.answer ≡ 0) × Saves now.display.settings o.display.settings × StaysButSettings now o × NoReply out o

-- ---- Timing: "the Timing reply", by its fields

abbrev pub TimingSent : StepRule → Type 0
TimingSent step = (now : Kept) (message out : List ℕ) → Made step now.display → LentRight now out → Says message timing
    → let o = step now message out in let s = now.display.settings in
    (o.answer ≡ 0) × Sends 9 (timing_reply s.status s.horizontal s.vertical) out o × Stays now o
