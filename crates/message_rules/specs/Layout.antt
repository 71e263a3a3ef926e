-- Document 01's table of messages, as data: each row a command number and the layout of what stands behind it.
use Rattle.std.specs.Prelude.{ℕ, ◌+◌, ◌*◌, List, [], ◌∷◌, Bool, true, false, cond, ◌&&◌, get_or, eqb, ltb}
use Rattle.message_rules.specs.Limits.{longest_request, longest_reply, most_written, most_fragment}
use Rattle.message_rules.specs.Status.{reserved_bits}
use Rattle.message_rules.specs.declared.Direction.{Direction}
use Rattle.message_rules.specs.declared.Direction.TheVariants as way
use Rattle.message_rules.specs.Row.{Layout, Kind, Row, Known, Unknown}
use Rattle.message_rules.specs.Row as kind
use Rattle.message_rules.specs.declared.RequestKind.{RequestKind}
use Rattle.message_rules.specs.declared.RequestKind.TheVariants.{Get, Set, Timing, Save, Text, TableRead, TableWrite}
use Rattle.message_rules.specs.declared.ReplyKind.{ReplyKind}
use Rattle.message_rules.specs.declared.ReplyKind.TheVariants.{Value, TimingReply, TextFragment, TableFragment}

pub record Entry : Type 0 where
  pub number : ℕ
  pub layout : Layout

abbrev row : ℕ → ℕ → ℕ → ℕ → Bool → Entry
row k bytes words most plain = record { number = k; layout = record { bytes = bytes; words = words; most = most; plain = plain } }

-- ---- the table: command number, single bytes, 16-bit words (H L), most data, plain length byte

-- "to board"
abbrev pub request_entry : RequestKind → Entry
request_entry Get = row 0x01 1 0 0 false
request_entry Set = row 0x03 1 1 0 false
request_entry Timing = row 0x07 0 0 0 false
request_entry Save = row 0x0C 0 0 0 false
request_entry Text = row 0xF3 0 1 0 false
request_entry TableRead = row 0xE2 1 1 0 false
request_entry TableWrite = row 0xE7 1 1 most_written false

-- "to post"; "a reply whose first body byte is 4E has plain n"
abbrev pub reply_entry : ReplyKind → Entry
reply_entry Value = row 0x02 3 2 0 false
reply_entry TimingReply = row 0x4E 1 2 0 true
reply_entry TextFragment = row 0xE3 0 1 most_fragment false
reply_entry TableFragment = row 0xE4 0 1 most_fragment false

-- "n is 0 to 35"
abbrev pub longest : Direction → ℕ
longest way.Request = longest_request
longest way.Reply = longest_reply

-- "Result and type are 0 or 1; status bits 5 to 2 are 0."
abbrev pub reply_rule : ReplyKind → List ℕ → Bool
reply_rule Value bytes = ltb (get_or bytes 0 0) 2 && ltb (get_or bytes 2 0) 2
reply_rule TimingReply bytes = eqb (reserved_bits (get_or bytes 0 0)) 0
reply_rule TextFragment bytes = true
reply_rule TableFragment bytes = true

-- ---- reading the table

abbrev pub request_kinds : List RequestKind
request_kinds = Get ∷ Set ∷ Timing ∷ Save ∷ Text ∷ TableRead ∷ TableWrite ∷ []

abbrev pub reply_kinds : List ReplyKind
reply_kinds = Value ∷ TimingReply ∷ TextFragment ∷ TableFragment ∷ []

abbrev pub entry : Kind → Entry
entry (kind.Request c) = request_entry c
entry (kind.Reply c) = reply_entry c

abbrev pub direction_of : Kind → Direction
direction_of (kind.Request c) = way.Request
direction_of (kind.Reply c) = way.Reply

-- what is asked of the single bytes
abbrev pub rule : Kind → List ℕ → Bool
rule (kind.Request c) bytes = true
rule (kind.Reply c) bytes = reply_rule c bytes

abbrev pub layout_of : Kind → Layout
layout_of c = (entry c).layout

-- the bytes of a body behind its command number, the data aside
abbrev pub least : Layout → ℕ
least l = l.bytes + 2 * l.words

abbrev pub row_in : {C : Type 0} → (C → Kind) → List C → ℕ → Row
row_in make [] k = Unknown
row_in make (c ∷ cs) k = cond (eqb k (entry (make c)).number) (Known (make c) (layout_of (make c))) (row_in make cs k)

-- the row of a command number, among those that go this way
abbrev pub row_of : Direction → ℕ → Row
row_of way.Request k = row_in kind.Request request_kinds k
row_of way.Reply k = row_in kind.Reply reply_kinds k
