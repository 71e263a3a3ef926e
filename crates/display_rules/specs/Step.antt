-- The display's step: what it answers, and what it leaves of the display, the table's buffer and the output, for any display, lent bytes and message.
use Rattle.std.specs.Prelude.{ℕ, Option, Some, None, Bool, cond, ◌&&◌, List, length, eqb, leb}
use Rattle.message_rules.specs.Answer.{wrong_size, unknown_command}
use Rattle.message_rules.specs.Limits.{output_room}
use Rattle.message_rules.specs.Message.{Request, get_feature, set_feature, timing, save, text, table_read, table_write, requests, decode, null, to_display, to_host}
use Rattle.message_rules.specs.Read.{Read, ok, refused}
use Rattle.buffers.specs.Buffers.{over}
use Rattle.display_rules.specs.Limits.{table_room}
use Rattle.display_rules.specs.Turn.{Turn, refusal, no_reply, get_turn, set_turn, save_turn, timing_turn}
use Rattle.display_rules.specs.Fragments.{read_turn, table_read_turn}
use Rattle.display_rules.specs.Table.{table_write_turn}
use Rattle.message_rules.specs.declared.TextKind.{TextKind}
use Rattle.message_rules.specs.declared.TextKind.TheVariants.{Capabilities, Table}
use Rattle.display_rules.specs.State.{starting_cursor}
use Rattle.display_rules.specs.declared.FragmentCursor.{FragmentCursor}
use Rattle.display_rules.specs.declared.Display.{Display}
use Rattle.display_rules.specs.declared.Fragment.{Fragment}
use Rattle.display_rules.specs.declared.Stepped.{Stepped}

-- the rules by message
abbrev pub obey : Display → (lent table : List ℕ) → Request → Turn
obey d lent table (get_feature c) = get_turn d table c
obey d lent table (set_feature c v) = set_turn d table c v
obey d lent table timing = timing_turn d table
obey d lent table save = save_turn d table
obey d lent table (text q) = read_turn Capabilities d lent table q
obey d lent table (table_read c q) = table_read_turn d lent table c q
obey d lent table (table_write c at s) = table_write_turn d table c at s

-- 2 to 7 are the reader's; 6: "null message in the output, reply length 3"
abbrev pub turn_of : Display → (lent table : List ℕ) → Read Request → Turn
turn_of d lent table (ok m) = obey d lent table m
turn_of d lent table (refused k) = refusal k d table (cond (eqb k unknown_command) (null to_host) no_reply)

-- "lent output under 38 bytes; .. list buffer or capability text of a wrong size", by the lengths
abbrev pub lent_sizes : (starting lent table out : ℕ) → Bool
lent_sizes starting lent table out = leb output_room out && (eqb table table_room && eqb lent starting)

abbrev pub lent_well : Display → (lent table out : ℕ) → Bool
lent_well d = lent_sizes d.capabilities.len

-- "Order: .. then 1, then 2, 3, 4, 5, then .. 6, 7, then the operation's own"
unfoldable pub turn : Display → (lent table message out : List ℕ) → Turn
turn d lent table message out =
    cond (lent_well d (length lent) (length table) (length out))
    (turn_of d lent table (decode requests to_display message))
    (refusal wrong_size d table no_reply)

-- what a step leaves: all that it returns, and every lent byte
pub record Outcome : Type 0 where
  pub display : Display
  pub answer : ℕ
  pub len : ℕ
  pub found : Option Fragment
  pub table : List ℕ
  pub out : List ℕ

-- "Bytes of an output beyond the reply length stay. Where no reply is due its length is 0 and no output byte changes."
abbrev pub outcome : Turn → List ℕ → Outcome
outcome t out = record {
  display = t.display;
  answer = t.answer;
  len = length t.reply;
  found = t.found;
  table = t.table;
  out = over t.reply out;
}

unfoldable pub step : Display → (lent table message out : List ℕ) → Outcome
step d lent table message out = outcome (turn d lent table message out) out

-- ---- the outcome in numbers, as a function returns it

-- the number of a text: 1 for the capabilities string, 2 for the table
abbrev pub text_number : TextKind → ℕ
text_number Capabilities = 1
text_number Table = 2

-- the text and the cursor of the fragment that was sent; all is 0 where none was
abbrev pub sent_text : Option Fragment → ℕ
sent_text None = 0
sent_text (Some f) = text_number f.kind

abbrev pub sent_cursor : Option Fragment → FragmentCursor
sent_cursor None = starting_cursor
sent_cursor (Some f) = f.cursor

abbrev pub returned : Display → (answer length : ℕ) → Option Fragment → Stepped
returned d k n f = record { display = d; answer = k; len = n; offset = (sent_cursor f).offset.0; count = (sent_cursor f).len; text = sent_text f }

-- all that a step leaves: what it returns, and every lent byte
pub record Left : Type 0 where
  pub stepped : Stepped
  pub table : List ℕ
  pub out : List ℕ

abbrev pub left_by : Outcome → Left
left_by o = record { stepped = returned o.display o.answer o.len o.found; table = o.table; out = o.out }
