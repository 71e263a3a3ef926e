-- Document 01, "The board": "Text, Table read", and the fragment (the papers' piece) that is handed back.
use Rattle.std.specs.Prelude.{ℕ, ◌+◌, ◌-◌, min, cond, ◌||◌, List, [], Option, Some, None, eqb}
use Rattle.buffers.specs.Buffers.{part_of}
use Rattle.message_rules.specs.Answer.{done, code_not_allowed}
use Rattle.message_rules.specs.Limits.{most_fragment}
use Rattle.message_rules.specs.Message.{Reply, text_fragment, table_fragment, null, to_host}
use Rattle.message_rules.specs.Message.{table_code}
use Rattle.display_rules.specs.State.{cursor_at, text_state, with_cursor}
use Rattle.display_rules.specs.Turn.{Turn, refusal, bytes_of}
use Rattle.message_rules.specs.declared.TextKind.{TextKind}
use Rattle.message_rules.specs.declared.TextKind.TheVariants.{Capabilities, Table}
use Rattle.display_rules.specs.declared.FragmentCursor.{FragmentCursor}
use Rattle.display_rules.specs.declared.TextState.{TextState}
use Rattle.display_rules.specs.declared.Display.{Display}
use Rattle.display_rules.specs.declared.Fragment.{Fragment}

-- "Offset 0: the place's offset is 0. Equal to the place's offset: send that piece again. Equal to offset + length: move there. Otherwise go to 0."
unfoldable pub next_offset : FragmentCursor → ℕ → ℕ
next_offset c q = cond (eqb q c.offset.0 || eqb q (c.offset.0 + c.len)) q 0

-- "The piece is the next min(piece size, bytes left) bytes; at the end it has none."
unfoldable pub next_cursor : (size : ℕ) → TextState → ℕ → FragmentCursor
next_cursor p t q = cursor_at (next_offset t.cursor q) (min p (t.len - next_offset t.cursor q))

-- the fragment size, which is 1 to 32 on every display that a start has made; no display sends more
abbrev pub fragment_size : Display → ℕ
fragment_size d = min d.size most_fragment

-- the bytes of a text at a cursor
abbrev pub fragment_at : List ℕ → FragmentCursor → List ℕ
fragment_at s c = part_of s c.offset.0 c.len

-- "whichever of the two lent texts was asked for"; the table stands at the start of its buffer
abbrev pub lent_text : TextKind → (text table : List ℕ) → List ℕ
lent_text Capabilities text table = text
lent_text Table text table = table

-- "The piece found is handed back as a part of whichever of the two lent texts was asked for."
abbrev pub found_bytes : (text table : List ℕ) → Option Fragment → List ℕ
found_bytes text table None = []
found_bytes text table (Some f) = fragment_at (lent_text f.kind text table) f.cursor

-- a fragment of a text that was found at a cursor
abbrev pub fragment_of : TextKind → FragmentCursor → Fragment
fragment_of k c = record { kind = k; cursor = c }

abbrev pub fragment_reply : TextKind → FragmentCursor → List ℕ → Reply
fragment_reply Capabilities c s = text_fragment c.offset.0 s
fragment_reply Table c s = table_fragment c.offset.0 s

-- "The reply carries the place's new offset."
abbrev pub sends : TextKind → Display → (text table : List ℕ) → FragmentCursor → Turn
sends k d text table c = record {
  answer = done;
  display = with_cursor k d c;
  table = table;
  reply = bytes_of (fragment_reply k c (found_bytes text table (Some (fragment_of k c))));
  found = Some (fragment_of k c);
}

unfoldable pub read_turn : TextKind → Display → (text table : List ℕ) → (offset : ℕ) → Turn
read_turn k d text table q = sends k d text table (next_cursor (fragment_size d) (text_state k d) q)

-- "Table read (8 unless F4)"; "Table read: null message, length 3"
unfoldable pub table_read_turn : Display → (text table : List ℕ) → (code offset : ℕ) → Turn
table_read_turn d text table c q = cond (eqb c table_code) (read_turn Table d text table q) (refusal code_not_allowed d table (null to_host))
