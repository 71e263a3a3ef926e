-- Document 01, "The board": "Table write".
use Rattle.std.specs.Prelude.{ℕ, ◌+◌, cond, List, length, eqb, leb, ltb}
use Rattle.buffers.specs.Buffers.{put}
use Rattle.message_rules.specs.Answer.{done, code_not_allowed, not_wanted, text_too_long}
use Rattle.message_rules.specs.Read.{unless}
use Rattle.message_rules.specs.Message.{table_code}
use Rattle.display_rules.specs.Limits.{table_room}
use Rattle.display_rules.specs.State.{unsent, with_table}
use Rattle.display_rules.specs.Turn.{Turn, refusal, accepted, no_reply}
use Rattle.display_rules.specs.declared.Display.{Display}

-- "8 unless F4; 10 if the offset is above the list's length; 11 if offset + data passes 1,024."
unfoldable pub write_answer : (code old at n : ℕ) → ℕ
write_answer c old at n =
    unless (eqb c table_code) code_not_allowed
    (unless (leb at old) not_wanted
    (unless (leb (at + n) table_room) text_too_long done))

-- "At offset 0 the new length is the data's; above 0 it is the larger of the old length and offset + data."
unfoldable pub length_after : (old at n : ℕ) → ℕ
length_after old at n = cond (eqb at 0) n (cond (ltb old (at + n)) (at + n) old)

-- "Bytes go at the offset."
abbrev pub written : List ℕ → (at : ℕ) → List ℕ → List ℕ
written table at s = put table at s

-- "The list's place becomes 0, 0. No reply."
unfoldable pub table_write_turn : Display → List ℕ → (code at : ℕ) → List ℕ → Turn
table_write_turn d table c at s =
    cond (eqb (write_answer c d.table.len at (length s)) done)
    (accepted (with_table d (unsent (length_after d.table.len at (length s)))) (written table at s) no_reply)
    (refusal (write_answer c d.table.len at (length s)) d table no_reply)
