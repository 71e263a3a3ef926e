-- The replies of the table as the code goes through them: a command number and the length of the body give a row: the form of the length byte, and a kind, 7 or 6.
use Rattle.std.specs.Prelude.{ℕ}
use Rattle.message_rules.specs.Row.{Row, Known, Unknown}
use Rattle.message_rules.specs.Row as kind
use Rattle.message_rules.specs.declared.ReplyKind.{ReplyKind}
use Rattle.message_frame.specs.declared.row.SizedRow.{SizedRow}
use Rattle.message_frame.specs.Shape.{shape_of, known_row, unknown_row}

-- each end has its own half of the table
abbrev pub reply_row : Row → ℕ → SizedRow ReplyKind
reply_row (Known (kind.Request c) l) n = unknown_row
reply_row (Known (kind.Reply c) l) n = known_row c (shape_of l) n
reply_row Unknown n = unknown_row
