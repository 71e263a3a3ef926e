-- A row of the table as the code has it: how long a body may be, and the form of the length byte in front of it.
-- For the length of a body it gives a kind, or 7; a number without a row gives 6.
use Rattle.std.specs.Prelude.{ℕ, suc, ◌+◌, Bool, false, ◌&&◌, cond, leb, Ok, Err}
use Rattle.message_rules.specs.Row.{Layout}
use Rattle.message_rules.specs.Layout.{least}
use Rattle.message_rules.specs.declared.refusal.Refusal.TheVariants.{UnknownCommand, WrongField}
use Rattle.message_frame.specs.declared.row.Shape.{Shape}
use Rattle.message_frame.specs.declared.row.SizedRow.{SizedRow}

-- a row's layout as the code has it: the command number, the single bytes and the words together, the data at most, and the form of the length byte
abbrev pub shape_of : Layout → Shape
shape_of l = record { least = suc (least l); «data» = l.most; plain = l.plain }

-- whether a body of n bytes is right for a shape
abbrev pub length_right : Shape → ℕ → Bool
length_right h n = leb h.least n && leb n (h.least + h.«data»)

-- 7: "n .. wrong for the command"
abbrev pub known_row : {K : Type 0} → K → Shape → ℕ → SizedRow K
known_row c h n = record { plain = h.plain; verdict = cond (length_right h n) (Ok c) (Err WrongField) }

-- 6: "command not in the table"
abbrev pub unknown_row : {K : Type 0} → SizedRow K
unknown_row = record { plain = false; verdict = Err UnknownCommand }
