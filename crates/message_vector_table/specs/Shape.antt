-- A row of document 01's table as the vectors use it: what message_rules' table says of a command number, whichever way its message goes.
use Rattle.std.specs.Prelude.{◌*◌, Bool, true, false, Option, Some, None}
use Rattle.message_rules.specs.Row.{Row, Known, Unknown}
use Rattle.message_vector_table.specs.declared.fields.Shape.{Shape}

-- by the rows of a number towards the display and towards the host: whether it is a reply, the single bytes, the bytes of the words, the data at most; none where there is no row
abbrev pub shape_of : Row → Row → Option Shape
shape_of (Known c l) r = Some (record { to_host = false; bytes = l.bytes; words = 2 * l.words; «data» = l.most })
shape_of Unknown (Known c l) = Some (record { to_host = true; bytes = l.bytes; words = 2 * l.words; «data» = l.most })
shape_of Unknown Unknown = None

-- the null message, which has no command, is a reply
abbrev pub goes_to_host : Option Shape → Bool
goes_to_host (Some h) = h.to_host
goes_to_host None = true
