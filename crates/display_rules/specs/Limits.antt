-- Document 01's limits on a display, each named once.
use Rattle.std.specs.Prelude.{ℕ}

-- "the call list at most 1,024"; "the list's buffer of exactly 1,024 bytes"
abbrev pub table_room : ℕ
table_room = 1024
