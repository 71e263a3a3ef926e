-- Document 01, "Messages on the wire": the status byte of a timing.
use Rattle.std.specs.Prelude.{ℕ, ◌/◌, ◌%◌}

-- "status bits 5 to 2", as a number: they "are 0" in a Timing reply, and "Timing with a reserved bit set is 18"
abbrev pub reserved_bits : ℕ → ℕ
reserved_bits status = status / 4 % 16
