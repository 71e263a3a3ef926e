-- Document 01's limits on a transfer, each named once.
use Rattle.std.specs.Prelude.{ℕ}

-- "a budget 0 to 65,535 (else 18)"
abbrev pub most_budget : ℕ
most_budget = 65535
