-- Document 02, K1: the one number of its own.
use Rattle.std.specs.Prelude.{ℕ}

-- "up to 64 settings"
abbrev pub most_settings : ℕ
most_settings = 64
