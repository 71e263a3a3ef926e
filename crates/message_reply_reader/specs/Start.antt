-- How the null message is known by its bytes.
use Rattle.std.specs.Prelude.{ℕ, List, [], ◌∷◌}

-- "The null message is always the three bytes 6E 80 BE"
abbrev pub null_bytes : List ℕ
null_bytes = 0x6E ∷ 0x80 ∷ 0xBE ∷ []
