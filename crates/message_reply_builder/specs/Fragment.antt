-- Document 01, "Text piece E3" and "Table piece E4": the two have the same bytes but for the command number.
use Rattle.std.specs.Prelude.{ℕ, ◌+◌, ◌/◌, ◌%◌, List, ◌∷◌, length}
use Rattle.message_rules.specs.Frame.{closed}
use Rattle.message_rules.specs.declared.Address.{Address}

-- the bytes of a fragment, by its command number
abbrev pub fragment : Address → ℕ → ℕ → List ℕ → List ℕ
fragment a number offset s = closed a.seed (a.first ∷ (0x83 + length s) ∷ number ∷ offset / 256 ∷ offset % 256 ∷ s)
