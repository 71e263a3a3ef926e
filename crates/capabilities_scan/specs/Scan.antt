-- What scanning a string counts, and the levels of the group that is scanned.
use Rattle.std.specs.Prelude.{ℕ, ◌+◌, ◌-◌, cond, List, [], ◌∷◌, eqb}
use Rattle.capabilities_rules.specs.Limits.{deepest}

-- how many bytes b a list begins with
unfoldable pub leading : ℕ → List ℕ → ℕ
leading b [] = 0
leading b (c ∷ s) = cond (eqb c b) (leading b s + 1) 0

-- how many spaces a list begins with
abbrev pub spaces : List ℕ → ℕ
spaces = leading 0x20

-- how many zero bytes a list begins with
abbrev pub zeros : List ℕ → ℕ
zeros = leading 0

-- how many groups are open around one that has `left` levels left inside it
abbrev pub around : ℕ → ℕ
around left = deepest - 1 - left
