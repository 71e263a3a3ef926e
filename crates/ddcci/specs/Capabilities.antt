-- The answer of the exported capabilities reader, as numbers.
use Rattle.std.specs.Prelude.{ℕ, ◌≡◌, List}
use Rattle.capabilities_rules.specs.Outcome.{told, Reading}
use Rattle.capabilities_rules.specs.Buffers.{Buffers, Answered}
use Rattle.ddcci.specs.declared.capability.ReadingNumbers.{ReadingNumbers}

-- document 01's number and values of each case
abbrev pub reading_numbers : Reading → ReadingNumbers
reading_numbers r = record { answer = (told r).number; nodes = (told r).nodes; position = (told r).place }

-- the numbers of what reading the string s with the buffers t answers, and the buffers t' afterwards
pub record ReadsNumbers (s : List ℕ) (t t' : Buffers) (r : ReadingNumbers) : Type 0 where
  pub reading : Reading
  pub answered : Answered s t t' reading
  pub numbers : r ≡ reading_numbers reading
