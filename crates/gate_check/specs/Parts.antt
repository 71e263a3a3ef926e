-- What the inner functions leave.
use Rattle.std.specs.Prelude.{ℕ, ◌+◌, ◌*◌, ◌<◌, ◌≡◌, List, [], ◌∷◌, ◌++◌, length}
use Rattle.buffers.specs.Buffers.{put}
use Rattle.call_list_rules.specs.Limits.{most_entries}
use Rattle.numerals.specs.Numerals.{Decimal}
use Rattle.gate_check.specs.Tokens.{Written}

-- the room for a line, and for the lines of any list
abbrev pub line_room : ℕ
line_room = 11

abbrev pub text_room : ℕ
text_room = most_entries * line_room

-- the line of n is put into a text at an index, and the index behind it is given
pub record PutsLine (n : ℕ) (before : List ℕ) (at : ℕ) (after : List ℕ) (end : ℕ) : Type 0 where
  pub number : List ℕ
  pub decimal : Decimal n number
  pub short : length number < line_room
  pub there : after ≡ put before at (number ++ (0x0A ∷ []))
  pub behind : end ≡ at + (length number + 1)

-- what is written of the bytes s is put at the start of a text, and how many bytes it is is given
pub record PutsTokens (s before after : List ℕ) (count : ℕ) : Type 0 where
  pub text : List ℕ
  pub written : Written s text
  pub there : after ≡ put before 0 text
  pub counted : count ≡ length text
