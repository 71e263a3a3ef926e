-- What the inner functions leave.
use Rattle.std.specs.Prelude.{ℕ, ◌+◌, ◌*◌, ◌≤◌, ◌<◌, ◌≡◌, List, length, get_or}
use Rattle.buffers.specs.Buffers.{put}
use Rattle.codes.specs.Codes.{all_codes}
use Rattle.profile_compare_rules.specs.Compare.{absent, Difference}
use Rattle.compare_profiles.specs.Lines.{Value, line_of, Lines, Written}

-- the room for a value, for a line and for all lines
abbrev pub value_room : ℕ
value_room = 5

abbrev pub line_room : ℕ
line_room = 15

abbrev pub text_room : ℕ
text_room = all_codes * line_room

-- a value is put into a text at an index, and the index behind it is given
pub record PutsValue (v : ℕ) (before : List ℕ) (at : ℕ) (after : List ℕ) (end : ℕ) : Type 0 where
  pub text : List ℕ
  pub value : Value v text
  pub short : length text ≤ value_room
  pub there : after ≡ put before at text
  pub behind : end ≡ at + length text

-- a line, likewise
pub record PutsLine (d : Difference) (before : List ℕ) (at : ℕ) (after : List ℕ) (end : ℕ) : Type 0 where
  pub first : List ℕ
  pub second : List ℕ
  pub first_value : Value d.first first
  pub second_value : Value d.second second
  pub short : length (line_of d.code first second) ≤ line_room
  pub there : after ≡ put before at (line_of d.code first second)
  pub behind : end ≡ at + length (line_of d.code first second)

-- the first n of these are values, or absent
abbrev pub Values : (n : ℕ) → List ℕ → Type 0
Values n values = (i : ℕ) → i < n → get_or values i 0 ≤ absent

-- lines are put at the start of a text, and how many bytes they are is given
pub record PutsLines (ds : List Difference) (before after : List ℕ) (count : ℕ) : Type 0 where
  pub text : List ℕ
  pub lines : Lines ds text
  pub there : after ≡ put before 0 text
  pub counted : count ≡ length text

-- and what is written of two profiles
pub record PutsAnswer (s t before after : List ℕ) (count : ℕ) : Type 0 where
  pub text : List ℕ
  pub written : Written s t text
  pub there : after ≡ put before 0 text
  pub counted : count ≡ length text
