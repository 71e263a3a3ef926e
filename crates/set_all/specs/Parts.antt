-- What the functions are given of the settings, and what they return of what a call leaves.
use Rattle.std.specs.Prelude.{ℕ, List, get_or}
use Rattle.codes.specs.Codes.{member}
use Rattle.settings_rules.specs.Settings.{exceeds_maximum, answer_to_set}
use Rattle.settings_rules.specs.declared.Settings.{Settings}
use Rattle.set_all_rules.specs.SetAll.{Left}

-- the answer to a Set, by the codes that are declared and writable, those that are continuous, and the maxima
abbrev pub answer_by : (settable continuous maximum : List ℕ) (code value : ℕ) → ℕ
answer_by settable continuous maximum c v =
    answer_to_set (member settable c) c (member settable c) (exceeds_maximum (member continuous c) (get_or maximum c 0) v)

-- the settings with other present values
abbrev pub with_presents : Settings → List ℕ → Settings
with_presents s values = record {
  declared = s.declared;
  readable = s.readable;
  writable = s.writable;
  momentary = s.momentary;
  continuous = s.continuous;
  maximum = s.maximum;
  present = values;
  saved = s.saved;
  status = s.status;
  horizontal = s.horizontal;
  vertical = s.vertical;
}

-- present values, an answer number and the lent answers as they were left
abbrev pub left_of : Settings → (present : List ℕ) (answer : ℕ) (answers : List ℕ) → Left
left_of s present k answers = record { settings = with_presents s present; answer = k; answers = answers }
