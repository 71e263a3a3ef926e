-- Document 01, "The board": what a device keeps for each VCP code, and what declaring, Get, Set, Save and Timing do with it.
use Rattle.std.specs.Prelude.{ℕ, Bool, cond, not, ◌&&◌, ◌||◌, get_or, set, replicate, eqb, ltb}
use Rattle.message_rules.specs.Message.{table_code}
pub use Rattle.message_rules.specs.Status.{reserved_bits}
use Rattle.message_rules.specs.Answer.{done, code_not_allowed, value_too_large, not_declarable}
use Rattle.codes.specs.Codes.{all_codes, member, no_codes, inserted, assigned}
use Rattle.settings_rules.specs.declared.Timing.{Timing}
use Rattle.settings_rules.specs.declared.Settings.{Settings}
use Rattle.settings_rules.specs.declared.Declaration.{Declaration}

-- an answer number, with the settings afterwards
pub record Change : Type 0 where
  pub answer : ℕ
  pub settings : Settings

-- "type (0 kept, 1 momentary)"
abbrev pub momentary_type : ℕ
momentary_type = 1

abbrev pub type_number : Bool → ℕ
type_number momentary = cond momentary momentary_type 0

-- ---- the start

-- settings with a timing and no code
unfoldable pub starting_settings : Timing → Settings
starting_settings timing = record {
  declared = no_codes;
  readable = no_codes;
  writable = no_codes;
  momentary = no_codes;
  continuous = no_codes;
  maximum = replicate all_codes 0;
  present = replicate all_codes 0;
  saved = replicate all_codes 0;
  status = timing.status;
  horizontal = timing.horizontal;
  vertical = timing.vertical;
}

-- "an empty board (no code, .. timing 0, ..)"
abbrev pub empty_settings : Settings
empty_settings = starting_settings (record { status = 0; horizontal = 0; vertical = 0 })

-- the timing that the settings keep
abbrev pub timing_in : Settings → Timing
timing_in s = record { status = s.status; horizontal = s.horizontal; vertical = s.vertical }

-- "Timing with a reserved bit set is 18." A refused start leaves the empty settings.
abbrev pub start_with : Timing → Change
start_with timing =
    cond (eqb (reserved_bits timing.status) 0)
    (record { answer = done; settings = starting_settings timing })
    (record { answer = not_declarable; settings = empty_settings })

-- ---- declaring

-- a value "above the maximum" of a code that is continuous
abbrev pub exceeds_maximum : Bool → ℕ → ℕ → Bool
exceeds_maximum continuous maximum value = continuous && ltb maximum value

-- "neither readable nor writable, momentary and not writable"
abbrev pub access_refused : (readable writable momentary : Bool) → Bool
access_refused readable writable momentary = (not writable && not readable) || (not writable && momentary)

-- "For each code 0 to 255 except F4"; "Declaring is refused (18) for F4, a code twice, a type above 1, neither readable nor writable, momentary and not writable, or continuous
-- with present above maximum."
unfoldable pub declaration_refused : (declared : Bool) → Declaration → Bool
declaration_refused declared d =
    eqb d.code table_code || declared || ltb momentary_type d.kind
    || access_refused d.readable d.writable (eqb d.kind momentary_type)
    || exceeds_maximum d.continuous d.maximum d.present

-- the settings with the code as it is declared; "Saved starts equal to present."
unfoldable pub with_declaration : Settings → Declaration → Settings
with_declaration s d = record {
  declared = inserted s.declared d.code;
  readable = assigned s.readable d.code d.readable;
  writable = assigned s.writable d.code d.writable;
  momentary = assigned s.momentary d.code (eqb d.kind momentary_type);
  continuous = assigned s.continuous d.code d.continuous;
  maximum = set s.maximum d.code d.maximum;
  present = set s.present d.code d.present;
  saved = set s.saved d.code d.present;
  status = s.status;
  horizontal = s.horizontal;
  vertical = s.vertical;
}

unfoldable pub declare_code : Settings → Declaration → Change
declare_code s d =
    cond (declaration_refused (member s.declared d.code) d)
    (record { answer = not_declarable; settings = s })
    (record { answer = done; settings = with_declaration s d })

-- ---- Get

-- the fields of a Value reply
pub record Feature : Type 0 where
  pub result : ℕ
  pub code : ℕ
  -- the type byte
  pub kind : ℕ
  pub maximum : ℕ
  pub present : ℕ

-- "Get: always answer 0 with a Value reply. A code undeclared or not readable gives result 1 with type, max and present 0."
unfoldable pub get_code : Settings → ℕ → Feature
get_code s c =
    cond (member s.declared c && member s.readable c)
    (record { result = 0; code = c; kind = type_number (member s.momentary c); maximum = get_or s.maximum c 0; present = get_or s.present c 0 })
    (record { result = 1; code = c; kind = 0; maximum = 0; present = 0 })

-- ---- Set

-- "Set: 8 if undeclared, F4 or not writable; 9 if continuous and above the maximum."
unfoldable pub answer_to_set : (declared : Bool) (c : ℕ) (writable above : Bool) → ℕ
answer_to_set declared c writable above =
    cond (not declared || eqb c table_code || not writable) code_not_allowed (cond above value_too_large done)

unfoldable pub set_answer : Settings → ℕ → ℕ → ℕ
set_answer s c value =
    answer_to_set (member s.declared c) c (member s.writable c) (exceeds_maximum (member s.continuous c) (get_or s.maximum c 0) value)

-- the settings with another present value of one code
unfoldable pub with_present : Settings → ℕ → ℕ → Settings
with_present s c value = record {
  declared = s.declared;
  readable = s.readable;
  writable = s.writable;
  momentary = s.momentary;
  continuous = s.continuous;
  maximum = s.maximum;
  present = set s.present c value;
  saved = s.saved;
  status = s.status;
  horizontal = s.horizontal;
  vertical = s.vertical;
}

-- an answer number, and whether the value becomes the present one
pub record Judgement : Type 0 where
  pub answer : ℕ
  pub stored : Bool

-- what a Set comes to: its answer, and whether the value becomes the present one; "Momentary: accepted, nothing stored."
abbrev pub judge_set : Settings → ℕ → ℕ → Judgement
judge_set s c value = record { answer = set_answer s c value; stored = eqb (set_answer s c value) done && not (member s.momentary c) }

-- "Else present is the value."
unfoldable pub set_code : Settings → ℕ → ℕ → Change
set_code s c value = record {
  answer = (judge_set s c value).answer;
  settings = cond (judge_set s c value).stored (with_present s c value) s;
}

-- ---- Save

-- "Save: every saved value is the present one."
unfoldable pub save_all : Settings → Settings
save_all s = record {
  declared = s.declared;
  readable = s.readable;
  writable = s.writable;
  momentary = s.momentary;
  continuous = s.continuous;
  maximum = s.maximum;
  present = s.present;
  saved = s.present;
  status = s.status;
  horizontal = s.horizontal;
  vertical = s.vertical;
}
