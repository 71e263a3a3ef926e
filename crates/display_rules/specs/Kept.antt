-- What is kept from one message to the next, as the one thing that statements speak of: a display, and its two texts
-- as they are lent. A request that keeps or lends more adds a field here.
use Rattle.std.specs.Prelude.{ℕ, ◌≡◌, true, List, [], ◌∷◌, length}
use Rattle.profile_rules.specs.Profile.{load_profile}
use Rattle.settings_rules.specs.declared.Declaration.{Declaration}
use Rattle.display_rules.specs.State.{with_settings, declare}
use Rattle.display_rules.specs.Step.{lent_well, Outcome, step}
use Rattle.display_rules.specs.declared.Display.{Display}

-- "A step is lent the list's buffer of exactly 1,024 bytes and the text at its starting length"; a step of a row of
-- messages "finds the board and the list's buffer as the last one left them" (K13)
pub record Kept : Type 0 where
  pub display : Display
  -- the capabilities string, as it is lent to each step
  pub text : List ℕ
  -- the table's buffer
  pub table : List ℕ

abbrev pub keeping : Display → (text table : List ℕ) → Kept
keeping d text table = record { display = d; text = text; table = table }

-- what is kept and an output have the right sizes for a step
abbrev pub RightSizes : Kept → (out : List ℕ) → Type 0
RightSizes now out = lent_well now.display (length now.text) (length now.table) (length out) ≡ true

-- ---- steps

-- a rule for steps: that of Step.antt, or a wrong one
abbrev pub StepRule : Type 0
StepRule = Kept → (message out : List ℕ) → Outcome

-- that of Step.antt, lent the text and the table that are kept
abbrev pub step_kept : StepRule
step_kept now message out = step now.display now.text now.table message out

-- ---- what each call leaves: the text is lent again as it was

-- a step, by its outcome
abbrev pub kept_after : Kept → Outcome → Kept
kept_after now o = keeping o.display now.text o.table

abbrev pub with_display : Kept → Display → Kept
with_display now d = keeping d now.text now.table

-- declaring a code
abbrev pub kept_declared : Kept → Declaration → Kept
kept_declared now e = with_display now (declare now.display e).display

-- loading a profile
abbrev pub load : Display → (profile : List ℕ) → Display
load d profile = with_settings d (load_profile d.settings profile).settings

abbrev pub kept_loaded : Kept → (profile : List ℕ) → Kept
kept_loaded now profile = with_display now (load now.display profile)

-- ---- a row of messages

-- a message, and the output that its step is lent
pub record Delivery : Type 0 where
  pub message : List ℕ
  pub out : List ℕ

-- what a row leaves: each step finds display and table "as the last one left them"
abbrev pub kept_after_row : StepRule → Kept → List Delivery → Kept
kept_after_row step now [] = now
kept_after_row step now (m ∷ row) = kept_after_row step (kept_after now (step now m.message m.out)) row
