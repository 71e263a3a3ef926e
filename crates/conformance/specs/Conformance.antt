-- Document 01: the *faithful* board of demand 3, and the board of its own rules. A display of this build conforms.
use Rattle.std.specs.Prelude.{ℕ, ◌<◌, ◌≡◌, false, List, take}
use Rattle.message_rules.specs.Answer.{done}
use Rattle.message_rules.specs.Message.{requests, decode, to_display}
use Rattle.settings_rules.specs.declared.Declaration.{Declaration}
use Rattle.display_rules.specs.State.{cursor_of}
use Rattle.display_rules.specs.Step.{Outcome}
use Rattle.display_rules.specs.Kept.{Kept, RightSizes, StepRule, kept_after, kept_declared, kept_loaded}
use Rattle.display_rules.specs.Statements.{Made, whole, touches, Untouched}
use Rattle.message_rules.specs.declared.TextKind.{TextKind}
use Rattle.display_rules.specs.declared.FragmentCursor.{FragmentCursor}
use Rattle.transfer_rules.specs.Conforming.{Cursor, ConformingAct}
use Rattle.transfer_rules.specs.Fragment.{request_message}

-- "holds the text, an offset o and a length s": the fragment cursor of a text
abbrev pub held : FragmentCursor → Cursor
held c = record { offset = c.offset.0; size = c.len }

-- acting on the request for the offset q
pub record Acts (k : TextKind) (now : Kept) (q : ℕ) (o : Outcome) : Type 0 where
  pub answer : o.answer ≡ done
  -- the cursor moves, and the whole reply is, as the faithful board's
  pub conforms : ConformingAct k (whole k now) (held (cursor_of k now.display)) q (held (cursor_of k o.display)) (take o.len o.out)
  -- the display still holds the same text
  pub keeps : whole k (kept_after now o) ≡ whole k now

-- For each of the two texts: a display that a start, declaring, steps and loading have made acts as the faithful
-- board does, and nothing else than a request for that text, or a write to it, moves its cursor or changes it.
pub record Conforms (step : StepRule) : Type 0 where
  pub acts : (k : TextKind) (now : Kept) (out : List ℕ) (q : ℕ) → Made step now.display → RightSizes now out → q < 65536
      → Acts k now q (step now (request_message k q) out)
  pub others : (k : TextKind) (now : Kept) (message out : List ℕ) → touches k (decode requests to_display message) ≡ false
      → Untouched k now (kept_after now (step now message out))
  pub declaring : (k : TextKind) (now : Kept) (e : Declaration) → Untouched k now (kept_declared now e)
  pub loading : (k : TextKind) (now : Kept) (profile : List ℕ) → Untouched k now (kept_loaded now profile)
