-- The two ends on a wire that loses and changes nothing: what is supposed of a list of exchanges between them can be
-- met, and the text is read.
use Rattle.std.specs.Prelude.{ℕ, ◌≤◌, ◌≡◌, List, ◌++◌, length, drop}
use Rattle.message_rules.specs.Limits.{output_room}
use Rattle.message_rules.specs.declared.TextKind.{TextKind}
use Rattle.display_rules.specs.Kept.{Kept, StepRule}
use Rattle.display_rules.specs.Statements.{whole}
use Rattle.transfer_rules.specs.declared.State.TheVariants.{Done}
use Rattle.transfer_rules.specs.Exchange.{Calls, World, Exchange, after_all}
use Rattle.transfer_rules.specs.Demand3.{enough, start_of}
use Rattle.conformance.specs.BothEnds.{Between, Ready, setup_of}

-- there is a list of L + 1 exchanges between the two ends, none corrupted, after which the transfer is done and its
-- buffer begins with the display's text
pub record ReadWhole (c : Calls) (step : StepRule) (k : TextKind) (now : Kept) (buffer : List ℕ) (w : World) : Type 0 where
  pub exchanges : List Exchange
  pub between : Between c step k now w exchanges 0
  pub number : length exchanges ≡ enough (length (whole k now)) 0
  pub is_done : (after_all c w exchanges).transfer.state ≡ Done
  pub holds : (after_all c w exchanges).buffer ≡ whole k now ++ drop (length (whole k now)) buffer

-- so it is for every display that calls have made, with buffers of the right sizes lent at both ends
abbrev pub Undisturbed : Calls → StepRule → Type 0
Undisturbed c step =
    (k : TextKind) (now : Kept) (out output buffer : List ℕ) (budget : ℕ) → Ready step k now out buffer budget →
    output_room ≤ length output → enough (length (whole k now)) 0 ≤ budget → ReadWhole c step k now buffer (start_of c (setup_of k now buffer budget))
