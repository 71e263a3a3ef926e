-- Document 02, K1, beside demand 3 of the two ends together: many settings in one call may stand between two exchanges,
-- as the messages may that they equal.
-- Over any rule for a display's steps and any rule for the call.
use Rattle.std.specs.Prelude.{ℕ, List}
use Rattle.checksum.specs.Bytes.{Bytes}
use Rattle.message_rules.specs.Body.{Words}
use Rattle.message_rules.specs.declared.TextKind.{TextKind}
use Rattle.display_rules.specs.Kept.{Kept, StepRule, with_display}
use Rattle.display_rules.specs.Operations.{LentRight}
use Rattle.transfer_rules.specs.Exchange.{Calls, World, Exchange}
use Rattle.set_all_rules.specs.Statements.{SetAllRule}
use Rattle.conformance.specs.BothEnds.{Between}

-- what may follow where the call has left the display may follow where it found it, so that demand 3 speaks of both
abbrev pub SetAllBetween : StepRule → SetAllRule → Type 0
SetAllBetween step set_all =
    (c : Calls) (k : TextKind) (now : Kept) (codes values answers out : List ℕ) → LentRight now out → Bytes codes → Words values →
    (w : World) (es : List Exchange) (n : ℕ) →
    Between c step k (with_display now (set_all now.display codes values answers).changed.display) w es n → Between c step k now w es n
