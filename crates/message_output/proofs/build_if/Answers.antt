-- `message_output::build_if` meets its contract: the message of the head, or 7 where a field is not allowed.
-- Assumes nothing.
use mathlib.Core.Path.{sym, ap}
use mathlib.Core.List.{append-nil}
use Rattle.message_rules.specs.Frame.{closed}
use Rattle.message_output.proofs.Outputs.{short_as, short-refused}
use Rattle.message_output.proofs.build_if.Goals as goal

pub returns-then-allowed : goal.returns-then-allowed
returns-then-allowed c = short_as (sym c.if-allowed.true) (ap (closed c.args.seed) (append-nil c.args.head.now)) c.build.ensures

pub returns : goal.returns
returns c = short-refused _ _ c.args.out.now c.if-allowed.false c.refuse.result c.refuse.ensures
