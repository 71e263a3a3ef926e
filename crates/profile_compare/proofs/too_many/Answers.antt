-- `too_many` counts only where there is not room for every code.
use Rattle.std.proofs.Common.{◌∙◌}
use borrow.Author.Tests.{le-ltb}
use Rattle.profile_compare.proofs.Outcomes.{not_many}
use Rattle.profile_compare.proofs.too_many.Goals as goal

pub returns-else-room-lt-MOST_DIFFERENCES : goal.returns-else-room-lt-MOST_DIFFERENCES
returns-else-room-lt-MOST_DIFFERENCES c =
    le-ltb c.args.room 256 c.if-room-lt-MOST_DIFFERENCES.false ∙ not_many c.args.both.first.bytes.now c.args.both.second.bytes.now c.args.room c.if-room-lt-MOST_DIFFERENCES.false
