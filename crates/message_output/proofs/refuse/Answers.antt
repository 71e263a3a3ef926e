-- `message_output::refuse` meets its contract: 1 before 7.
-- Assumes nothing.
use lib.ListN.{length}
use borrow.Author.Tests.{le-leb, lt-leb}
use Rattle.message_rules.specs.Limits.{output_room}
use Rattle.message_output.proofs.refuse.Goals as goal

pub returns-then-out-lt-OUTPUT_ROOM : goal.returns-then-out-lt-OUTPUT_ROOM
returns-then-out-lt-OUTPUT_ROOM c = rw (lt-leb output_room (length c.args.out.now) c.if-out-lt-OUTPUT_ROOM.true)

pub returns : goal.returns
returns c = rw (le-leb output_room (length c.args.out.now) c.if-out-lt-OUTPUT_ROOM.false)
