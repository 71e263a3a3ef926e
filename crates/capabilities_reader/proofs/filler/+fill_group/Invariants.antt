-- `fill_group` calls itself with a level less.
-- The loop's invariant: what was to be stored at the loop's first position, past the spaces at the list's front, is what
-- is still to be stored from `at` on, into the same buffers, and the string is accepted from there.
-- The measure is what is left of the string.
use Rattle.std.proofs.Common.{length, ◌-◌}
use Rattle.capabilities_rules.specs.Buffers.{buffer_room}
use Rattle.capabilities_scan.specs.Scan.{around}
use Rattle.capabilities_reader.specs.Lent.{held, SameLent}
use Rattle.capabilities_reader.proofs.Filling.{Filling}
use Rattle.capabilities_reader.proofs.filler.+fill_group.Given as goal

abbrev pub decreases-fill_group : goal.decreases-fill_group
decreases-fill_group l = l.left

abbrev pub invariant-loop-b : goal.invariant-loop-b
invariant-loop-b l =
    SameLent l.initial.nodes l.nodes
    × Filling (buffer_room (held l.initial.nodes)) (around l.left) l.initial.at.0 l.count l.parent l.at.0 l.n l.text (held l.initial.nodes) (held l.nodes)

abbrev pub decreases-loop-b : goal.decreases-loop-b
decreases-loop-b l = length l.text - l.at.0
