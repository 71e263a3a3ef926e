-- `check_group` calls itself with a level less.
-- The loop's invariant: judging on from the loop's first position, past the spaces at the list's front, is judging on
-- from `at`, where no space stands. The measure is what is left of the string.
use Rattle.std.proofs.Common.{length, ◌-◌}
use Rattle.capabilities_scan.specs.Scan.{around}
use Rattle.capabilities_checker.proofs.Checker.{Going}
use Rattle.capabilities_checker.proofs.+check_group.Given as goal

abbrev pub decreases-check_group : goal.decreases-check_group
decreases-check_group l = l.left

abbrev pub invariant-loop-b : goal.invariant-loop-b
invariant-loop-b l = Going l.room (around l.left) l.initial.at.0 l.count l.at.0 l.n l.text

abbrev pub decreases-loop-b : goal.decreases-loop-b
decreases-loop-b l = length l.text - l.at.0
