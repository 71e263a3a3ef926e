-- `judge` goes from record to record. The invariant: the answer to what is left is the answer to the profile. The measure:
-- the bytes left.
use Rattle.std.proofs.Common.{length}
use Rattle.profile_form.proofs.Laws.{FormLeft}
use Rattle.profile_form.proofs.judge.Given as goal

abbrev pub invariant-loop-left : goal.invariant-loop-left
invariant-loop-left l = FormLeft l.profile l.lowest l.left

abbrev pub decreases-loop-left : goal.decreases-loop-left
decreases-loop-left l = length l.left
