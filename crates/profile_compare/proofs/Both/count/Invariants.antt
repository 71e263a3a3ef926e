-- `count` goes through both profiles. The invariant: the differences so far, and those still to come, are all. The measure: the
-- bytes left in both.
use Rattle.std.proofs.Common.{◌≡◌, ◌+◌, length}
use Rattle.profile_compare.specs.Parts.{list_of}
use Rattle.profile_compare.proofs.Both.count.Given as goal

abbrev pub invariant-loop-values : goal.invariant-loop-values
invariant-loop-values l = l.n + length (list_of l.self.first.bytes.now l.self.second.bytes.now) ≡ length (list_of l.initial.self.first.bytes.now l.initial.self.second.bytes.now)

abbrev pub decreases-loop-values : goal.decreases-loop-values
decreases-loop-values l = length l.self.first.bytes.now + length l.self.second.bytes.now
