-- `put_lines` puts line behind line. The invariant: the text so far has the lines of the differences so far. The measure: the
-- differences left.
use mathlib.Core.Path.{◌≡◌}
use Prim.Native.Nat.{◌-◌, ◌≤◌}
use lib.ListN.{length}
use Rattle.compare_profiles.proofs.Laws.{SoFar}
use Rattle.compare_profiles.proofs.lines.put_lines.Given as goal

abbrev pub invariant-loop-k : goal.invariant-loop-k
invariant-loop-k l = (l.k ≤ l.n) × (length l.text ≡ length l.initial.text) × SoFar l.codes l.firsts l.seconds l.initial.text l.k l.text l.at

abbrev pub decreases-loop-k : goal.decreases-loop-k
decreases-loop-k l = l.n - l.k
