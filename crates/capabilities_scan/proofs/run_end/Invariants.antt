-- `capabilities_scan::run_end` meets its contract.
-- The loop's invariant: the bytes of the run are those passed and those from `end` on.
-- The measure is what is left of the string.
use Prim.Native.Nat.{◌+◌, ◌-◌}
use mathlib.Core.Path.{◌≡◌}
use lib.ListN.{length, drop}
use Rattle.std.specs.List.{prefix_len}
use Rattle.capabilities_scan.proofs.run_end.Given as goal

abbrev pub invariant-loop-b : goal.invariant-loop-b
invariant-loop-b g l = l.initial.end + prefix_len g.test (drop l.initial.end l.text) ≡ l.end + prefix_len g.test (drop l.end l.text)

abbrev pub decreases-loop-b : goal.decreases-loop-b
decreases-loop-b g l = length l.text - l.end
