-- `next_from` goes from word to word. The invariant: no code from `from` up to bit s of word i is in the set.
use mathlib.Core.Path.{◌≡◌}
use mathlib.Core.Bool.{false}
use Prim.Native.Nat.{ℕ, ◌+◌, ◌-◌, ◌*◌, ◌≤◌, ◌<◌}
use Rattle.codes.specs.Codes.{member}
use Rattle.codes.proofs.next_from.Given as goal

abbrev pub invariant-loop-i : goal.invariant-loop-i
invariant-loop-i l =
    (l.s < 64) × (l.from ≤ l.i * 64 + l.s) × ((k : ℕ) → l.from ≤ k → k < l.i * 64 + l.s → member l.words k ≡ false)
