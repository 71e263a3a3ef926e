-- `pairs` keeps what it read so far at the front of the buffer, and ends: the bytes of the text that are left get fewer.
use Rattle.std.proofs.Common.{◌≡◌, ◌≤◌, length, take, drop}
use Rattle.vector_line.proofs.Laws.{Left}
use Rattle.vector_line.proofs.pairs.Given as goal

-- the bytes read so far come with what is left to the whole text; the buffer holds them, and what it held behind them
abbrev pub invariant-loop-left : goal.invariant-loop-left
invariant-loop-left l = (Left l.text l.left (take l.n l.buffer)) × (l.n ≤ length l.buffer) × (length l.buffer ≡ length l.initial.buffer) × (drop l.n l.buffer ≡ drop l.n l.initial.buffer)

abbrev pub decreases-loop-left : goal.decreases-loop-left
decreases-loop-left l = length l.left
