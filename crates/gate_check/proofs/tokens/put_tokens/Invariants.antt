-- `put_tokens` puts line behind line. The invariant: the text so far has the lines of the entries so far.
use Rattle.gate_check.proofs.Laws.{SoFar}
use Rattle.gate_check.proofs.tokens.put_tokens.Given as goal

abbrev pub invariant-loop-k : goal.invariant-loop-k
invariant-loop-k l = SoFar l.list l.initial.text l.k l.text l.at
