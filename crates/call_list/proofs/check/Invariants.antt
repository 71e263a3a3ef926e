-- `check` goes from record to record. The invariant: the answer to what is left is the answer to the list, the rows hold
-- the tokens and the households so far, and the bytes left are those behind their records.
use mathlib.Core.Path.{◌≡◌}
use lib.ListN.{drop}
use Rattle.call_list_rules.specs.Limits.{record_size}
use Rattle.call_list_rules.specs.CallList.{start_of}
use Rattle.call_list.proofs.Laws.{CheckLeft, Holds}
use Rattle.call_list.proofs.check.Given as goal

abbrev pub invariant-loop-record : goal.invariant-loop-record
invariant-loop-record l =
    CheckLeft l.list l.earlier.len × Holds l.earlier l.list × (l.record-iterator.rest.now ≡ drop (start_of l.earlier.len) l.list) × (l.record-iterator.size ≡ record_size)
