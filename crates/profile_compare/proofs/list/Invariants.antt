-- `list` goes through both profiles, then through what is left of either. The invariant: the columns so far, and the differences
-- still to come, are the whole list. The measure: the bytes left in both.
use Rattle.std.proofs.Common.{◌+◌, length}
use Rattle.profile_compare_rules.specs.Compare.{lent}
use Rattle.profile_compare.specs.Parts.{list_of}
use Rattle.profile_compare.proofs.Listing.{Listing}
use Rattle.profile_compare.proofs.list.Given as goal

abbrev pub invariant-loop-values : goal.invariant-loop-values
invariant-loop-values l =
    Listing (list_of l.initial.both.first.bytes.now l.initial.both.second.bytes.now) (lent l.initial.codes l.initial.firsts l.initial.seconds)
    (lent l.codes l.firsts l.seconds) l.n (list_of l.both.first.bytes.now l.both.second.bytes.now)

abbrev pub decreases-loop-values : goal.decreases-loop-values
decreases-loop-values l = length l.both.first.bytes.now + length l.both.second.bytes.now
