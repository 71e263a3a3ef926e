-- `list_rest` goes from record to record. The invariant: the columns so far, and the records still to come, are the whole
-- columns. The measure: the bytes left.
use Rattle.std.proofs.Common.{length}
use Rattle.profile_form_rules.specs.Form.{settings_of}
use Rattle.profile_compare_rules.specs.Compare.{lent}
use Rattle.profile_compare.proofs.Listing.{Resting}
use Rattle.profile_compare.proofs.list_rest.Given as goal

abbrev pub invariant-loop-setting : goal.invariant-loop-setting
invariant-loop-setting l =
    Resting (settings_of l.initial.left.bytes.now) l.entry (lent l.initial.codes l.initial.values l.initial.others) (lent l.codes l.values l.others) l.n (settings_of l.left.bytes.now)

abbrev pub decreases-loop-setting : goal.decreases-loop-setting
decreases-loop-setting l = length l.left.bytes.now
