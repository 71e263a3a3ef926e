-- `store` goes from record to record. The invariant: storing the records left into the settings so far comes to storing all. The measure: the
-- bytes left.
use Rattle.std.proofs.Common.{◌≡◌, ◌/◌, length}
use Rattle.profile_form_rules.specs.Records.{record_size}
use Rattle.profile.specs.Parts.{stored_records}
use Rattle.profile.proofs.store.Given as goal

abbrev pub invariant-loop-first : goal.invariant-loop-first
invariant-loop-first l = stored_records (length l.left / record_size) l.s l.left ≡ stored_records (length l.profile / record_size) l.initial.s l.profile

abbrev pub decreases-loop-first : goal.decreases-loop-first
decreases-loop-first l = length l.left
