-- `put_records` goes from code to code. The invariant: the records of the codes left, put into the output so far, come to all of them put into
-- the output as it was. The measure: the codes left.
use mathlib.Core.Path.{◌≡◌}
use Prim.Native.Nat.{◌+◌, ◌-◌, ◌*◌, ◌≤◌}
use lib.ListN.{length}
use Rattle.codes.specs.Codes.{all_codes, member}
use Rattle.profile_form_rules.specs.Records.{record_size}
use Rattle.profile_rules.specs.Profile.{codes_from, records_of}
use Rattle.buffers.specs.Buffers.{put}
use Rattle.profile.proofs.put_records.Given as goal

abbrev pub invariant-loop-code : goal.invariant-loop-code
invariant-loop-code l =
    (l.from ≤ all_codes) × (l.at + record_size * length (codes_from (member l.words) l.from) ≤ length l.out) × (length l.out ≡ length l.initial.out)
    × (put l.out l.at (records_of l.saved (codes_from (member l.words) l.from)) ≡ put l.initial.out 0 (records_of l.saved (codes_from (member l.words) 0)))

abbrev pub decreases-loop-code : goal.decreases-loop-code
decreases-loop-code l = all_codes - l.from
