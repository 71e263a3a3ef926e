-- `judge_profile` goes from code to code. The invariant: judging what is left, from the next code on, comes to judging the whole profile. The measure: the
-- codes left.
use Prim.Native.Nat.{◌-◌}
use Rattle.codes.specs.Codes.{all_codes}
use Rattle.profile.proofs.Loading.{Left}
use Rattle.profile.proofs.judge_profile.Given as goal

abbrev pub invariant-loop-code : goal.invariant-loop-code
invariant-loop-code l = Left l.s l.words l.profile l.from l.left

abbrev pub decreases-loop-code : goal.decreases-loop-code
decreases-loop-code l = all_codes - l.from
