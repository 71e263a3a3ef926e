-- `weight` is the count of ones.
use lib.Count.{ones-le}
use Rattle.codes.proofs.Counting.{ones_bits}
use Rattle.codes.proofs.weight.Goals as goal

pub returns : goal.returns
returns c = record { upto = ones-le 64 c.args.w c.ranges.w.fits; counted = ones_bits 64 c.args.w c.ranges.w.fits }
