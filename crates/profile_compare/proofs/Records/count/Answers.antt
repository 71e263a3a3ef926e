-- `count` divides by the size of a record.
use Rattle.std.proofs.Common.{arith}
use Rattle.profile_compare.proofs.Left.{settings_size}
use Rattle.profile_compare.proofs.Records.count.Goals as goal

pub returns : goal.returns
returns c = omega (arith, settings_size c.args.self.bytes.now c.args.self.accepted)
