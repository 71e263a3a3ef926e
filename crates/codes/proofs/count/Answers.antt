-- `count` is the sum of the weights of the four words.
use native.Mathlib.Omega.{arith}
use Rattle.codes.proofs.Members.{count-words}
use Rattle.codes.proofs.count.Goals as goal

pub returns : goal.returns
returns c = omega (arith, count-words c.args.words)
