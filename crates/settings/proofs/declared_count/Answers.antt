-- `declared_count` is the count of the declared set, which is at most 256.
use native.Mathlib.Omega.{arith}
use Rattle.codes.proofs.Theorems.{count_le}
use Rattle.settings.proofs.declared_count.Goals as goal

pub overflow_cast-result : goal.overflow_cast-result
overflow_cast-result c = omega (arith, c.count.ensures, count_le c.args.s.declared)
