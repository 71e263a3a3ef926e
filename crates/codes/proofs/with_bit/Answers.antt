-- `with_bit` sets by or, and clears by turning over what it has set.
use Rattle.codes.specs.Codes.{bit_assigned}
use Rattle.codes.proofs.Bits.{shl_one, or_sets, xor_clears}
use Rattle.codes.proofs.with_bit.Goals as goal

pub returns-then-inside : goal.returns-then-inside
unfolding bit_assigned
returns-then-inside c = let a = c.args in rw (c.if-inside.true, shl_one a.s c.requires) (or_sets a.w a.s)

pub returns-else-inside : goal.returns-else-inside
unfolding bit_assigned
returns-else-inside c = let a = c.args in rw (c.if-inside.false, shl_one a.s c.requires) (xor_clears a.w a.s)
