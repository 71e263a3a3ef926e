-- `bit_from` is the trailing zeros of the word with its bits below s masked out.
use native.Mathlib.Omega.{arith}
use Prim.Native.Nat.{ℕ}
use mathlib.Core.Path.{subst, sym}
use lib.Count.{count_trailing_zeros}
use lib.Pow.{pow_pos}
use Rattle.codes.specs.Words.{FirstBit}
use Rattle.codes.proofs.Bits.{shl_one, masked, first_bit}
use Rattle.codes.proofs.bit_from.Goals as goal

pub overflow_sub-mask : goal.overflow_sub-mask
overflow_sub-mask c = omega (arith, shl_one c.args.s c.requires, pow_pos c.args.s)

pub returns : goal.returns
returns c =
    subst (λ (m : ℕ). FirstBit c.args.w c.args.s (count_trailing_zeros 64 m)) (sym (masked c.args.w c.args.s c.ranges.w.fits c.requires))
    (first_bit c.args.w c.args.s c.requires)
