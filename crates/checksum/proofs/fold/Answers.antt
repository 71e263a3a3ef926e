-- `checksum::fold` meets its contract: eight bytes are four, four are two, two are one.
-- Assumes nothing.
use Prim.Native.Nat.{ℕ, ◌/◌, ◌^◌}
use mathlib.Core.Path.{◌∙◌, sym}
use lib.Bits.{bit_xor}
use Rattle.checksum.proofs.Words.{folded_halved, folded-one}
use Rattle.checksum.proofs.fold.Goals as goal

pub returns : goal.returns
returns c =
    let w : ℕ = c.args.w in
    let four : ℕ = bit_xor w (w / 2 ^ 32) in
    let two : ℕ = bit_xor four (four / 2 ^ 16) in
    let one : ℕ = bit_xor two (two / 2 ^ 8) in
    sym (folded_halved 4 w ∙ folded_halved 2 four ∙ folded_halved 1 two ∙ folded-one one)
