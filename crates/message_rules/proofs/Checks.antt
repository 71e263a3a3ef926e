-- The sources' own rules for the check come to ours.
-- Assumes nothing.
use mathlib.Core.Path.{◌≡◌, refl, sym, ap, ◌∙◌}
use mathlib.Core.List.{List}
use Prim.Native.Nat.{ℕ}
use lib.Bits.{bit_xor}
use Rattle.checksum.specs.Xor.{xor_all}
use Rattle.checksum.proofs.Laws.{xor_all_cons, xor_all_seed}
use Rattle.message_rules.specs.Theorems.{SameCheck}

-- 37 is 59 beside 6E, and 6E is 59 beside 37
beside_59 : (seed other : ℕ) (s : List ℕ) (k : ℕ) → seed ≡ bit_xor 0x59 other → xor_all other s ≡ k → xor_all seed s ≡ bit_xor 0x59 k
beside_59 seed other s k e h = ap (λ (x : ℕ). xor_all x s) e ∙ xor_all_seed 0x59 other s ∙ ap (bit_xor 0x59) h

pub same_check : SameCheck
same_check = record {
  address = λ s. xor_all_cons 0x6F 0x51 s ∙ sym (xor_all_cons 0x50 0x6E s);
  there = λ s h. beside_59 0x37 0x6E s 0 refl h;
  back = λ s h. beside_59 0x6E 0x37 s 0x59 refl h;
}
