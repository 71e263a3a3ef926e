-- What the tests of a step show: the sizes that are lent well, and the lesser of two numbers.
use mathlib.Core.Path.{◌≡◌, refl}
use mathlib.Core.Bool.{Bool, true, false, cond}
use Prim.Native.Nat.{ℕ, ◌≤◌, ◌<◌, min}
use native.Mathlib.Omega.{arith}
use lib.Dec.{ltb}
use borrow.Author.Tests.{eqb-true, leb-true, ltb-true, ltb-false}
use Rattle.std.proofs.Math.Nat.{min-eq_left, min-eq_right}
use Rattle.message_rules.proofs.Tests.{and_true}
use Rattle.message_rules.specs.Limits.{output_room}
use Rattle.display_rules.specs.Limits.{table_room}
use Rattle.display_rules.specs.Step.{lent_well}
use Rattle.display_rules.specs.declared.Display.{Display}

pub record Lent (d : Display) (lent t b : ℕ) : Type 0 where
  pub out : output_room ≤ b
  pub table : t ≡ table_room
  pub text : lent ≡ d.capabilities.len

pub lent-sizes : (d : Display) (lent table out : ℕ) → lent_well d lent table out ≡ true → Lent d lent table out
lent-sizes d lent table out h =
    let a = and_true _ _ h in
    let b = and_true _ _ a.1 in
    record { out = leb-true _ _ a.0; table = eqb-true _ _ b.0; text = eqb-true _ _ b.1 }

-- the lesser of two numbers is found by one comparison
pub min_by-ltb : (a b : ℕ) → min a b ≡ cond (ltb a b) a b
min_by-ltb a b = go (ltb a b) refl
  where
    go : (t : Bool) → ltb a b ≡ t → min a b ≡ cond t a b
    go true e = let f : a < b = ltb-true a b e in min-eq_left (omega arith)
    go false e = min-eq_right (ltb-false a b e)
