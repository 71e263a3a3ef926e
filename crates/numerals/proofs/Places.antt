-- How many decimal digits a number has.
use mathlib.Core.Path.{◌≡◌, refl}
use mathlib.Core.Bool.{Bool, true, false}
use Prim.Native.Nat.{ℕ, ◌-◌, ◌^◌, ◌≤◌, ◌<◌}
use native.Mathlib.Nat.{zero-lt-suc, pow-le-pow_right}
use native.Mathlib.Omega.{arith}
use lib.Dec.{leb}
use borrow.Author.Tests.{leb-true, leb-false}
use Rattle.io.specs.Digits.{IsDigitCount}

-- a number below 10 ^ m has at most m
pub places-at-most : (m n k : ℕ) → 1 ≤ m → n < 10 ^ m → IsDigitCount 10 1 n k → k ≤ m
places-at-most m n k l h f = go (leb k m) refl
  where
    go : (t : Bool) → leb k m ≡ t → k ≤ m
    go true e = leb-true k m e
    go false e =
        let more = leb-false k m e in
        let p : 10 ^ m ≤ 10 ^ (k - 1) = pow-le-pow_right {n = 10} (zero-lt-suc 9) {i = m} {j = k - 1} (omega arith) in
        let q = f.2 (omega arith) in
        absurd (omega arith)
