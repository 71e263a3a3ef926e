-- What a definition by tests says of its result.
-- Assumes nothing.
use mathlib.Core.Path.{◌≡◌, refl}
use mathlib.Core.Bool.{Bool, true, false, cond, ◌&&◌}
use Prim.Native.Nat.{ℕ, zero, suc}
use native.Mathlib.Omega.{arith}
use Rattle.message_rules.specs.Read.{Read, ok, refused, require, after, and_then}

-- a test that did not refuse
pub cond_zero : (t : Bool) (x k : ℕ) → (k ≡ 0 → ⊥) → cond t x k ≡ 0 → (t ≡ true) × (x ≡ 0)
cond_zero true x k h e = (refl, e)
cond_zero false x k h e = absurd (h e)

pub require-ok : {M : Type 0} (t : Bool) (k : ℕ) (r : Read M) (m : M) → require t k r ≡ ok m → (t ≡ true) × (r ≡ ok m)
require-ok true k r m e = (refl, e)
require-ok false k r m e = let z : ◌≡◌ {A = ℕ} 0 1 = cc in absurd (omega arith)

pub after-ok : {M : Type 0} (k : ℕ) (r : Read M) (m : M) → after k r ≡ ok m → (k ≡ 0) × (r ≡ ok m)
after-ok zero r m e = (refl, e)
after-ok (suc k) r m e = let z : ◌≡◌ {A = ℕ} 0 1 = cc in absurd (omega arith)

pub record Both {M N : Type 0} (r : Read M) (f : M → Read N) (n : N) : Type 0 where
  pub first : M
  pub read : r ≡ ok first
  pub further : f first ≡ ok n

pub then_ok : {M N : Type 0} (r : Read M) (f : M → Read N) (n : N) → and_then r f ≡ ok n → Both r f n
then_ok (ok m) f n e = record { first = m; read = refl; further = e }
then_ok (refused k) f n e = let z : ◌≡◌ {A = ℕ} 0 1 = cc in absurd (omega arith)

pub and_true : (a b : Bool) → a && b ≡ true → (a ≡ true) × (b ≡ true)
and_true true b e = (refl, e)
and_true false b e = let z : ◌≡◌ {A = ℕ} 0 1 = cc in absurd (omega arith)
