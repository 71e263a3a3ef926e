-- Counting how many numbers below a bound a test holds of.
use mathlib.Core.Path.{◌≡◌, refl, sym, ap, ◌∙◌}
use mathlib.Core.Bool.{Bool, true, false, cond}
use mathlib.Core.Logic.{◌⊎◌, inl, inr, ⊎_elim}
use Prim.Native.Nat.{ℕ, zero, suc, ◌+◌, ◌/◌, ◌%◌, ◌^◌, ◌≤◌, ◌<◌}
use native.Mathlib.Nat.{add-suc, add-zero, le_of_suc-le-suc}
use native.Mathlib.Numerals.{add-one, one-add}
use native.Mathlib.Omega.{arith}
use lib.Arith.{lt-one, lt_of_le-ne}
use lib.Pow.{shr_lt}
use lib.Count.{ones, ones_step}
use Rattle.codes.specs.Codes.{bit, how_many}
use Rattle.codes.proofs.Cases.{eq_or_ne}
use Rattle.codes.proofs.Bits.{parity, bit-zero, bit_half}

pub how_many_ext : (p q : ℕ → Bool) (n : ℕ) → ((i : ℕ) → i < n → p i ≡ q i) → how_many p n ≡ how_many q n
unfolding how_many
how_many_ext p q zero h = refl
how_many_ext p q (suc n) h = cc (how_many_ext p q n (λ i l. h i (omega arith)), h n (omega arith))

pub how_many_add : (p : ℕ → Bool) (a b : ℕ) → how_many p (a + b) ≡ how_many p a + how_many (λ (i : ℕ). p (a + i)) b
unfolding how_many
how_many_add p a zero = ap (how_many p) (add-zero a) ∙ sym (add-zero (how_many p a))
how_many_add p a (suc b) = rw add-suc (omega (arith, how_many_add p a b))

pub ones_bits : (k n : ℕ) → n < 2 ^ k → ones n ≡ how_many (bit n) k
unfolding how_many ones
ones_bits zero n h = ap ones (lt-one h)
ones_bits (suc k) n h =
    ones_step n
    ∙ omega (arith, ones_bits k (n / 2) (shr_lt k 1 (rw add-one h)), how_many_ext (bit (n / 2)) (λ (i : ℕ). bit n (1 + i)) k (λ i l. bit_half n i ∙ ap (bit n) (sym (one-add i))), low (parity n), how_many_add (bit n) 1 k, ap (how_many (bit n)) (one-add k))
  where
    low : (n % 2 ≡ 0) ⊎ (n % 2 ≡ 1) → n % 2 ≡ cond (bit n 0) 1 0
    low (inl e) = rw (bit-zero n) (rw e)
    low (inr e) = rw (bit-zero n) (rw e)

pub how_many-start : (p : ℕ → Bool) → how_many p 0 ≡ 0
unfolding how_many
how_many-start p = refl

pub how_many-none : (p : ℕ → Bool) (n : ℕ) → ((i : ℕ) → p i ≡ false) → how_many p n ≡ 0
unfolding how_many
how_many-none p zero h = refl
how_many-none p (suc n) h = rw (h n, how_many-none p n h)

-- where two tests differ at c alone, so do their counts
pub how_many_change : (p q : ℕ → Bool) (n c : ℕ) → c < n → ((d : ℕ) → (d ≡ c → ⊥) → p d ≡ q d)
    → how_many p n + cond (q c) 1 0 ≡ how_many q n + cond (p c) 1 0
unfolding how_many
how_many_change p q zero c h f = absurd (omega arith)
how_many_change p q (suc n) c h f = ⊎_elim here (away (how_many_change p q n c)) (eq_or_ne n c)
  where
    here : n ≡ c → how_many p (suc n) + cond (q c) 1 0 ≡ how_many q (suc n) + cond (p c) 1 0
    here e =
        rw (← e) (omega (arith, how_many_ext p q n (λ d l. f d (λ z. omega arith))))

    away : (c < n → ((d : ℕ) → (d ≡ c → ⊥) → p d ≡ q d) → how_many p n + cond (q c) 1 0 ≡ how_many q n + cond (p c) 1 0) → (n ≡ c → ⊥)
        → how_many p (suc n) + cond (q c) 1 0 ≡ how_many q (suc n) + cond (p c) 1 0
    away ih z = let l : c < n = lt_of_le-ne (le_of_suc-le-suc h) (λ e. z (sym e)) in rw (f n z) (omega (arith, ih l f))

pub how_many_le : (p : ℕ → Bool) (n : ℕ) → how_many p n ≤ n
unfolding how_many
how_many_le p zero = omega arith
how_many_le p (suc n) = omega (arith, how_many_le p n, one (p n))
  where
    one : (t : Bool) → cond t 1 0 ≤ 1
    one true = omega arith
    one false = omega arith
