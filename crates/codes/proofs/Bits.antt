-- The bits of a word: of a half, a shift, a power of 2, a bitwise operation; and its trailing zeros, also after a low mask.
use mathlib.Core.Path.{◌≡◌, refl, sym, ap, ◌∙◌}
use mathlib.Core.Bool.{Bool, true, false, cond, not, ◌&&◌, ◌||◌}
use mathlib.Core.Logic.{◌⊎◌, inl, inr, ⊎_elim}
use Prim.Native.Nat.{ℕ, zero, suc, ◌+◌, ◌-◌, ◌*◌, ◌/◌, ◌%◌, ◌^◌, ◌≤◌, ◌<◌}
use native.Mathlib.Nat.{mod-lt, div-one, le_of_suc-le-suc, mul_assoc, zero-mul, one-mul, add-sub_of_le, zero-div}
use native.Mathlib.Numerals.{one-add}
use native.Mathlib.Omega.{arith}
use lib.Dec.{eqb}
use lib.Pow.{pow-add, pow_pos, pow-lt, shr-shr, shl-shr, shl_exact, shr_mod}
use lib.Bits.{bit_or, or_shr, or_mod, or_add_and, bit_xor, xor_shr, xor_mod, xor_add_and, bit_and, and_shr, and_mod, and_high, shifted_even}
use lib.Count.{count_trailing_zeros, trailing_le}
use borrow.Author.Tests.{eq-eqb, ne_eqb}
use Rattle.codes.specs.Codes.{bit, bit_set, bit_cleared, bit_assigned}
use Rattle.codes.specs.Words.{FirstBit}
use Rattle.codes.proofs.Cases.{lt_or_le, eq_or_ne}

-- a remainder by 2 is 0 or 1
pub parity : (n : ℕ) → (n % 2 ≡ 0) ⊎ (n % 2 ≡ 1)
parity n = go (n % 2) (mod-lt n (omega arith))
  where
    go : (x : ℕ) → x < 2 → (x ≡ 0) ⊎ (x ≡ 1)
    go zero h = inl refl
    go (suc zero) h = inr refl
    go (suc (suc x)) h = absurd (omega arith)

pub bit-zero : (n : ℕ) → bit n 0 ≡ eqb (n % 2) 1
unfolding bit
bit-zero n = ap (λ (x : ℕ). eqb (x % 2) 1) (div-one n)

pub bit_half : (n i : ℕ) → bit (n / 2) i ≡ bit n (suc i)
unfolding bit
bit_half n i = ap (λ (x : ℕ). eqb (x % 2) 1) (shr-shr n 1 i ∙ ap (λ (j : ℕ). n / 2 ^ j) (one-add i))

-- the bits of a word shifted right
pub bit_shr : (n s i : ℕ) → bit (n / 2 ^ s) i ≡ bit n (s + i)
unfolding bit
bit_shr n s i = ap (λ (x : ℕ). eqb (x % 2) 1) (shr-shr n s i)

-- the bits of a word shifted left: none below the shift, and above it the word's own
pub bit_shl_low : (x s i : ℕ) → i < s → bit (x * 2 ^ s) i ≡ false
unfolding bit
bit_shl_low x s i h =
    let d = s - suc i in
    let e : s ≡ suc d + i = omega arith in
    let w : x * 2 ^ s ≡ (x * 2 ^ suc d) * 2 ^ i = ap (λ (n : ℕ). x * 2 ^ n) e ∙ ap (λ (n : ℕ). x * n) (pow-add 2 (suc d) i) ∙ sym (mul_assoc x (2 ^ suc d) (2 ^ i)) in
    ap (λ (n : ℕ). eqb (n / 2 ^ i % 2) 1) w
    ∙ ap (λ (n : ℕ). eqb (n % 2) 1) (shl-shr (x * 2 ^ suc d) i)
    ∙ ap (λ (n : ℕ). eqb n 1) (shifted_even x d)

pub bit_shl_high : (x s i : ℕ) → bit (x * 2 ^ s) (s + i) ≡ bit x i
bit_shl_high x s i = sym (bit_shr (x * 2 ^ s) s i) ∙ ap (λ (n : ℕ). bit n i) (shl-shr x s)

pub bit-none : (i : ℕ) → bit 0 i ≡ false
unfolding bit
bit-none i = ap (λ (n : ℕ). eqb (n % 2) 1) (zero-div (2 ^ i))

pub bit-one : (i : ℕ) → bit 1 i ≡ eqb i 0
unfolding bit
bit-one zero = refl
bit-one (suc i) = sym (bit_half 1 i) ∙ bit-none i ∙ sym (ne_eqb (suc i) 0 (λ e. omega arith))

-- a power of 2 has the one bit
pub bit_pow : (s i : ℕ) → bit (2 ^ s) i ≡ eqb i s
bit_pow s i = ap (λ (n : ℕ). bit n i) (sym (one-mul (2 ^ s))) ∙ ⊎_elim below above (lt_or_le i s)
  where
    below : i < s → bit (1 * 2 ^ s) i ≡ eqb i s
    below h = bit_shl_low 1 s i h ∙ sym (ne_eqb i s (λ e. omega arith))

    above : s ≤ i → bit (1 * 2 ^ s) i ≡ eqb i s
    above h =
        let e : s + (i - s) ≡ i = add-sub_of_le h in
        ap (bit (1 * 2 ^ s)) (sym e) ∙ bit_shl_high 1 s (i - s) ∙ bit-one (i - s)
        ∙ ⊎_elim (λ z. eq-eqb (i - s) 0 (omega arith) ∙ sym (eq-eqb i s z)) (λ z. ne_eqb (i - s) 0 (λ q. z (omega arith)) ∙ sym (ne_eqb i s z)) (eq_or_ne i s)

-- the bits of a bitwise operation, which its four values at 0 and 1 decide
pub bit_of_operation : (op : ℕ → ℕ → ℕ) (f : Bool → Bool → Bool)
    → ((a b k : ℕ) → op a b / 2 ^ k ≡ op (a / 2 ^ k) (b / 2 ^ k)) → ((a b k : ℕ) → op a b % 2 ^ k ≡ op (a % 2 ^ k) (b % 2 ^ k))
    → eqb (op 0 0) 1 ≡ f false false → eqb (op 0 1) 1 ≡ f false true → eqb (op 1 0) 1 ≡ f true false → eqb (op 1 1) 1 ≡ f true true
    → (a b i : ℕ) → bit (op a b) i ≡ f (bit a i) (bit b i)
unfolding bit
bit_of_operation op f shifted cut v00 v01 v10 v11 a b i =
    ap (λ (n : ℕ). eqb (n % 2) 1) (shifted a b i) ∙ ap (λ (n : ℕ). eqb n 1) (cut (a / 2 ^ i) (b / 2 ^ i) 1)
    ∙ go (a / 2 ^ i % 2) (b / 2 ^ i % 2) (parity (a / 2 ^ i)) (parity (b / 2 ^ i))
  where
    go : (x y : ℕ) → (x ≡ 0) ⊎ (x ≡ 1) → (y ≡ 0) ⊎ (y ≡ 1) → eqb (op x y) 1 ≡ f (eqb x 1) (eqb y 1)
    go x y (inl p) (inl q) = rw (p, q) v00
    go x y (inl p) (inr q) = rw (p, q) v01
    go x y (inr p) (inl q) = rw (p, q) v10
    go x y (inr p) (inr q) = rw (p, q) v11

pub bit-and : (a b i : ℕ) → bit (bit_and a b) i ≡ bit a i && bit b i
bit-and = bit_of_operation bit_and (λ p q. p && q) and_shr and_mod refl refl refl refl

pub bit-or : (a b i : ℕ) → bit (bit_or a b) i ≡ bit a i || bit b i
bit-or = bit_of_operation bit_or (λ p q. p || q) or_shr or_mod refl refl refl refl

pub bit-xor : (a b i : ℕ) → bit (bit_xor a b) i ≡ cond (bit b i) (not (bit a i)) (bit a i)
bit-xor = bit_of_operation bit_xor (λ p q. cond q (not p) p) xor_shr xor_mod refl refl refl refl

-- a word and a power of 2: that power, where the bit is set
pub and_pow : (w s : ℕ) → bit_and w (2 ^ s) ≡ cond (bit w s) (2 ^ s) 0
unfolding bit
and_pow w s =
    let one : 2 ^ (1 + s) - 2 ^ s ≡ 2 ^ s = omega (arith, pow-add 2 1 s) in
    ap (bit_and w) (sym one) ∙ and_high w 1 s ∙ go (w / 2 ^ s % 2) (parity (w / 2 ^ s))
  where
    go : (x : ℕ) → (x ≡ 0) ⊎ (x ≡ 1) → x * 2 ^ s ≡ cond (eqb x 1) (2 ^ s) 0
    go x (inl e) = rw e (zero-mul (2 ^ s))
    go x (inr e) = rw e (one-mul (2 ^ s))

-- or sets the bit
pub or_sets : (w s : ℕ) → bit_or w (2 ^ s) ≡ bit_set w s
or_sets w s = go (bit w s) (bit_or w (2 ^ s)) (bit_and w (2 ^ s)) (2 ^ s) (and_pow w s) (or_add_and w (2 ^ s))
  where
    go : (t : Bool) (o a p : ℕ) → a ≡ cond t p 0 → o + a ≡ w + p → o ≡ cond t w (w + p)
    go true o a p e f = omega arith
    go false o a p e f = omega arith

-- a bit that is set and turned over after that is cleared
pub xor_clears : (w s : ℕ) → bit_xor (bit_or w (2 ^ s)) (2 ^ s) ≡ bit_cleared w s
xor_clears w s =
    let v = bit_or w (2 ^ s) in
    let now : bit v s ≡ true = bit-or w (2 ^ s) s ∙ rw (bit_pow s s, eq-eqb s s refl) (either (bit w s)) in
    go (bit w s) v (bit_xor v (2 ^ s)) (bit_and v (2 ^ s)) (2 ^ s) (or_sets w s) (and_pow v s ∙ rw now) (xor_add_and v (2 ^ s))
  where
    either : (t : Bool) → t || true ≡ true
    either true = refl
    either false = refl

    go : (t : Bool) (v x a p : ℕ) → v ≡ cond t w (w + p) → a ≡ p → x + a * 2 ≡ v + p → x ≡ cond t (w - p) w
    go true v x a p e f g = omega arith
    go false v x a p e f g = omega arith

-- a word with bit s set or cleared has its other bits as they were
pub bit-assigned : (w s : ℕ) (inside : Bool) (j : ℕ) → bit (bit_assigned w s inside) j ≡ cond (eqb j s) inside (bit w j)
unfolding bit_assigned
bit-assigned w s true j = rw (← or_sets w s) (bit-or w (2 ^ s) j ∙ rw (bit_pow s j) (either (bit w j) (eqb j s)))
  where
    either : (p q : Bool) → p || q ≡ cond q true p
    either true true = refl
    either true false = refl
    either false true = refl
    either false false = refl
bit-assigned w s false j = rw (← xor_clears w s) (bit-xor (bit_or w (2 ^ s)) (2 ^ s) j ∙ rw (bit-or w (2 ^ s) j, bit_pow s j) (either (bit w j) (eqb j s)))
  where
    either : (p q : Bool) → cond q (not (p || q)) (p || q) ≡ cond q false p
    either true true = refl
    either true false = refl
    either false true = refl
    either false false = refl

pub trailing_set : (k n : ℕ) → count_trailing_zeros k n < k → bit n (count_trailing_zeros k n) ≡ true
unfolding count_trailing_zeros
trailing_set zero n h = absurd (omega arith)
trailing_set (suc k) n h = ⊎_elim (even (trailing_set k (n / 2))) odd (parity n)
  where
    even : (count_trailing_zeros k (n / 2) < k → bit (n / 2) (count_trailing_zeros k (n / 2)) ≡ true) → n % 2 ≡ 0 → bit n (count_trailing_zeros (suc k) n) ≡ true
    even ih e = rw e (sym (bit_half n (count_trailing_zeros k (n / 2))) ∙ ih (le_of_suc-le-suc (rw e at h)))

    odd : n % 2 ≡ 1 → bit n (count_trailing_zeros (suc k) n) ≡ true
    odd e = rw e (bit-zero n ∙ eq-eqb _ _ e)

pub trailing_clear : (k n j : ℕ) → j < count_trailing_zeros k n → bit n j ≡ false
unfolding count_trailing_zeros
trailing_clear zero n j h = absurd (omega arith)
trailing_clear (suc k) n j h = ⊎_elim (even (trailing_clear k (n / 2)) j h) odd (parity n)
  where
    even : ((j : ℕ) → j < count_trailing_zeros k (n / 2) → bit (n / 2) j ≡ false) → (j : ℕ) → j < count_trailing_zeros (suc k) n → n % 2 ≡ 0 → bit n j ≡ false
    even ih zero h e = bit-zero n ∙ ap (λ (x : ℕ). eqb x 1) e
    even ih (suc j) h e = sym (bit_half n j) ∙ ih j (le_of_suc-le-suc (rw e at h))

    odd : n % 2 ≡ 1 → bit n j ≡ false
    odd e = let z : j < 0 = (rw e at h) in absurd (omega arith)

-- one shifted left by s below 64
pub shl_one : (s : ℕ) → s < 64 → (1 * 2 ^ s) % 2 ^ 64 ≡ 2 ^ s
shl_one s h = shl_exact 1 s 64 (omega arith) (omega arith) ∙ one-mul (2 ^ s)

-- a word with its bits below s cleared by a mask
pub masked : (w s : ℕ) → w < 2 ^ 64 → s < 64 → bit_and w ((2 ^ 64 - 1) - ((1 * 2 ^ s) % 2 ^ 64 - 1)) ≡ w / 2 ^ s * 2 ^ s
masked w s hw hs =
    let j = 64 - s in
    let e : j + s ≡ 64 = omega arith in
    let m : (2 ^ 64 - 1) - (2 ^ s - 1) ≡ 2 ^ (j + s) - 2 ^ s = rw e (omega (arith, pow_pos s, pow-lt hs)) in
    rw (shl_one s hs) (ap (bit_and w) m ∙ and_high w j s ∙ ap (λ (x : ℕ). x * 2 ^ s) (shr_mod j s (rw e hw)))

-- the trailing zeros of a word so masked
pub first_bit : (w s : ℕ) → s < 64 → FirstBit w s (count_trailing_zeros 64 (w / 2 ^ s * 2 ^ s))
first_bit w s hs = record {
  upto = trailing_le 64 m;
  clear = λ j l h. sym (high j l) ∙ trailing_clear 64 m j h;
  found = λ h. ⊎_elim (λ l. absurd (low l (trailing_set 64 m h))) (λ l. (l, sym (high (count_trailing_zeros 64 m) l) ∙ trailing_set 64 m h)) (lt_or_le (count_trailing_zeros 64 m) s);
}
  where
    m : ℕ
    m = w / 2 ^ s * 2 ^ s

    high : (j : ℕ) → s ≤ j → bit (w / 2 ^ s * 2 ^ s) j ≡ bit w j
    high j l =
        let e : s + (j - s) ≡ j = add-sub_of_le l in
        ap (bit (w / 2 ^ s * 2 ^ s)) (sym e) ∙ bit_shl_high (w / 2 ^ s) s (j - s) ∙ bit_shr w s (j - s) ∙ ap (bit w) e

    low : {j : ℕ} → j < s → bit (w / 2 ^ s * 2 ^ s) j ≡ true → ⊥
    low {j} l e = let z : ◌≡◌ {A = Bool} true false = sym e ∙ bit_shl_low (w / 2 ^ s) s j l in let y : ◌≡◌ {A = ℕ} 0 1 = cc in omega arith
