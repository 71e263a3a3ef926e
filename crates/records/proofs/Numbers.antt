-- Numbers as bytes: a number and its bytes give each other back, over the width.
use mathlib.Core.Path.{◌≡◌, refl, sym, ap, ap₂, ◌∙◌}
use mathlib.Core.List.{List, [], ◌∷◌, ◌++◌}
use Prim.Native.Nat.{ℕ, zero, suc, ◌+◌, ◌*◌, ◌/◌, ◌%◌, ◌≤◌, ◌<◌}
use native.Mathlib.Nat.{div-add-mod'}
use native.Mathlib.Omega.{arith}
use lib.ListN.{length, get_or, take, drop, get_or-eq_default}
use lib.Seq.{get_or-append-add, get_or-drop, drop-cons}
use Rattle.checksum.proofs.Bytes.{bytes-at}
use Rattle.records.specs.Numbers.{little_endian, number_at}
use Rattle.records.specs.Statements.{LowFirst, AsWide, NumberBack, BytesBack}

-- ---- where the bytes stand

byte_same : (s t : List ℕ) (i j : ℕ) → get_or s (i + 0) 0 ≡ get_or t (j + 0) 0 → get_or s i 0 ≡ get_or t j 0
byte_same s t i j h =
    let e : i ≡ i + 0 = omega arith in
    let f : j + 0 ≡ j = omega arith in
    ap (λ (n : ℕ). get_or s n 0) e ∙ h ∙ ap (λ (n : ℕ). get_or t n 0) f

-- equal bytes are equal numbers
pub number_same : (k : ℕ) (s t : List ℕ) (i j : ℕ) → ((m : ℕ) → m < k → get_or s (i + m) 0 ≡ get_or t (j + m) 0) → number_at k s i ≡ number_at k t j
number_same zero s t i j h = refl
number_same (suc zero) s t i j h = byte_same s t i j (h 0 (omega arith))
number_same (suc (suc k)) s t i j h =
    ap₂ (λ (x y : ℕ). x + y * 256) (byte_same s t i j (h 0 (omega arith))) (number_same (suc k) s t (i + 1) (j + 1) next)
  where
    next : (m : ℕ) → m < suc k → get_or s (i + 1 + m) 0 ≡ get_or t (j + 1 + m) 0
    next m l =
        let e : i + 1 + m ≡ i + suc m = omega arith in
        let f : j + suc m ≡ j + 1 + m = omega arith in
        ap (λ (n : ℕ). get_or s n 0) e ∙ h (suc m) (omega arith) ∙ ap (λ (n : ℕ). get_or t n 0) f

-- a number of what is left from an index on
pub number_dropped : (k : ℕ) (s : List ℕ) (at i : ℕ) → number_at k (drop at s) i ≡ number_at k s (at + i)
number_dropped k s at i =
    number_same k (drop at s) s i (at + i) (λ m l. let e : at + (i + m) ≡ at + i + m = omega arith in get_or-drop at s (i + m) 0 ∙ ap (λ (n : ℕ). get_or s n 0) e)

pub number-here : (k : ℕ) (s : List ℕ) (at : ℕ) → number_at k (drop at s) 0 ≡ number_at k s at
number-here k s at = number_dropped k s at 0 ∙ (let e : at + 0 ≡ at = omega arith in ap (number_at k s) e)

-- a number behind other bytes
pub number_behind : (k : ℕ) (before s : List ℕ) → number_at k (before ++ s) (length before) ≡ number_at k s 0
number_behind k before s =
    number_same k (before ++ s) s (length before) 0 (λ m l. let e : m ≡ 0 + m = omega arith in get_or-append-add before s m 0 ∙ ap (λ (n : ℕ). get_or s n 0) e)

-- ---- there and back

pub as_wide : AsWide little_endian
as_wide zero n = refl
as_wide (suc zero) n = refl
as_wide (suc (suc k)) n = ap suc (as_wide (suc k) (n / 256))

-- a number and its low byte
pub low-high : (n : ℕ) → n % 256 + n / 256 * 256 ≡ n
low-high n = omega (arith, div-add-mod' n 256)

number-first : (k n : ℕ) (behind : List ℕ) → number_at (suc k) (little_endian (suc k) n ++ behind) 0 ≡ n
number-first zero n behind = refl
number-first (suc k) n behind =
    let rest = little_endian (suc k) (n / 256) ++ behind in
    ap (λ (m : ℕ). n % 256 + m * 256) (number_behind (suc k) (n % 256 ∷ []) rest ∙ number-first k (n / 256) behind) ∙ low-high n

pub number-back : NumberBack little_endian number_at
number-back k n before behind = number_behind (suc k) before (little_endian (suc k) n ++ behind) ∙ number-first k n behind

pub bytes_back : BytesBack little_endian number_at
bytes_back zero s i b h = refl
bytes_back (suc zero) s i b h = sym (ap (take 1) (drop-cons s i 0 (omega arith)))
bytes_back (suc (suc k)) s i b h =
    let m = number_at (suc k) s (i + 1) in
    let e : (get_or s i 0 + m * 256) % 256 ≡ get_or s i 0 = omega (arith, bytes-at b i) in
    let f : (get_or s i 0 + m * 256) / 256 ≡ m = omega (arith, bytes-at b i) in
    let g : i + 1 ≡ suc i = omega arith in
    ap₂ (λ (x y : ℕ). x ∷ little_endian (suc k) y) e f
    ∙ ap (λ (t : List ℕ). get_or s i 0 ∷ t) (bytes_back (suc k) s (i + 1) b (omega arith) ∙ ap (λ (n : ℕ). take (suc k) (drop n s)) g)
    ∙ sym (ap (take (suc (suc k))) (drop-cons s i 0 (omega arith)))

-- ---- two bytes and four

pub low_first : LowFirst little_endian
low_first = record { two = two; four = four }
  where
    two : (a b : ℕ) → a < 256 → little_endian 2 (a + b * 256) ≡ a ∷ b ∷ []
    two a b h =
        let e : (a + b * 256) % 256 ≡ a = omega arith in
        let f : (a + b * 256) / 256 ≡ b = omega arith in
        ap₂ (λ (x y : ℕ). x ∷ y ∷ []) e f

    four : (a b c d : ℕ) → a < 256 → b < 256 → c < 256 → little_endian 4 (a + b * 256 + c * 65536 + d * 16777216) ≡ a ∷ b ∷ c ∷ d ∷ []
    four a b c d h k l =
        let e : (a + b * 256 + c * 65536 + d * 16777216) % 256 ≡ a = omega arith in
        let f : (a + b * 256 + c * 65536 + d * 16777216) / 256 ≡ b + (c + d * 256) * 256 = omega arith in
        let g : (b + (c + d * 256) * 256) / 256 ≡ c + d * 256 = omega arith in
        let i : (b + (c + d * 256) * 256) % 256 ≡ b = omega arith in
        ap₂ (λ (x y : ℕ). x ∷ little_endian 3 y) e f
        ∙ ap₂ (λ (x y : ℕ). a ∷ x ∷ little_endian 2 y) i g
        ∙ ap (λ (t : List ℕ). a ∷ b ∷ t) (two c d l)

-- a byte that is not there counts as 0, and so does a number of such bytes
pub none-there : (k : ℕ) (s : List ℕ) (i : ℕ) → length s ≤ i → number_at k s i ≡ 0
none-there zero s i h = refl
none-there (suc zero) s i h = get_or-eq_default s 0 {n = i} h
none-there (suc (suc k)) s i h =
    ap₂ (λ (x y : ℕ). x + y * 256) (get_or-eq_default s 0 {n = i} h) (none-there (suc k) s (i + 1) (omega arith))
