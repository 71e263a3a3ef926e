-- The laws of `packed` and `folded`, each over the number of bytes: bytes laid side by side, and taken together again.
-- Assumes nothing.
use mathlib.Core.Path.{◌≡◌, refl, sym, ap, ap₂, ◌∙◌, subst}
use Prim.Native.Nat.{ℕ, zero, suc, ◌+◌, ◌*◌, ◌/◌, ◌%◌, ◌^◌, ◌≤◌, ◌<◌}
use mathlib.Core.List.{List, [], ◌∷◌, ◌++◌}
use native.Mathlib.Omega.{arith}
use lib.ListN.{length, get_or, take, drop, length-drop}
use lib.Seq.{drop-cons, drop-drop, length-take-le, take-add}
use lib.Arith.{digits_lt, digits_div, digits_mod}
use lib.Pow.{pow-add, shl_exact, shr-shr}
use lib.Bits.{bit_or, bit_xor, or_shifted_r, xor_comm, xor_mod, xor_shr, xor_zero_l, xor_zero_r}
use Rattle.std.specs.Int.{from_le_bytes}
use Rattle.std.specs.List.{fold}
use Rattle.std.specs.Simd.{first_chunks}
use Rattle.std.proofs.Common.{w64, take_all}
use Rattle.checksum.specs.Bytes.{Bytes, none, more}
use Rattle.checksum.specs.Words.{packed, folded}
use Rattle.checksum.specs.Xor.{xor_all}
use Rattle.checksum.proofs.Bytes.{bytes_of, bytes-at, bytes_take, bytes_drop}
use Rattle.checksum.proofs.Laws.{xor_assoc, xor_all-append, xor_all_cons, xor_all_nil, xor_all_seed}

-- ---- bytes as one number

-- one byte more is eight bits more
eight_more : (n : ℕ) → 2 ^ (8 * suc n) ≡ 2 ^ (8 * n) * 256
eight_more n =
    let bits : 8 * suc n ≡ 8 * n + 8 = omega arith in
    ap (λ (k : ℕ). 2 ^ k) bits ∙ pow-add 2 (8 * n) 8

-- one byte is its own number
pub packed-one : (s : List ℕ) (at : ℕ) → at < length s → packed (take 1 (drop at s)) ≡ get_or s at 0
unfolding packed
packed-one s at h = ap (λ (l : List ℕ). packed (take 1 l)) (drop-cons s at 0 h) ∙ omega arith

packed_lt : {s : List ℕ} → Bytes s → packed s < 2 ^ (8 * length s)
unfolding packed
packed_lt none = omega arith
packed_lt (more {b = b} {s = s} h r) = subst (λ (k : ℕ). packed s * 256 + b < k) (sym (eight_more (length s))) (digits_lt (packed_lt r) h)

packed-append : (s t : List ℕ) → packed (s ++ t) ≡ packed t * 2 ^ (8 * length s) + packed s
unfolding packed
packed-append [] t = omega arith
packed-append (b ∷ s) t = omega (arith, packed-append s t, ap (λ (k : ℕ). packed t * k) (eight_more (length s)))

-- n bytes, and n behind them shifted past them, are twice as many: up to 4 and 4, which fill 64 bits
pub packed_doubled : (n x y : ℕ) (s : List ℕ) (at : ℕ) → ((i : ℕ) → get_or s i 0 < 256) → at + (n + n) ≤ length s → n ≤ 4
    → x ≡ packed (take n (drop at s)) → y ≡ packed (take n (drop (at + n) s))
    → bit_or x ((y * 2 ^ (8 * n)) % 2 ^ 64) ≡ packed (take (n + n) (drop at s))
packed_doubled n x y s at hb h few px py =
    let t : List ℕ = drop at s in
    let low : List ℕ = take n t in
    let high : List ℕ = take n (drop n t) in
    let bytes : Bytes t = bytes_drop at (bytes_of s hb) in
    let long-low : length low ≡ n = length-take-le n t (omega (arith, length-drop at s)) in
    let long-high : length high ≡ n = length-take-le n (drop n t) (omega (arith, length-drop at s, length-drop n t)) in
    let small_low : packed low < 2 ^ (8 * n) = subst (λ (k : ℕ). packed low < 2 ^ (8 * k)) long-low (packed_lt (bytes_take n bytes)) in
    let small-high : packed high < 2 ^ (8 * n) = subst (λ (k : ℕ). packed high < 2 ^ (8 * k)) long-high (packed_lt (bytes_take n (bytes_drop n bytes))) in
    ap₂ (λ (a b : ℕ). bit_or a ((b * 2 ^ (8 * n)) % 2 ^ 64)) px (py ∙ ap (λ (l : List ℕ). packed (take n l)) (sym (drop-drop n at s)))
    ∙ ap (bit_or (packed low)) (shl_exact (8 * n) (8 * n) 64 small-high (omega arith))
    ∙ or_shifted_r (packed high) (8 * n) (packed low) small_low
    ∙ ap (λ (k : ℕ). packed high * 2 ^ (8 * k) + packed low) (sym long-low)
    ∙ sym (packed-append low high)
    ∙ ap packed (sym (take-add n n t))

-- eight bytes are the number that `from_le_bytes` makes of them
packed-eight : (w : List ℕ) → length w ≡ 8 → from_le_bytes w64 w ≡ packed w
unfolding packed
packed-eight (a ∷ b ∷ c ∷ d ∷ e ∷ f ∷ g ∷ h ∷ []) l = omega arith
packed-eight w l = absurd (omega arith)

-- that number is the two halves, the upper one shifted past the lower one: neither memory's order nor alignment is in it
pub by_halves : (w : List ℕ) → ((i : ℕ) → get_or w i 0 < 256) → length w ≡ 8
    → from_le_bytes w64 w ≡ bit_or (packed (take 4 w)) ((packed (take 4 (drop 4 w)) * 2 ^ 32) % 2 ^ 64)
by_halves w hb l =
    packed-eight w l ∙ ap packed (sym (take_all 8 w (omega arith))) ∙ sym (packed_doubled 4 _ _ w 0 hb (omega arith) (omega arith) refl refl)

-- ---- the bytes of a number taken together

xor_exchange : (a b c d : ℕ) → bit_xor (bit_xor a b) (bit_xor c d) ≡ bit_xor (bit_xor a c) (bit_xor b d)
xor_exchange a b c d =
    xor_assoc a b (bit_xor c d)
    ∙ ap (bit_xor a) (sym (xor_assoc b c d) ∙ ap (λ (x : ℕ). bit_xor x d) (xor_comm b c) ∙ xor_assoc c b d)
    ∙ sym (xor_assoc a c (bit_xor b d))

folded_xor : (n a b : ℕ) → folded n (bit_xor a b) ≡ bit_xor (folded n a) (folded n b)
unfolding folded
folded_xor zero a b = refl
folded_xor (suc n) a b =
    ap₂ (λ (x y : ℕ). bit_xor x (folded n y)) (xor_mod a b 8) (xor_shr a b 8)
    ∙ ap (bit_xor (bit_xor (a % 256) (b % 256))) (folded_xor n (a / 256) (b / 256))
    ∙ xor_exchange (a % 256) (b % 256) (folded n (a / 256)) (folded n (b / 256))

folded-split : (n m w : ℕ) → folded (n + m) w ≡ bit_xor (folded n w) (folded m (w / 2 ^ (8 * n)))
unfolding folded
folded-split zero m w =
    let count : zero + m ≡ m = omega arith in
    let whole : w ≡ w / 2 ^ (8 * 0) = omega arith in
    ap₂ folded count whole ∙ sym (xor_zero_l _)
folded-split (suc n) m w =
    let count : suc n + m ≡ suc (n + m) = omega arith in
    let bits : 8 + 8 * n ≡ 8 * suc n = omega arith in
    ap (λ (k : ℕ). folded k w) count
    ∙ ap (bit_xor (w % 256)) (folded-split n m (w / 256))
    ∙ sym (xor_assoc (w % 256) (folded n (w / 256)) (folded m (w / 256 / 2 ^ (8 * n))))
    ∙ ap (λ (x : ℕ). bit_xor (bit_xor (w % 256) (folded n (w / 256))) (folded m x)) (shr-shr w 8 (8 * n) ∙ ap (λ (k : ℕ). w / 2 ^ k) bits)

-- the upper half may be laid over the lower one
pub folded_halved : (n w : ℕ) → folded (n + n) w ≡ folded n (bit_xor w (w / 2 ^ (8 * n)))
folded_halved n w = folded-split n n w ∙ sym (folded_xor n w (w / 2 ^ (8 * n)))

pub folded-one : (w : ℕ) → folded 1 w ≡ w % 256
unfolding folded
folded-one w = xor_zero_r (w % 256)

folded-zero : (n : ℕ) → folded n 0 ≡ 0
unfolding folded
folded-zero zero = refl
folded-zero (suc n) = ap (bit_xor 0) (folded-zero n)

pub folded_byte : (n x : ℕ) → x < 256 → folded (suc n) x ≡ x
unfolding folded
folded_byte n x h =
    let low : x % 256 ≡ x = omega arith in
    let high : x / 256 ≡ 0 = omega arith in
    ap₂ (λ (a b : ℕ). bit_xor a (folded n b)) low high ∙ ap (bit_xor x) (folded-zero n) ∙ xor_zero_r x

-- what bytes were packed comes out as their exclusive-or
folded-packed : {s : List ℕ} → Bytes s → folded (length s) (packed s) ≡ xor_all 0 s
unfolding folded packed
folded-packed none = sym (xor_all_nil 0)
folded-packed (more {b = b} {s = s} h r) =
    ap₂ (λ (x y : ℕ). bit_xor x (folded (length s) y)) (digits_mod (packed s) h) (digits_div (packed s) h)
    ∙ ap (bit_xor b) (folded-packed r)
    ∙ sym (xor_all_seed b 0 s)
    ∙ ap (λ (x : ℕ). xor_all x s) (xor_zero_r b ∙ sym (xor_zero_l b))
    ∙ sym (xor_all_cons 0 b s)

-- n bytes more are taken in as one number
pub folded-next : (n seed acc i : ℕ) (s : List ℕ) → ((j : ℕ) → get_or s j 0 < 256) → i + n ≤ length s → folded n acc ≡ xor_all seed (take i s)
    → folded n (bit_xor acc (packed (take n (drop i s)))) ≡ xor_all seed (take (i + n) s)
folded-next n seed acc i s hb h taken =
    let g : List ℕ = take n (drop i s) in
    let lg : length g ≡ n = length-take-le n (drop i s) (omega (arith, length-drop i s)) in
    let sum : ℕ = xor_all seed (take i s) in
    folded_xor n acc (packed g)
    ∙ ap₂ bit_xor taken (ap (λ (k : ℕ). folded k (packed g)) (sym lg) ∙ folded-packed (bytes_take n (bytes_drop i (bytes_of s hb))))
    ∙ sym (xor_all_seed sum 0 g)
    ∙ ap (λ (x : ℕ). xor_all x g) (xor_zero_r sum)
    ∙ sym (xor_all-append seed (take i s) g)
    ∙ ap (xor_all seed) (sym (take-add i n s))

-- eight bytes more are taken in as one number
abbrev pub word_in : ℕ → List ℕ → ℕ
word_in acc w = bit_xor acc (from_le_bytes w64 w)

word-taken : (acc : ℕ) (w : List ℕ) → Bytes w → length w ≡ 8 → folded 8 (word_in acc w) ≡ xor_all (folded 8 acc) w
word-taken acc w b l =
    let all : take 8 w ≡ w = take_all 8 w (omega arith) in
    ap (λ (x : ℕ). folded 8 (bit_xor acc x)) (packed-eight w l ∙ ap packed (sym all))
    ∙ folded-next 8 (folded 8 acc) acc 0 w (bytes-at b) (omega arith) (sym (xor_all_nil (folded 8 acc)))
    ∙ ap (xor_all (folded 8 acc)) all

-- the first k words are taken in one after the other
pub words_taken : (k acc : ℕ) (s : List ℕ) → Bytes s → k * 8 ≤ length s
    → folded 8 (fold word_in acc (first_chunks 8 k s)) ≡ xor_all (folded 8 acc) (take (k * 8) s)
words_taken zero acc s b h = sym (xor_all_nil _)
words_taken (suc k) acc s b h =
    let w : List ℕ = take 8 s in
    let size : length w ≡ 8 = length-take-le 8 s (omega arith) in
    let whole : 8 + k * 8 ≡ suc k * 8 = omega arith in
    words_taken k (word_in acc w) (drop 8 s) (bytes_drop 8 b) (omega (arith, length-drop 8 s))
    ∙ ap (λ (x : ℕ). xor_all x (take (k * 8) (drop 8 s))) (word-taken acc w (bytes_take 8 b) size)
    ∙ sym (xor_all-append (folded 8 acc) w (take (k * 8) (drop 8 s)))
    ∙ ap (xor_all (folded 8 acc)) (sym (take-add 8 (k * 8) s) ∙ ap (λ (n : ℕ). take n s) whole)
