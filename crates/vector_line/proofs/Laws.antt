-- Pairs one after the other: what is left of a text comes to the whole.
use mathlib.Core.Path.{◌≡◌, refl, sym, ap, ap₂, ◌∙◌, subst}
use mathlib.Core.List.{List, [], ◌∷◌, ◌++◌, append_assoc, append-nil}
use Prim.Native.Nat.{ℕ, suc, ◌+◌, ◌-◌, ◌*◌, ◌≤◌, ◌<◌}
use native.Mathlib.Omega.{arith}
use lib.ListN.{length, get_or, set, take, drop, length-append, length-drop}
use lib.Seq.{take_all, take-suc-set, drop-set-lt, drop-drop}
use borrow.Author.Tests.{le-leb, lt-leb, ne_eqb, eq-eqb}
use Rattle.std.specs.Prelude.{Option, Some, None}
use Rattle.vector_line.specs.Lines.{digit_of, byte_before, pairs_of, within}

-- ---- the front of a text

-- what stands behind k bytes, as the code cuts it
pub rest : (k : ℕ) (s : List ℕ) → take (length s - k) (drop k s) ≡ drop k s
rest k s = take_all (length s - k) (drop k s) (omega (arith, length-drop k s))

-- nothing is left
pub left_none : (s : List ℕ) → length s < 1 → pairs_of s ≡ Some []
unfolding pairs_of
left_none [] l = refl
left_none (a ∷ s) l = absurd (omega (arith, l))

-- a space
space : (s : List ℕ) → get_or s 0 0 ≡ 0x20 → pairs_of s ≡ pairs_of (drop 1 s)
unfolding pairs_of
space [] e = absurd (omega (arith, e))
space (a ∷ []) e = rw (eq-eqb a 0x20 e)
space (a ∷ b ∷ s) e = rw (eq-eqb a 0x20 e)

pub left_space : (s : List ℕ) → get_or s 0 0 ≡ 0x20 → pairs_of s ≡ pairs_of (take (length s - 1) (drop 1 s))
left_space s e = space s e ∙ ap pairs_of (sym (rest 1 s))

-- one byte alone that is no space
pub left_single : (s : List ℕ) → 1 ≤ length s → length s < 2 → (get_or s 0 0 ≡ 0x20 → ⊥) → pairs_of s ≡ None
unfolding pairs_of
left_single [] l m n = absurd (omega (arith, l))
left_single (a ∷ []) l m n = rw (ne_eqb a 0x20 n)
left_single (a ∷ b ∷ s) l m n = absurd (omega (arith, m))

-- a digit that is none
pub byte-none : (high : Option ℕ) (o : Option (List ℕ)) → byte_before high None o ≡ None
byte-none None o = refl
byte-none (Some h) o = refl

-- two bytes of which the first is no space
pair : (s : List ℕ) → 2 ≤ length s → (get_or s 0 0 ≡ 0x20 → ⊥) → pairs_of s ≡ byte_before (digit_of (get_or s 0 0)) (digit_of (get_or s 1 0)) (pairs_of (drop 2 s))
unfolding pairs_of
pair [] l n = absurd (omega (arith, l))
pair (a ∷ []) l n = absurd (omega (arith, l))
pair (a ∷ b ∷ s) l n = rw (ne_eqb a 0x20 n)

pub left_pair : (s : List ℕ) (high low : Option ℕ) → 2 ≤ length s → (get_or s 0 0 ≡ 0x20 → ⊥) → high ≡ digit_of (get_or s 0 0) → low ≡ digit_of (get_or s 1 0)
    → pairs_of s ≡ byte_before high low (pairs_of (take (length s - 2) (drop 2 s)))
left_pair s high low l n d e = pair s l n ∙ ap₂ (λ (x y : Option ℕ). byte_before x y (pairs_of (drop 2 s))) (sym d) (sym e) ∙ ap (λ (t : List ℕ). byte_before high low (pairs_of t)) (sym (rest 2 s))

-- two bytes of which one is no digit
pub left_no_high : (s : List ℕ) → 2 ≤ length s → (get_or s 0 0 ≡ 0x20 → ⊥) → None ≡ digit_of (get_or s 0 0) → pairs_of s ≡ None
left_no_high s l n d = left_pair s None (digit_of (get_or s 1 0)) l n d refl

pub left_no_low : (s : List ℕ) → 2 ≤ length s → (get_or s 0 0 ≡ 0x20 → ⊥) → None ≡ digit_of (get_or s 1 0) → pairs_of s ≡ None
left_no_low s l n d = left_pair s (digit_of (get_or s 0 0)) None l n refl d ∙ byte-none (digit_of (get_or s 0 0)) (pairs_of (take (length s - 2) (drop 2 s)))

-- ---- what was read so far, in front of what is left

abbrev pub onto : List ℕ → Option (List ℕ) → Option (List ℕ)
onto bytes None = None
onto bytes (Some more) = Some (bytes ++ more)

abbrev pub Left : (text left bytes : List ℕ) → Type 0
Left text left bytes = pairs_of text ≡ onto bytes (pairs_of left)

onto-nil : (o : Option (List ℕ)) → o ≡ onto [] o
onto-nil None = refl
onto-nil (Some more) = refl

onto-byte : (bytes : List ℕ) (high low : ℕ) (o : Option (List ℕ)) → onto bytes (byte_before (Some high) (Some low) o) ≡ onto (bytes ++ ((high * 16 + low) ∷ [])) o
onto-byte bytes high low None = refl
onto-byte bytes high low (Some more) = ap Some (sym (append_assoc bytes ((high * 16 + low) ∷ []) more))

pub left_starts : (text : List ℕ) → Left text text []
left_starts text = onto-nil (pairs_of text)

pub left_on : (text left rest bytes : List ℕ) → Left text left bytes → pairs_of left ≡ pairs_of rest → Left text rest bytes
left_on text left rest bytes l e = l ∙ ap (onto bytes) e

pub left_more : (text left rest bytes : List ℕ) (high low : ℕ) → Left text left bytes → pairs_of left ≡ byte_before (Some high) (Some low) (pairs_of rest)
    → Left text rest (bytes ++ ((high * 16 + low) ∷ []))
left_more text left rest bytes high low l e = l ∙ ap (onto bytes) e ∙ onto-byte bytes high low (pairs_of rest)

-- the byte of a pair, stored behind what was read so far; what stands behind it stays
pub left_stored : (text left rest buffer : List ℕ) (n high low byte : ℕ) → n < length buffer → byte ≡ high * 16 + low → Left text left (take n buffer) → pairs_of left ≡ byte_before (Some high) (Some low) (pairs_of rest)
    → Left text rest (take (n + 1) (set buffer n byte))
left_stored text left rest buffer n high low byte h v l e =
    let one : n + 1 ≡ suc n = omega arith in
    let bytes = ap (λ (k : ℕ). take k (set buffer n byte)) one ∙ take-suc-set buffer n byte h ∙ ap (λ (b : ℕ). take n buffer ++ (b ∷ [])) v in
    subst (Left text rest) (sym bytes) (left_more text left rest (take n buffer) high low l e)

pub behind_stored : (buffer start : List ℕ) (n b : ℕ) → drop n buffer ≡ drop n start → drop (n + 1) (set buffer n b) ≡ drop (n + 1) start
behind_stored buffer start n b e = drop-set-lt (n + 1) buffer n b (omega arith) ∙ sym (drop-drop 1 n buffer) ∙ ap (drop 1) e ∙ drop-drop 1 n start

-- the end, another form, and no room
pub left_ends : (room : ℕ) (text left bytes : List ℕ) → Left text left bytes → pairs_of left ≡ Some [] → length bytes ≤ room → within room (pairs_of text) ≡ Some bytes
left_ends room text left bytes l e h =
    let q : pairs_of text ≡ Some bytes = l ∙ ap (onto bytes) e ∙ ap Some (append-nil bytes) in
    let r : within room (Some bytes) ≡ Some bytes = rw (le-leb (length bytes) room h) in
    ap (within room) q ∙ r

pub left_malformed : (room : ℕ) (text left bytes : List ℕ) → Left text left bytes → pairs_of left ≡ None → within room (pairs_of text) ≡ None
left_malformed room text left bytes l e = ap (within room) (l ∙ ap (onto bytes) e)

byte-large : (room : ℕ) (bytes : List ℕ) (high low : ℕ) (o : Option (List ℕ)) → room ≤ length bytes → within room (onto bytes (byte_before (Some high) (Some low) o)) ≡ None
byte-large room bytes high low None l = refl
byte-large room bytes high low (Some more) l =
    rw (lt-leb (length (bytes ++ ((high * 16 + low) ∷ more))) room (omega (arith, l, length-append bytes ((high * 16 + low) ∷ more))))

pub left_full : (room : ℕ) (text left rest bytes : List ℕ) (high low : ℕ) → Left text left bytes → pairs_of left ≡ byte_before (Some high) (Some low) (pairs_of rest) → room ≤ length bytes
    → within room (pairs_of text) ≡ None
left_full room text left rest bytes high low l e h = ap (within room) (l ∙ ap (onto bytes) e) ∙ byte-large room bytes high low (pairs_of rest) h
