-- Which codes are in a set: read word by word, and after one word is changed at one bit.
use mathlib.Core.Path.{◌≡◌, sym, ap, ◌∙◌}
use mathlib.Core.Bool.{Bool, true, false, cond}
use mathlib.Core.Logic.{⊎_elim}
use mathlib.Core.List.{List}
use Prim.Native.Nat.{ℕ, ◌+◌, ◌-◌, ◌*◌, ◌/◌, ◌%◌, ◌≤◌, ◌<◌}
use native.Mathlib.Nat.{div-add-mod'}
use native.Mathlib.Omega.{arith}
use lib.ListN.{length, get_or, set, length-set}
use lib.Seq.{get_or-set_same, get_or-set_other}
use lib.Dec.{eqb}
use lib.Arith.{digits_div, digits_mod}
use borrow.Author.Tests.{eq-eqb, ne_eqb}
use Rattle.codes.specs.Codes.{all_codes, bit, member, bit_assigned, assigned, how_many, count_of}
use Rattle.codes.specs.Words.{FirstBit}
use Rattle.codes.proofs.Cases.{eq_or_ne}
use Rattle.codes.proofs.Bits.{bit-assigned}
use Rattle.codes.proofs.Counting.{how_many_ext, how_many_add, how_many-start}

-- the code at bit j of word i
pub member-at : (ws : List ℕ) (i j : ℕ) → j < 64 → member ws (i * 64 + j) ≡ bit (get_or ws i 0) j
unfolding member
member-at ws i j h = rw (digits_div i h, digits_mod i h)

-- the codes of a word are counted by its bits
pub word_count : (ws : List ℕ) (i : ℕ) → how_many (λ (j : ℕ). member ws (i * 64 + j)) 64 ≡ how_many (bit (get_or ws i 0)) 64
word_count ws i = how_many_ext (λ (j : ℕ). member ws (i * 64 + j)) (bit (get_or ws i 0)) 64 (λ j h. member-at ws i j h)

-- the codes below the end of word i: those below its start, and its own bits
pub count_word : (ws : List ℕ) (i : ℕ) → how_many (member ws) (i * 64 + 64) ≡ how_many (member ws) (i * 64) + how_many (bit (get_or ws i 0)) 64
count_word ws i = how_many_add (member ws) (i * 64) 64 ∙ ap (λ (n : ℕ). how_many (member ws) (i * 64) + n) (word_count ws i)

pub count-words : (ws : List ℕ) → count_of ws
    ≡ how_many (bit (get_or ws 0 0)) 64 + how_many (bit (get_or ws 1 0)) 64 + how_many (bit (get_or ws 2 0)) 64 + how_many (bit (get_or ws 3 0)) 64
unfolding count_of
count-words ws =
    let m = how_many (member ws) in
    let a : m 64 ≡ m 0 + how_many (bit (get_or ws 0 0)) 64 = count_word ws 0 in
    let b : m 128 ≡ m 64 + how_many (bit (get_or ws 1 0)) 64 = count_word ws 1 in
    let c : m 192 ≡ m 128 + how_many (bit (get_or ws 2 0)) 64 = count_word ws 2 in
    let d : m 256 ≡ m 192 + how_many (bit (get_or ws 3 0)) 64 = count_word ws 3 in
    omega (arith, how_many-start (member ws))

-- a code is its word and its bit
pub code-split : (c d : ℕ) → c / 64 ≡ d / 64 → c % 64 ≡ d % 64 → c ≡ d
code-split c d p q = omega (arith, div-add-mod' c 64, div-add-mod' d 64)

-- a set with or without c has c or not, and otherwise the codes that it had
pub member-assigned : (ws : List ℕ) (c : ℕ) (b : Bool) (d : ℕ) → length ws ≡ 4 → c < all_codes
    → member (assigned ws c b) d ≡ cond (eqb d c) b (member ws d)
unfolding member assigned
member-assigned ws c b d hl hc = ⊎_elim same other (eq_or_ne (d / 64) (c / 64))
  where
    w : ℕ
    w = bit_assigned (get_or ws (c / 64) 0) (c % 64) b

    there : Bool → Bool
    there t = cond t b (bit (get_or ws (c / 64) 0) (d % 64))

    same : d / 64 ≡ c / 64 → bit (get_or (set ws (c / 64) w) (d / 64) 0) (d % 64) ≡ cond (eqb d c) b (bit (get_or ws (d / 64) 0) (d % 64))
    same e =
        rw e (rw (get_or-set_same ws (c / 64) w 0 (omega arith)) (bit-assigned (get_or ws (c / 64) 0) (c % 64) b (d % 64) ∙ ap there (⊎_elim
        (λ q. eq-eqb (d % 64) (c % 64) q ∙ sym (eq-eqb d c (code-split d c e q)))
        (λ q. ne_eqb (d % 64) (c % 64) q ∙ sym (ne_eqb d c (λ z. q (ap (λ (n : ℕ). n % 64) z))))
        (eq_or_ne (d % 64) (c % 64)))))

    other : (d / 64 ≡ c / 64 → ⊥) → bit (get_or (set ws (c / 64) w) (d / 64) 0) (d % 64) ≡ cond (eqb d c) b (bit (get_or ws (d / 64) 0) (d % 64))
    other q = rw (get_or-set_other ws (c / 64) (d / 64) w 0 q, ne_eqb d c (λ z. q (ap (λ (n : ℕ). n / 64) z)))

-- a word in which no bit from s up to r is set has no code there
pub word-clear : (ws : List ℕ) (i s r : ℕ) → FirstBit (get_or ws i 0) s r → (k : ℕ) → i * 64 + s ≤ k → k < i * 64 + r → member ws k ≡ false
word-clear ws i s r f k l h =
    let u = f.upto in
    let e : i * 64 + (k - i * 64) ≡ k = omega arith in
    ap (member ws) (sym e) ∙ member-at ws i (k - i * 64) (omega arith) ∙ f.clear (k - i * 64) (omega arith) (omega arith)

pub word-found : (ws : List ℕ) (i s r : ℕ) → FirstBit (get_or ws i 0) s r → r < 64 → member ws (i * 64 + r) ≡ true
word-found ws i s r f h = member-at ws i r h ∙ (f.found h).1

-- a set with or without a code has as many words as before
pub length-assigned : (ws : List ℕ) (c : ℕ) (inside : Bool) → length (assigned ws c inside) ≡ length ws
unfolding assigned
length-assigned ws c inside = simp length-set
