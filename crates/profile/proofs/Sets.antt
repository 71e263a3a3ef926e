-- The set of the profile's codes, found by whole words.
use mathlib.Core.Path.{◌≡◌, refl, ap, ◌∙◌}
use mathlib.Core.Bool.{Bool, true, false, cond, not, ◌&&◌, ◌||◌}
use mathlib.Core.List.{List}
use Prim.Native.Nat.{ℕ, zero, suc, ◌/◌, ◌%◌, ◌<◌}
use native.Mathlib.Omega.{arith}
use lib.ListN.{get_or}
use lib.Bits.{bit_and, bit_or}
use Rattle.codes.specs.Codes.{all_codes, bit, member}
use Rattle.codes.proofs.Bits.{bit-and, bit-or, bit-xor}
use Rattle.settings_rules.specs.Entries.{entry_of}
use Rattle.settings_rules.specs.declared.Settings.{Settings}
use Rattle.profile_rules.specs.Profile.{in_profile, profile_code, profile_codes, codes_from}
use Rattle.profile_rules.proofs.Rising.{rising_ext}
use Rattle.profile.specs.Parts.{profile_word, profile_words}

-- the bits of a word so made
bit_kept : (d r w m : List ℕ) (i j : ℕ)
    → bit (profile_word d r w m i) j ≡ bit (get_or d i 0) j && (bit (get_or r i 0) j && (bit (get_or w i 0) j && not (bit (get_or m i 0) j)))
unfolding profile_word
bit_kept d r w m i j =
    let access = bit_and (bit_and (get_or d i 0) (get_or r i 0)) (get_or w i 0) in
    bit-xor (bit_or access (get_or m i 0)) (get_or m i 0) j
    ∙ rw (bit-or access (get_or m i 0) j, bit-and (bit_and (get_or d i 0) (get_or r i 0)) (get_or w i 0) j, bit-and (get_or d i 0) (get_or r i 0) j)
    (same (bit (get_or d i 0) j) (bit (get_or r i 0) j) (bit (get_or w i 0) j) (bit (get_or m i 0) j))
  where
    same : (p q r t : Bool) → cond t (not (((p && q) && r) || t)) (((p && q) && r) || t) ≡ p && (q && (r && not t))
    same true true true true = refl
    same true true true false = refl
    same true true false true = refl
    same true true false false = refl
    same true false r true = refl
    same true false r false = refl
    same false q r true = refl
    same false q r false = refl

-- the words one by one
word-at : (d r w m : List ℕ) (i : ℕ) → i < 4 → get_or (profile_words d r w m) i 0 ≡ profile_word d r w m i
unfolding profile_words
word-at d r w m zero h = refl
word-at d r w m (suc zero) h = refl
word-at d r w m (suc (suc zero)) h = refl
word-at d r w m (suc (suc (suc zero))) h = refl
word-at d r w m (suc (suc (suc (suc i)))) h = absurd (omega arith)

-- the set of the words has the profile's codes
set-member : (s : Settings) (c : ℕ) → c < all_codes → member (profile_words s.declared s.readable s.writable s.momentary) c ≡ profile_code s c
unfolding member profile_code in_profile entry_of
set-member s c h =
    ap (λ (w : ℕ). bit w (c % 64)) (word-at s.declared s.readable s.writable s.momentary (c / 64) (omega arith))
    ∙ bit_kept s.declared s.readable s.writable s.momentary (c / 64) (c % 64)

pub set-codes : (s : Settings) (ws : List ℕ) → ws ≡ profile_words s.declared s.readable s.writable s.momentary → codes_from (member ws) 0 ≡ profile_codes s
set-codes s ws e = rising_ext (member ws) (profile_code s) all_codes 0 (λ i l h. ap (λ (v : List ℕ). member v i) e ∙ set-member s i (omega arith))
