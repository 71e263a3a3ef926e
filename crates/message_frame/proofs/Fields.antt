-- Where the fields of a body stand in its slice, once over any layout.
-- Assumes nothing.
use mathlib.Core.Path.{◌≡◌, refl, sym, ap, ap₂, ◌∙◌}
use Prim.Native.Nat.{ℕ, zero, suc, ◌+◌, ◌-◌, ◌*◌, ◌≤◌, ◌<◌}
use mathlib.Core.List.{List, [], ◌∷◌}
use native.Mathlib.Omega.{arith}
use lib.ListN.{length, get_or, take, drop}
use lib.Seq.{get_or-take, get_or-drop, drop-drop, take-nil, take-take}
use Rattle.message_rules.specs.Read.{Read, ok, require, and_then}
use Rattle.message_rules.specs.Row.{Kind, Layout}
use Rattle.message_rules.specs.Layout.{layout_of, least, rule}
use Rattle.message_rules.specs.Body.{word, words_in}
use Rattle.message_rules.specs.Frame.{body_length}
use Rattle.message_rules.specs.Message.{Reading, as_message, body}
use Rattle.message_rules.proofs.Typed.{slots, slots_are}
use Rattle.message_rules.proofs.Rows.{right}
use Rattle.message_frame.specs.Parts.{body_in}

drop-take : (m n : ℕ) (l : List ℕ) → drop m (take n l) ≡ take (n - m) (drop m l)
drop-take zero n l = let e : n ≡ n - 0 = omega arith in ap (λ (k : ℕ). take k l) e
drop-take (suc m) zero l = let e : 0 ≡ 0 - suc m = omega arith in ap (λ (k : ℕ). take k (drop (suc m) l)) e
drop-take (suc m) (suc n) [] = sym (take-nil (suc n - suc m))
drop-take (suc m) (suc n) (x ∷ l) = let e : n - m ≡ suc n - suc m = omega arith in drop-take m n l ∙ ap (λ (k : ℕ). take k (drop m l)) e

take_slots : (i m n : ℕ) (l : List ℕ) → n ≤ m → take n (slots i m l) ≡ slots i n l
take_slots i m zero l h = refl
take_slots i zero (suc n) l h = absurd (omega arith)
take_slots i (suc m) (suc n) l h = ap (λ (t : List ℕ). get_or l i 0 ∷ t) (take_slots (suc i) m n l (omega arith))

word-drop : (i : ℕ) (s : List ℕ) → word (drop i s) 0 ≡ word s i
word-drop i s =
    let e : i + 0 ≡ i = omega arith in
    ap₂ (λ (x y : ℕ). x * 256 + y) (get_or-drop i s 0 0 ∙ ap (λ (k : ℕ). get_or s k 0) e) (get_or-drop i s 1 0)

two-words : (n i : ℕ) (s : List ℕ) → n ≤ 2 → words_in n (drop i s) ≡ take n (word s i ∷ word s (i + 2) ∷ [])
two-words zero i s h = refl
two-words (suc zero) i s h = ap (λ (w : ℕ). w ∷ []) (word-drop i s)
two-words (suc (suc zero)) i s h =
    ap₂ (λ (v w : ℕ). v ∷ w ∷ []) (word-drop i s) (ap (λ (t : List ℕ). word t 0) (drop-drop 2 i s) ∙ word-drop (i + 2) s)
two-words (suc (suc (suc n))) i s h = absurd (omega arith)

words_front : (n m : ℕ) (g : List ℕ) → 2 * n ≤ m → words_in n (take m g) ≡ words_in n g
words_front zero m g h = refl
words_front (suc n) m g h =
    ap₂ (λ (w : ℕ) (t : List ℕ). w ∷ t)
    (ap₂ (λ (x y : ℕ). x * 256 + y) (get_or-take m g 0 0 (omega arith)) (get_or-take m g 1 0 (omega arith)))
    (ap (words_in n) (drop-take 2 m g) ∙ words_front n (m - 2) (drop 2 g) (omega arith))

-- the single bytes of a body stand from position 3 on, its words behind them, its data behind these
abbrev bytes_at : Kind → List ℕ → List ℕ
bytes_at c s = take (layout_of c).bytes (get_or s 3 0 ∷ get_or s 4 0 ∷ get_or s 5 0 ∷ [])

abbrev words_at : Kind → List ℕ → List ℕ
words_at c s = take (layout_of c).words (word s (3 + (layout_of c).bytes) ∷ word s (3 + (layout_of c).bytes + 2) ∷ [])

abbrev rest_at : Kind → List ℕ → List ℕ
rest_at c s = take (body_length s - 1 - least (layout_of c)) (drop (3 + least (layout_of c)) s)

-- the body of a kind by these positions, as it is read
abbrev pub placed_in : {M : Type 0} → Reading M → Kind → List ℕ → Read M
placed_in t c s = and_then (require (rule c (bytes_at c s)) 7 (ok (body c (bytes_at c s) (words_at c s) (rest_at c s)))) (as_message t)

module _ (c : Kind) (s : List ℕ) (some : 0 < body_length s) (room : body_length s + 3 ≤ length s) (h : least (layout_of c) ≤ body_length s - 1) where
  bytes_in : take (layout_of c).bytes (take (body_length s - 1) (drop 3 s)) ≡ bytes_at c s
  bytes_in =
      let k : ℕ = (layout_of c).bytes in
      take-take k (body_length s - 1) (drop 3 s) (omega arith)
      ∙ sym (take_slots 3 3 k s (right c).bytes_most ∙ slots_are 3 k s (omega arith))

  words-in : words_in (layout_of c).words (drop (layout_of c).bytes (take (body_length s - 1) (drop 3 s))) ≡ words_at c s
  words-in =
      let l : Layout = layout_of c in
      let k : ℕ = l.bytes in
      let n : ℕ = body_length s - 1 in
      ap (words_in l.words) (drop-take k n (drop 3 s) ∙ ap (take (n - k)) (drop-drop k 3 s))
      ∙ words_front l.words (n - k) (drop (3 + k) s) (omega arith)
      ∙ two-words l.words (3 + k) s (right c).words_most

  rest_in : drop (least (layout_of c)) (take (body_length s - 1) (drop 3 s)) ≡ rest_at c s
  rest_in =
      let m : ℕ = least (layout_of c) in
      drop-take m (body_length s - 1) (drop 3 s) ∙ ap (take (body_length s - 1 - m)) (drop-drop m 3 s)

  pub body_placed : {M : Type 0} (t : Reading M) → body_in t c s ≡ placed_in t c s
  body_placed t =
      let f : List ℕ = take (body_length s - 1) (drop 3 s) in
      ap (λ (x : List ℕ). and_then (require (rule c x) 7 (ok (body c x (words_in (layout_of c).words (drop (layout_of c).bytes f)) (drop (least (layout_of c)) f)))) (as_message t)) bytes_in
      ∙ ap₂ (λ (x y : List ℕ). and_then (require (rule c (bytes_at c s)) 7 (ok (body c (bytes_at c s) x y))) (as_message t)) words-in rest_in
