-- How the parts in which the code takes the ordered tests make up `decode`.
-- Assumes nothing.
use mathlib.Core.Path.{◌≡◌, refl, sym, ap, ap₂, ◌∙◌}
use mathlib.Core.Bool.{Bool, true, false, cond, ◌&&◌}
use mathlib.Core.List.{List, [], ◌∷◌, ◌++◌}
use Prim.Native.Nat.{ℕ, zero, suc, ◌+◌, ◌-◌, ◌≤◌, ◌<◌}
use native.Mathlib.Omega.{arith}
use lib.Dec.{eqb, leb, ltb, leb-suc-suc}
use lib.ListN.{length, get_or, take, drop, length-take, length-drop, get_or-eq_default}
use lib.Seq.{drop-cons, take_all, take-suc}
use lib.Bits.{bit_xor, xor_zero_r}
use borrow.Author.Tests.{ltb-true, ltb-false, leb-true, lt-ltb, eq-eqb}
use Rattle.checksum.specs.Xor.{xor_all}
use Rattle.checksum.proofs.Laws.{xor_all_nil, xor_all_cons, xor_all-append, xor_all-closed, xor_all_closes}
use Rattle.message_rules.specs.declared.Address.{Address}
use Rattle.message_rules.specs.declared.Direction.{Direction}
use Rattle.message_rules.specs.Read.{Read, ok, refused, unless, require, after, and_then}
use Rattle.message_rules.specs.Row.{Kind, Layout, Row, Known, Unknown}
use Rattle.message_rules.specs.Layout.{layout_of, least, longest, rule, row_of}
use Rattle.message_rules.specs.Body.{Body, split, length_allowed, by_row, decode_body, empty_answer}
use Rattle.message_rules.specs.Frame.{plain_row, plain, length_byte, fits, body_length, body_of, agrees, frame_answer}
use Rattle.message_rules.specs.Message.{Reading, as_message, body_read, decode}
use Rattle.message_rules.proofs.Frames.{fits-inside}
use Rattle.message_rules.proofs.Tests.{and_true, cond_zero}
use Rattle.message_frame.specs.declared.row.Shape.{Shape}
use Rattle.message_frame.specs.Shape.{shape_of, length_right}
use Rattle.message_frame.specs.Parts.{head_answer, tail_answer, body_in}
use Rattle.message_frame.specs.Meaning.{Readable}

-- ---- each part, as the code comes to it

module _ (d : Direction) (a : Address) (s : List ℕ) where
  -- what a head without a refusal says
  pub record Headed : Type 0 where
    pub long : 3 ≤ length s
    pub inside : body_length s + 3 ≤ length s
    pub short : body_length s ≤ longest d

  pub headed : head_answer d a s ≡ 0 → Headed
  unfolding head_answer
  headed e =
      let l : Bool = leb (body_length s) (longest d) in
      let f : Bool = fits d (body_length s + 3) (length s) in
      let t1 = cond_zero (leb 3 (length s)) (unless (eqb (get_or s 0 0) a.first) 3 (unless (l && f) 4 0)) 2 (omega arith) e in
      let t2 = cond_zero (eqb (get_or s 0 0) a.first) (unless (l && f) 4 0) 3 (omega arith) t1.1 in
      let t3 = cond_zero (l && f) 0 4 (omega arith) t2.1 in
      let g = and_true l f t3.0 in
      record { long = leb-true 3 (length s) t1.0; inside = fits-inside d (body_length s + 3) (length s) g.1; short = leb-true (body_length s) (longest d) g.0 }

module _ (a : Address) (p : Bool) (s : List ℕ) where
  pub tail_sum : get_or s 1 0 ≡ length_byte p (body_length s) → tail_answer a p s ≡ unless (eqb (xor_all a.seed (take (body_length s + 3) s)) 0) 5 0
  unfolding tail_answer
  tail_sum h = rw (eq-eqb (get_or s 1 0) (length_byte p (body_length s)) h)

-- the sum r that the code takes, of all bytes but the last: the last byte is r just where the sum of all is 0
module _ (seed r n : ℕ) (s : List ℕ) (e : n ≡ body_length s) (q : r ≡ xor_all seed (take (n + 2) s)) where
  -- where the slice ends before its last byte, that byte counts as 0
  whole_sum : xor_all seed (take (body_length s + 3) s) ≡ xor_all seed (take (n + 2) s ++ (get_or s (n + 2) 0 ∷ []))
  whole_sum = go (ltb (n + 2) (length s)) refl
    where
      go : (b : Bool) → ltb (n + 2) (length s) ≡ b → xor_all seed (take (body_length s + 3) s) ≡ xor_all seed (take (n + 2) s ++ (get_or s (n + 2) 0 ∷ []))
      go true h =
          let k : body_length s + 3 ≡ suc (n + 2) = omega arith in
          ap (xor_all seed) (ap (λ (j : ℕ). take j s) k ∙ take-suc s (n + 2) 0 (ltb-true (n + 2) (length s) h))
      go false h =
          let short = ltb-false (n + 2) (length s) h in
          let v : ℕ = xor_all seed (take (n + 2) s) in
          ap (xor_all seed) (take_all (body_length s + 3) s (omega arith) ∙ sym (take_all (n + 2) s short))
          ∙ sym (xor_all-append seed (take (n + 2) s) (get_or s (n + 2) 0 ∷ []) ∙ ap (λ (b : ℕ). xor_all v (b ∷ [])) (get_or-eq_default s 0 {n = n + 2} short) ∙ xor_all_cons v 0 [] ∙ xor_all_nil (bit_xor v 0) ∙ xor_zero_r v)

  pub sum_right : r ≡ get_or s (n + 2) 0 → xor_all seed (take (body_length s + 3) s) ≡ 0
  sum_right h = whole_sum ∙ ap (λ (b : ℕ). xor_all seed (take (n + 2) s ++ (b ∷ []))) (sym h ∙ q) ∙ xor_all-closed seed (take (n + 2) s)

  pub sum_wrong : (r ≡ get_or s (n + 2) 0 → ⊥) → xor_all seed (take (body_length s + 3) s) ≡ 0 → ⊥
  sum_wrong h z = h (q ∙ sym (xor_all_closes seed (take (n + 2) s) (get_or s (n + 2) 0) (sym whole_sum ∙ z)))

-- ---- the frame's answer from its parts

-- the first answer, unless it is 0
abbrev or_else : ℕ → ℕ → ℕ
or_else zero k = k
or_else (suc j) k = suc j

first_stands : (j k : ℕ) → (j ≡ 0 → ⊥) → or_else j k ≡ j
first_stands zero k h = absurd (h refl)
first_stands (suc j) k h = refl

first-zero : (j k : ℕ) → or_else j k ≡ 0 → j ≡ 0
first-zero zero k e = refl
first-zero (suc j) k e = absurd (omega arith)

second_stands : (j k : ℕ) → j ≡ 0 → or_else j k ≡ k
second_stands zero k h = refl
second_stands (suc j) k h = absurd (omega arith)

parts : (t u v w x : Bool) → unless t 2 (unless u 3 (unless (v && w) 4 (unless x 5 0))) ≡ or_else (unless t 2 (unless u 3 (unless v 4 0))) (unless w 4 (unless x 5 0))
parts true true true w x = refl
parts true true false w x = refl
parts true false v w x = refl
parts false u v w x = refl

frame_parts : (d : Direction) (a : Address) (s : List ℕ) → frame_answer d a s ≡ or_else (head_answer d a s) (tail_answer a (plain d (body_of s)) s)
unfolding frame_answer agrees head_answer tail_answer
frame_parts d a s =
    parts (leb 3 (length s)) (eqb (get_or s 0 0) a.first) (leb (body_length s) (longest d) && fits d (body_length s + 3) (length s))
    (eqb (get_or s 1 0) (length_byte (plain d (body_of s)) (body_length s))) (eqb (xor_all a.seed (take (body_length s + 3) s)) 0)

-- what a frame without a refusal says
pub framed : (d : Direction) (a : Address) (s : List ℕ) → frame_answer d a s ≡ 0 → Headed d a s
framed d a s e = headed d a s (first-zero (head_answer d a s) (tail_answer a (plain d (body_of s)) s) (sym (frame_parts d a s) ∙ e))

-- the frame's answer where its head is refused, and where it is not
pub frame_head : (d : Direction) (a : Address) (s : List ℕ) → (head_answer d a s ≡ 0 → ⊥) → frame_answer d a s ≡ head_answer d a s
frame_head d a s h = frame_parts d a s ∙ first_stands (head_answer d a s) _ h

pub frame_tail : (d : Direction) (a : Address) (s : List ℕ) → head_answer d a s ≡ 0 → frame_answer d a s ≡ tail_answer a (plain d (body_of s)) s
frame_tail d a s e = frame_parts d a s ∙ second_stands (head_answer d a s) _ e

after-refused : {M : Type 0} (k : ℕ) (r : Read M) → (k ≡ 0 → ⊥) → after k r ≡ refused k
after-refused zero r h = absurd (h refl)
after-refused (suc k) r h = refl

-- the front of a body is its command number
front : (n : ℕ) (s : List ℕ) → 0 < n → 2 < length s → take n (drop 2 s) ≡ get_or s 2 0 ∷ take (n - 1) (drop 3 s)
front n s h l =
    let one : n ≡ suc (n - 1) = omega arith in
    ap (λ (k : ℕ). take k (drop 2 s)) one ∙ ap (take (suc (n - 1))) (drop-cons s 2 0 l)

-- the form of the length byte, by the body's first byte: an empty body has none
module _ (d : Direction) (s : List ℕ) (long : 2 < length s) where
  plain_empty : body_length s ≡ 0 → plain d (body_of s) ≡ false
  unfolding plain
  plain_empty z = ap (λ (n : ℕ). plain d (take n (drop 2 s))) z

  plain-number : 0 < body_length s → plain d (body_of s) ≡ plain_row (row_of d (get_or s 2 0))
  unfolding plain
  plain-number some = ap (plain d) (front (body_length s) s some long)

  by_number : (n : ℕ) → body_length s ≡ n → plain d (body_of s) ≡ plain_row (row_of d (get_or s 2 0)) && ltb 0 n
  by_number zero z = plain_empty z ∙ none (plain_row (row_of d (get_or s 2 0)))
    where
      none : (p : Bool) → false ≡ p && false
      none true = refl
      none false = refl
  by_number (suc n) z = plain-number (omega arith) ∙ some (plain_row (row_of d (get_or s 2 0))) ∙ ap (λ (b : Bool). plain_row (row_of d (get_or s 2 0)) && b) (sym (lt-ltb 0 (suc n) (omega arith)))
    where
      some : (p : Bool) → p ≡ p && true
      some true = refl
      some false = refl

  pub plain_row_lem : plain d (body_of s) ≡ plain_row (row_of d (get_or s 2 0)) && ltb 0 (body_length s)
  plain_row_lem = by_number (body_length s) refl

-- the frame's answer where its head is right: the tail's, by the form of the number's row
pub frame_form : (d : Direction) (a : Address) (s : List ℕ) {form p : Bool} {n r : ℕ} → head_answer d a s ≡ 0 → form ≡ plain_row (row_of d (get_or s 2 0)) → n ≡ body_length s → p ≡ form && ltb 0 n → r ≡ tail_answer a p s
    → frame_answer d a s ≡ r
frame_form d a s e f h q g =
    frame_tail d a s e
    ∙ ap (λ (b : Bool). tail_answer a b s) (plain_row_lem d s (omega (arith, (headed d a s e).long)) ∙ sym (q ∙ ap₂ (λ (b : Bool) (m : ℕ). b && ltb 0 m) f h))
    ∙ sym g

-- ---- `decode`, as the code comes to it

-- a length behind the command number, and one with it
behind-number : (l : Layout) (n : ℕ) → 0 < n → length_allowed l (n - 1) ≡ length_right (shape_of l) n
behind-number l zero h = absurd (omega arith)
behind-number l (suc n) h =
    let e : suc n - 1 ≡ n = omega arith in
    let most : suc (least l + l.most) ≡ suc (least l) + l.most = omega arith in
    ap (length_allowed l) e
    ∙ ap₂ (λ (x y : Bool). x && y) (sym (leb-suc-suc (least l) n)) (sym (leb-suc-suc n (least l + l.most)) ∙ ap (leb (suc n)) most)

module _ {M : Type 0} (t : Reading M) (a : Address) (s : List ℕ) where
  pub decode-frame : (frame_answer t.direction a s ≡ 0 → ⊥) → decode t a s ≡ refused (frame_answer t.direction a s)
  unfolding decode body_read
  decode-frame h = ap (λ (r : Read Body). and_then r (as_message t)) (after-refused (frame_answer t.direction a s) (decode_body t.direction (body_of s)) h)

  abbrev behind : List ℕ
  behind = take (body_length s - 1) (drop 3 s)

  by_length : (x y : Bool) (b : Body) → and_then (require (x && y) 7 (ok b)) (as_message t) ≡ cond x (and_then (require y 7 (ok b)) (as_message t)) (refused 7)
  by_length true y b = refl
  by_length false y b = refl

  module _ (e : frame_answer t.direction a s ≡ 0) where
    -- a frame that is right leaves it to the body
    decode-passed : (body : List ℕ) → body_of s ≡ body → decode t a s ≡ and_then (decode_body t.direction body) (as_message t)
    unfolding decode body_read
    decode-passed body b = ap₂ (λ (k : ℕ) (l : List ℕ). and_then (after k (decode_body t.direction l)) (as_message t)) e b

    pub decode-empty : body_length s ≡ 0 → decode t a s ≡ refused (empty_answer t.direction)
    unfolding decode_body
    decode-empty z = decode-passed [] (ap (λ (n : ℕ). take n (drop 2 s)) z)

    module _ (some : 0 < body_length s) where
      decode-row : (r : Row) → row_of t.direction (get_or s 2 0) ≡ r → decode t a s ≡ and_then (by_row r behind) (as_message t)
      unfolding decode_body
      decode-row r q =
          decode-passed (get_or s 2 0 ∷ behind) (front (body_length s) s some (omega (arith, (framed t.direction a s e).long)))
          ∙ ap (λ (x : Row). and_then (by_row x behind) (as_message t)) q

      pub decode-unknown : row_of t.direction (get_or s 2 0) ≡ Unknown → decode t a s ≡ refused 6
      unfolding by_row
      decode-unknown q = decode-row Unknown q

      module _ (c : Kind) (q : row_of t.direction (get_or s 2 0) ≡ Known c (layout_of c)) where
        length-behind : length behind ≡ body_length s - 1
        length-behind = let h = (framed t.direction a s e).inside in simp (length-take, length-drop) (omega arith)

        decode-known : decode t a s ≡ cond (length_right (shape_of (layout_of c)) (body_length s)) (body_in t c s) (refused 7)
        unfolding by_row
        decode-known =
            decode-row (Known c (layout_of c)) q
            ∙ ap (λ (n : ℕ). and_then (require (length_allowed (layout_of c) n && rule c (take (layout_of c).bytes behind)) 7 (ok (split c (layout_of c) behind))) (as_message t)) length-behind
            ∙ by_length (length_allowed (layout_of c) (body_length s - 1)) (rule c (take (layout_of c).bytes behind)) (split c (layout_of c) behind)
            ∙ ap (λ (b : Bool). cond b (body_in t c s) (refused 7)) (behind-number (layout_of c) (body_length s) some)

        pub decode-length : length_right (shape_of (layout_of c)) (body_length s) ≡ false → decode t a s ≡ refused 7
        decode-length w = decode-known ∙ ap (λ (b : Bool). cond b (body_in t c s) (refused 7)) w

        pub decode-body : length_right (shape_of (layout_of c)) (body_length s) ≡ true → decode t a s ≡ body_in t c s
        decode-body w = decode-known ∙ ap (λ (b : Bool). cond b (body_in t c s) (refused 7)) w

        -- all that reading the fields asks for
        pub readable : length_right (shape_of (layout_of c)) (body_length s) ≡ true → Readable c s
        readable w =
            let l = framed t.direction a s e in
            let h : Shape = shape_of (layout_of c) in
            let enough = leb-true h.least (body_length s) (and_true (leb h.least (body_length s)) (leb (body_length s) (h.least + h.«data»)) w).0 in
            (omega (arith, l.long), l.inside, some, omega (arith, enough, some))
