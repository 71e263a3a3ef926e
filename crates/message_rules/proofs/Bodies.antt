-- The round trip of bodies, once over any layout.
-- Assumes nothing.
use mathlib.Core.Path.{◌≡◌, refl, sym, ap, ap₂, ◌∙◌, subst}
use mathlib.Core.Bool.{Bool, true, ◌&&◌}
use mathlib.Core.List.{List, [], ◌∷◌, ◌++◌}
use Prim.Native.Nat.{ℕ, zero, suc, ◌+◌, ◌*◌, ◌/◌, ◌%◌, ◌≤◌}
use native.Mathlib.Omega.{arith}
use lib.Dec.{leb}
use lib.ListN.{length, take, drop, length-append, length-drop, take-append-drop}
use lib.Seq.{take_at, drop_at, drop-drop, length-take-le}
use borrow.Author.Tests.{le-leb, leb-true}
use Rattle.checksum.specs.Bytes as byte
use Rattle.checksum.specs.Bytes.{Bytes}
use Rattle.checksum.proofs.Bytes.{bytes_take, bytes_drop}
use Rattle.message_rules.specs.declared.Direction.{Direction}
use Rattle.message_rules.specs.Row.{Layout, Kind, Row, Known, Unknown}
use Rattle.message_rules.specs.Read.{ok, require}
use Rattle.message_rules.specs.Layout.{entry, direction_of, layout_of, least, longest, rule, row_of}
use Rattle.message_rules.specs.Body.{Body, fields, behind, encode_body, words_in, split, length_allowed, by_row, decode_body, Words, none, more, ValidBody}
use Rattle.message_rules.proofs.Tests.{require-ok, and_true}
use Rattle.message_rules.proofs.Rows.{right, found}

-- ---- words

length_fields : (ws : List ℕ) → length (fields ws) ≡ 2 * length ws
length_fields [] = refl
length_fields (w ∷ ws) = omega (arith, length_fields ws)

words_back : (ws t : List ℕ) → words_in (length ws) (fields ws ++ t) ≡ ws
words_back [] t = refl
words_back (w ∷ ws) t =
    let e : w / 256 * 256 + w % 256 ≡ w = omega arith in
    ap₂ (λ (x : ℕ) (xs : List ℕ). x ∷ xs) e (words_back ws t)

length-words : (n : ℕ) (f : List ℕ) → length (words_in n f) ≡ n
length-words zero f = refl
length-words (suc n) f = ap suc (length-words n (drop 2 f))

fields_back : (n : ℕ) {f : List ℕ} → Bytes f → 2 * n ≤ length f → fields (words_in n f) ++ drop (2 * n) f ≡ f
fields_back zero b h = refl
fields_back (suc n) byte.none h = absurd (omega arith)
fields_back (suc n) (byte.more p byte.none) h = absurd (omega arith)
fields_back (suc n) (byte.more {b = x} p (byte.more {b = y} {s = f} q r)) h =
    let two : 2 * suc n ≡ suc (suc (2 * n)) = omega arith in
    let high : (x * 256 + y) / 256 ≡ x = omega arith in
    let low : (x * 256 + y) % 256 ≡ y = omega arith in
    ap (λ (k : ℕ). fields (words_in (suc n) (x ∷ y ∷ f)) ++ drop k (x ∷ y ∷ f)) two
    ∙ ap₂ (λ (u v : ℕ). u ∷ v ∷ (fields (words_in n f) ++ drop (2 * n) f)) high low
    ∙ ap (λ (t : List ℕ). x ∷ y ∷ t) (fields_back n r (omega arith))

words-fit : (n : ℕ) {f : List ℕ} → Bytes f → 2 * n ≤ length f → Words (words_in n f)
words-fit zero b h = none
words-fit (suc n) byte.none h = absurd (omega arith)
words-fit (suc n) (byte.more p byte.none) h = absurd (omega arith)
words-fit (suc n) (byte.more {b = x} p (byte.more {b = y} q r)) h = more {w = x * 256 + y} (omega arith) (words-fit n r (omega arith))

-- ---- what is encoded is decoded

length-behind : (b : Body) → length (behind b) ≡ length b.bytes + 2 * length b.words + length b.rest
length-behind b = simp (length-append, length_fields) (omega arith)

module _ (b : Body) (v : ValidBody b) where
  split-back : split b.kind (layout_of b.kind) (behind b) ≡ b
  split-back =
      let l : Layout = layout_of b.kind in
      let tail : List ℕ = fields b.words ++ b.rest in
      let e1 : take l.bytes (behind b) ≡ b.bytes = take_at b.bytes tail l.bytes v.bytes_count in
      let e2 : drop l.bytes (behind b) ≡ tail = drop_at b.bytes tail l.bytes v.bytes_count in
      let e3 : words_in l.words tail ≡ b.words = ap (λ (n : ℕ). words_in n tail) (sym v.words_count) ∙ words_back b.words b.rest in
      let n : length (fields b.words) ≡ 2 * l.words = length_fields b.words ∙ ap (λ (k : ℕ). 2 * k) v.words_count in
      let e4 : drop (least l) (behind b) ≡ b.rest = sym (drop-drop (2 * l.words) l.bytes (behind b)) ∙ ap (drop (2 * l.words)) e2 ∙ drop_at (fields b.words) b.rest (2 * l.words) n in
      ap₂ (λ (x y : List ℕ). record { kind = b.kind; bytes = x; words = words_in l.words y; rest = drop (least l) (behind b) }) e1 e2
      ∙ ap₂ (λ (x y : List ℕ). record { kind = b.kind; bytes = b.bytes; words = x; rest = y }) e3 e4

  pub body_decoded : decode_body (direction_of b.kind) (encode_body b) ≡ ok b
  unfolding decode_body by_row
  body_decoded =
      let l : Layout = layout_of b.kind in
      let n : ℕ = length (behind b) in
      let e0 : least l ≤ n = omega (arith, length-behind b, v.bytes_count, v.words_count) in
      let e1 : leb (least l) n ≡ true = le-leb (least l) n (omega (arith, length-behind b, v.bytes_count, v.words_count)) in
      let e2 : leb n (least l + l.most) ≡ true = le-leb n (least l + l.most) (omega (arith, length-behind b, v.bytes_count, v.words_count, v.rest_count)) in
      let e3 : rule b.kind (take l.bytes (behind b)) ≡ true = ap (λ (x : Body). rule b.kind x.bytes) split-back ∙ v.ruled in
      ap (λ (r : Row). by_row r (behind b)) (right b.kind).found
      ∙ ap₂ (λ (x y : Bool). require (x && y && rule b.kind (take l.bytes (behind b))) 7 (ok (split b.kind l (behind b)))) e1 e2
      ∙ ap₂ (λ (x : Bool) (y : Body). require x 7 (ok y)) e3 split-back

  pub body-short : length (encode_body b) ≤ longest (direction_of b.kind)
  body-short = omega (arith, length-behind b, v.bytes_count, v.words_count, v.rest_count, (right b.kind).short)

-- ---- what is decoded was encoded so

pub record Decoded (d : Direction) (s : List ℕ) (b : Body) : Type 0 where
  pub way : d ≡ direction_of b.kind
  pub valid : ValidBody b
  pub encoded : encode_body b ≡ s

module _ (c : Kind) {f : List ℕ} (y : Bytes f) (b : Body) where
  row_decoded : by_row (Known c (layout_of c)) f ≡ ok b → ValidBody b × ((entry b.kind).number ≡ (entry c).number) × (direction_of b.kind ≡ direction_of c) × (behind b ≡ f)
  unfolding by_row
  row_decoded e =
      let l : Layout = layout_of c in
      let r = require-ok (length_allowed l (length f) && rule c (take l.bytes f)) 7 (ok (split c l f)) b e in
      let t = and_true (length_allowed l (length f)) (rule c (take l.bytes f)) r.0 in
      let u = and_true (leb (least l) (length f)) (leb (length f) (least l + l.most)) t.0 in
      let low : least l ≤ length f = leb-true (least l) (length f) u.0 in
      let high : length f ≤ least l + l.most = leb-true (length f) (least l + l.most) u.1 in
      let same : split c l f ≡ b = cc r.1 in
      let g : List ℕ = drop l.bytes f in
      let room : 2 * l.words ≤ length g = omega (arith, length-drop l.bytes f) in
      let whole : behind (split c l f) ≡ f =
      ap (λ (x : List ℕ). take l.bytes f ++ (fields (words_in l.words g) ++ x)) (sym (drop-drop (2 * l.words) l.bytes f))
      ∙ ap (λ (x : List ℕ). take l.bytes f ++ x) (fields_back l.words (bytes_drop l.bytes y) room)
      ∙ take-append-drop l.bytes f in
      let good : ValidBody (split c l f) = record {
        bytes_count = length-take-le l.bytes f (omega arith);
        words_count = length-words l.words g;
        rest_count = omega (arith, length-drop (least l) f);
        bytes_fit = bytes_take l.bytes y;
        words_fit = words-fit l.words (bytes_drop l.bytes y) room;
        rest_fit = bytes_drop (least l) y;
        ruled = t.1;
      } in
      (subst ValidBody same good, ap (λ (x : Body). (entry x.kind).number) (sym same), ap (λ (x : Body). direction_of x.kind) (sym same), ap behind (sym same) ∙ whole)

pub decoded : (d : Direction) {s : List ℕ} (b : Body) → Bytes s → decode_body d s ≡ ok b → Decoded d s b
unfolding decode_body by_row
decoded d b byte.none e = let z : ◌≡◌ {A = ℕ} 0 1 = cc in absurd (omega arith)
decoded d b (byte.more {b = k} {s = f} h y) e = go (row_of d k) refl e
  where
    go : (r : Row) → row_of d k ≡ r → by_row r f ≡ ok b → Decoded d (k ∷ f) b
    go Unknown p q = let z : ◌≡◌ {A = ℕ} 0 1 = cc in absurd (omega arith)
    go (Known c l) p q =
        let i = found d k c l p in
        let w = row_decoded c y b (ap (λ (x : Layout). by_row (Known c x) f) (sym i.layout) ∙ q) in
        record {
          way = i.way ∙ sym w.2;
          valid = w.0;
          encoded = ap₂ (λ (n : ℕ) (t : List ℕ). n ∷ t) (w.1 ∙ sym i.number) w.3;
        }
