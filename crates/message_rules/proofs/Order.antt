-- Each refusal comes in the papers' order; and the null message, which is exactly what reads as 12.
-- Assumes nothing.
use mathlib.Core.Path.{◌≡◌, refl, sym, ap, ap₂, ◌∙◌}
use mathlib.Core.Logic.{inl, inr}
use mathlib.Core.Bool.{Bool, true, false, ◌&&◌}
use mathlib.Core.List.{List, [], ◌∷◌, ◌++◌}
use Prim.Native.Nat.{ℕ, ◌+◌, ◌<◌}
use native.Mathlib.Omega.{arith}
use lib.ListN.{length, get_or, take}
use lib.Dec.{leb, eqb}
use Rattle.checksum.specs.Xor.{xor_all}
use Rattle.message_rules.specs.declared.Address.{Address}
use Rattle.message_rules.specs.declared.Direction.{Direction}
use Rattle.message_rules.specs.declared.Direction.TheVariants as way
use Rattle.message_rules.specs.Row.{Layout, Kind, Row, Known, Unknown}
use Rattle.message_rules.specs.Read.{Read, ok, refused, answer_of, unless, require, after, and_then}
use Rattle.message_rules.specs.Layout.{direction_of, rule, row_of}
use Rattle.message_rules.specs.Body.{Body, by_row, decode_body, split, length_allowed}
use Rattle.message_rules.specs.Frame.{plain, frame, agrees, frame_answer, body_length, body_of, message_in}
use Rattle.message_rules.specs.Message.{Reading, as_message, requests, replies, body_read, decode, null, to_host}
use Rattle.message_rules.specs.Theorems.{Ordered, Refusal, RefusalRange, NullRead, not_null, known, command_known, fits_row, fields_right, in_order}
use Rattle.message_rules.proofs.Rows.{found}
use Rattle.message_rules.proofs.Frames.{framed, body_back, frame_passes}
use Rattle.message_rules.proofs.Typed.{IsOk, Lawful, requests_lawful, replies_lawful}
use Rattle.message_rules.proofs.RoundTrip.{fits-behind}

-- a reading has the answer n, and as a refusal it is neither 0 nor 1
abbrev Judged : {M : Type 0} → Read M → ℕ → Type 0
Judged (ok m) n = n ≡ 0
Judged (refused k) n = (k ≡ n) × (1 < k)

answer-judged : {M : Type 0} (r : Read M) (n : ℕ) → Judged r n → answer_of r ≡ n
answer-judged (ok m) n j = sym j
answer-judged (refused k) n j = j.0

ok-judged : {M : Type 0} (r : Read M) → IsOk r → Judged r 0
ok-judged (ok m) h = refl
ok-judged (refused k) h = absurd h

-- the tests of the frame go first
frame-judged : {M N : Type 0} (r : Read M) (f : M → Read N) (n : ℕ) → Judged (and_then r f) n → (t u v w : Bool)
    → Judged (and_then (after (unless t 2 (unless u 3 (unless v 4 (unless w 5 0)))) r) f) (unless t 2 (unless u 3 (unless v 4 (unless w 5 n))))
frame-judged r f n j true true true true = j
frame-judged r f n j true true true false = (refl, omega arith)
frame-judged r f n j true true false w = (refl, omega arith)
frame-judged r f n j true false v w = (refl, omega arith)
frame-judged r f n j false u v w = (refl, omega arith)

abbrev body_order : Direction → List ℕ → ℕ
body_order d l = unless (not_null d l) 12 (unless (command_known d l) 6 (unless (fields_right d l) 7 0))

some_command : (d : Direction) (k : ℕ) (f : List ℕ) → not_null d (k ∷ f) ≡ true
some_command way.Request k f = refl
some_command way.Reply k f = refl

-- the numbers of the tests in their order
low : (d : Direction) (k : ℕ) → 1 < k → k < 8 → Refusal d k
low way.Request k g h = (g, h)
low way.Reply k g h = (g, omega arith, inl h)

command_number : (d : Direction) (k : ℕ) (x y : Bool) → 1 < k → k ≡ unless x 6 (unless y 7 0) → Refusal d k
command_number d k true true g e = absurd (omega arith)
command_number d k true false g e = low d k g (omega arith)
command_number d k false y g e = low d k g (omega arith)

body-number : (d : Direction) (l : List ℕ) (k : ℕ) → 1 < k → k ≡ body_order d l → Refusal d k
body-number way.Request l k g e = command_number way.Request k (command_known way.Request l) (fields_right way.Request l) g e
body-number way.Reply [] k g e = (g, omega arith, inr e)
body-number way.Reply (x ∷ f) k g e = command_number way.Reply k (command_known way.Reply (x ∷ f)) (fields_right way.Reply (x ∷ f)) g e

frame-number : (d : Direction) (l : List ℕ) (k : ℕ) (t u v w : Bool) → 1 < k → k ≡ unless t 2 (unless u 3 (unless v 4 (unless w 5 (body_order d l)))) → Refusal d k
frame-number d l k true true true true g e = body-number d l k g e
frame-number d l k true true true false g e = low d k g (omega arith)
frame-number d l k true true false w g e = low d k g (omega arith)
frame-number d l k true false v w g e = low d k g (omega arith)
frame-number d l k false u v w g e = low d k g (omega arith)

module _ {M : Type 0} (t : Reading M) (law : Lawful t) where
  -- then those of the body
  body-judged : (d : Direction) → d ≡ t.direction → (l : List ℕ) → Judged (and_then (decode_body d l) (as_message t)) (body_order d l)
  unfolding decode_body by_row
  body-judged way.Request e [] = (refl, omega arith)
  body-judged way.Reply e [] = (refl, omega arith)
  body-judged d e (k ∷ f) = rw (some_command d k f) (go (row_of d k) refl)
    where
      allowed : (c : Kind) (l : Layout) → direction_of c ≡ t.direction → (b : Bool) → Judged (and_then (require b 7 (ok (split c l f))) (as_message t)) (unless b 7 0)
      allowed c l h true = let x : Body = split c l f in ok-judged (as_message t x) (law.reads c x.bytes x.words x.rest h)
      allowed c l h false = (refl, omega arith)

      go : (r : Row) → row_of d k ≡ r → Judged (and_then (by_row r f) (as_message t)) (unless (known r) 6 (unless (fits_row r f) 7 0))
      go Unknown p = (refl, omega arith)
      go (Known c l) p = allowed c l (sym (found d k c l p).way ∙ e) (length_allowed l (length f) && rule c (take l.bytes f))

  judged : (a : Address) (s : List ℕ) → Judged (decode t a s) (in_order t.direction a s)
  unfolding decode body_read frame_answer
  judged a s =
      let d : Direction = t.direction in
      frame-judged (decode_body d (body_of s)) (as_message t) (body_order d (body_of s)) (body-judged d refl (body_of s))
      (leb 3 (length s)) (eqb (get_or s 0 0) a.first) (agrees d s) (eqb (xor_all a.seed (take (body_length s + 3) s)) 0)

  ordered : Ordered t
  ordered a s = answer-judged (decode t a s) (in_order t.direction a s) (judged a s)

  range : RefusalRange t
  range a s k e = go (decode t a s) (judged a s) e
    where
      go : (r : Read M) → Judged r (in_order t.direction a s) → r ≡ refused k → Refusal t.direction k
      go (ok m) j q = let z : ◌≡◌ {A = ℕ} 0 1 = cc in absurd (omega arith)
      go (refused i) j q =
          let same : i ≡ k = cc in
          frame-number t.direction (body_of s) k (leb 3 (length s)) (eqb (get_or s 0 0) a.first) (agrees t.direction s) (eqb (xor_all a.seed (take (body_length s + 3) s)) 0)
          (omega (arith, j.1)) (sym same ∙ j.0)

pub requests_ordered : Ordered requests
requests_ordered = ordered requests requests_lawful

pub replies_ordered : Ordered replies
replies_ordered = ordered replies replies_lawful

pub requests_range : RefusalRange requests
requests_range = range requests requests_lawful

pub replies_range : RefusalRange replies
replies_range = range replies replies_lawful

-- ---- the null message

null-there : (a : Address) (rest : List ℕ) → decode replies a (null a ++ rest) ≡ refused 12
unfolding body_read decode decode_body
null-there a rest =
    ap₂ (λ (k : ℕ) (l : List ℕ). and_then (after k (decode_body way.Reply l)) (as_message replies))
    (frame_passes way.Reply a [] rest (omega arith) (fits-behind way.Reply 3 rest tt)) (body_back way.Reply a [] rest (omega arith))

-- only an empty body comes to 12
only_null : (t u v w : Bool) (l : List ℕ) → unless t 2 (unless u 3 (unless v 4 (unless w 5 (body_order way.Reply l)))) ≡ 12
    → (◌≡◌ {A = ℕ} (unless t 2 (unless u 3 (unless v 4 (unless w 5 0)))) 0) × (l ≡ [])
only_null true true true true [] e = (refl, refl)
only_null true true true true (k ∷ f) e = absurd (go (command_known way.Reply (k ∷ f)) (fields_right way.Reply (k ∷ f)) e)
  where
    go : (x y : Bool) → unless x 6 (unless y 7 0) ≡ 12 → ⊥
    go true true q = omega arith
    go true false q = omega arith
    go false y q = omega arith
only_null true true true false l e = absurd (omega arith)
only_null true true false w l e = absurd (omega arith)
only_null true false v w l e = absurd (omega arith)
only_null false u v w l e = absurd (omega arith)

null-back : (a : Address) (s : List ℕ) → decode replies a s ≡ refused 12 → message_in way.Reply s ≡ null a
unfolding frame_answer
null-back a s e =
    let n = only_null (leb 3 (length s)) (eqb (get_or s 0 0) a.first) (agrees way.Reply s) (eqb (xor_all a.seed (take (body_length s + 3) s)) 0) (body_of s) (sym (replies_ordered a s) ∙ ap answer_of e) in
    (framed way.Reply a s n.0).starts ∙ ap (frame way.Reply a) n.1

null-fixed : null to_host ≡ 0x6E ∷ 0x80 ∷ 0xBE ∷ []
unfolding frame plain xor_all
null-fixed = refl

pub null-read : NullRead
null-read = record { fixed = null-fixed; there = null-there; back = null-back }
