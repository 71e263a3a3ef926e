-- What a reader's tests come to, a step each: the same for requests and replies.
-- Assumes nothing.
use mathlib.Core.Path.{◌≡◌, refl, sym, ap, ◌∙◌, subst}
use mathlib.Core.Bool.{Bool, true, false, cond, ◌&&◌}
use mathlib.Core.List.{List}
use Prim.Native.Nat.{ℕ, zero, suc, ◌<◌}
use native.Mathlib.Omega.{arith}
use lib.Dec.{eqb, ltb}
use borrow.Author.Tests.{ne_eqb}
use lib.ListN.{get_or}
use Rattle.message_rules.specs.declared.Address.{Address}
use Rattle.message_rules.specs.declared.Direction.TheVariants as way
use Rattle.std.specs.Prelude.{Ok, Err}
use Rattle.message_rules.specs.Read.{refused, after}
use Rattle.message_rules.specs.Refusal.{number_of}
use Rattle.message_rules.specs.declared.refusal.Refusal.{Refusal}
use Rattle.message_rules.specs.declared.refusal.Refusal.TheVariants as refusal
use Rattle.message_rules.specs.declared.refusal.Refusal.TheVariants.{WrongField}
use Rattle.message_rules.specs.Row.{Kind, Layout, Known}
use Rattle.message_rules.specs.Layout.{layout_of, row_of}
use Rattle.message_rules.specs.Body.{empty_answer}
use Rattle.message_rules.specs.Frame.{plain_row, body_length, frame_answer}
use Rattle.message_rules.specs.Message.{Reading, decode}
use Rattle.message_rules.proofs.Rows.{found}
use Rattle.message_frame.specs.declared.row.SizedRow.{SizedRow}
use Rattle.message_frame.specs.Shape.{shape_of, length_right, known_row}
use Rattle.message_frame.specs.Verdict.{read_of, verdict_by}
use Rattle.message_frame.specs.Parts.{head_answer, tail_answer}
use Rattle.message_frame.specs.Meaning.{Holds}
use Rattle.message_frame.proofs.Parts.{frame_head, frame_form, decode-frame, decode-empty, decode-length, decode-body, readable}

-- a row is found in its own half of the table
pub never : {A : Type 0} → way.Request ≡ way.Reply → A
never e = let z : ◌≡◌ {A = ℕ} 0 1 = cc in absurd (omega arith)

-- a refusal is not done
pub number_some : (r : Refusal) → number_of r ≡ 0 → ⊥
number_some refusal.WrongSize e = omega (arith, e)
number_some refusal.TooShort e = omega (arith, e)
number_some refusal.WrongFirstByte e = omega (arith, e)
number_some refusal.WrongLength e = omega (arith, e)
number_some refusal.WrongChecksum e = omega (arith, e)
number_some refusal.UnknownCommand e = omega (arith, e)
number_some refusal.WrongField e = omega (arith, e)
number_some refusal.CodeNotAllowed e = omega (arith, e)
number_some refusal.ValueTooLarge e = omega (arith, e)
number_some refusal.NotWanted e = omega (arith, e)
number_some refusal.TextTooLong e = omega (arith, e)
number_some refusal.NullMessage e = omega (arith, e)
number_some refusal.WrongGrammar e = omega (arith, e)
number_some refusal.NoNodeRoom e = omega (arith, e)
number_some refusal.TooDeep e = omega (arith, e)
number_some refusal.TransferClosed e = omega (arith, e)
number_some refusal.BrokenRecord e = omega (arith, e)
number_some refusal.NotDeclarable e = omega (arith, e)
number_some refusal.RepeatedToken e = omega (arith, e)
number_some refusal.RepeatedHousehold e = omega (arith, e)

-- ---- the frame

-- a head that is refused
pub head_refused : {M : Type 0} (t : Reading M) (a : Address) (s : List ℕ) (r : Refusal) → number_of r ≡ head_answer t.direction a s → decode t a s ≡ refused (number_of r)
head_refused t a s r e =
    let some = number_some r in
    let whole = e ∙ sym (frame_head t.direction a s (λ z. some (e ∙ z))) in
    decode-frame t a s (λ z. some (whole ∙ z)) ∙ ap refused (sym whole)

-- a head that is right: the tail by the form that the number's row has, then what the row says
module _ {M K : Type 0} (t : Reading M) (kind : K → Kind) (a : Address) (s : List ℕ) (z : head_answer t.direction a s ≡ 0)
    (row : SizedRow K) (form : row.plain ≡ plain_row (row_of t.direction (get_or s 2 0)))
    (body : 0 < body_length s → frame_answer t.direction a s ≡ 0 → Holds t kind a s (read_of row.verdict)) where
  abbrev tail : ℕ
  tail = tail_answer a (row.plain && ltb 0 (body_length s)) s

  frame-tail : frame_answer t.direction a s ≡ tail
  frame-tail = frame_form t.direction a s z form refl refl refl

  by-body : (n : ℕ) → body_length s ≡ n → tail ≡ 0 → Holds t kind a s (cond (eqb n 0) (refused (empty_answer t.direction)) (read_of row.verdict))
  by-body zero m e = decode-empty t a s (frame-tail ∙ e) m
  by-body (suc n) m e = rw (ne_eqb (suc n) 0 (λ w. omega (arith, w))) (body (omega (arith, m)) (frame-tail ∙ e))

  by-tail : (k : ℕ) → tail ≡ k → Holds t kind a s (after k (cond (eqb (body_length s) 0) (refused (empty_answer t.direction)) (read_of row.verdict)))
  by-tail zero e = by-body (body_length s) refl e
  by-tail (suc k) e = decode-frame t a s (λ y. omega (arith, sym (frame-tail ∙ e) ∙ y)) ∙ ap refused (frame-tail ∙ e)

  pub verdict-holds : Holds t kind a s (verdict_by t.direction a row s)
  unfolding verdict_by
  verdict-holds = by-tail tail refl

-- ---- the body

-- what a listed row says of a right frame: its kind for a right length, and 7 for a wrong one
module _ {M K : Type 0} (t : Reading M) (kind : K → Kind) (a : Address) (s : List ℕ) (some : 0 < body_length s) (e : frame_answer t.direction a s ≡ 0)
    (c : K) (l : Layout) (p : row_of t.direction (get_or s 2 0) ≡ Known (kind c) l) where
  own : row_of t.direction (get_or s 2 0) ≡ Known (kind c) (layout_of (kind c))
  own = p ∙ ap (Known (kind c)) (found t.direction (get_or s 2 0) (kind c) l p).layout

  sized : (b : Bool) → length_right (shape_of (layout_of (kind c))) (body_length s) ≡ b → Holds t kind a s (read_of (cond b (Ok c) (Err WrongField)))
  sized true w = (readable t a s e some (kind c) own w, decode-body t a s e some (kind c) own w)
  sized false w = decode-length t a s e some (kind c) own w

  pub row-holds : Holds t kind a s (read_of (known_row c (shape_of l) (body_length s)).verdict)
  row-holds =
      subst (λ (x : Layout). Holds t kind a s (read_of (known_row c (shape_of x) (body_length s)).verdict)) (sym (found t.direction (get_or s 2 0) (kind c) l p).layout)
      (sized (length_right (shape_of (layout_of (kind c))) (body_length s)) refl)
