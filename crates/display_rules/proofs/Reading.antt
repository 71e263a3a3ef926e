-- A read answers 0, moves the cursor by the paper's four sentences, and sends the bytes of the whole text from there.
use mathlib.Core.Path.{◌≡◌, refl, sym, ap, ◌∙◌}
use mathlib.Core.Logic.{⊎_elim}
use mathlib.Core.Bool.{Bool, true, false, cond, ◌||◌}
use mathlib.Core.List.{List, [], ◌∷◌, append-nil}
use Prim.Native.Nat.{ℕ, zero, suc, ◌+◌, ◌-◌, ◌<◌}
use native.Mathlib.Omega.{arith}
use lib.ListN.{length, take, drop}
use lib.Seq.{length-take-le, take-take, take-append_seam, drop-append_seam, take-nil}
use lib.Dec.{eqb, ltb}
use borrow.Author.Tests.{eq-eqb, ne_eqb}
use Rattle.checksum.specs.Bytes as bytes
use Rattle.message_rules.specs.Body as body
use Rattle.message_rules.specs.Message.{Request, requests, decode, encode, Valid, to_display}
use Rattle.message_rules.specs.Read.{ok}
use Rattle.message_rules.proofs.RoundTrip.{requests_round}
use Rattle.message_rules.specs.Message.{table_code}
use Rattle.display_rules.specs.State.{cursor_at, text_state, cursor_of, with_cursor}
use Rattle.display_rules.specs.Turn.{bytes_of}
use Rattle.display_rules.specs.Fragments.{fragment_of, next_offset, next_cursor, fragment_size, fragment_at, found_bytes, fragment_reply, read_turn, table_read_turn}
use Rattle.display_rules.specs.Step.{turn, outcome, step}
use Rattle.display_rules.specs.Kept.{Kept, RightSizes, step_kept, with_display}
use Rattle.display_rules.specs.Statements.{Sound, Placed, whole, asks_for, Reads, ReadsFollow}
use Rattle.message_rules.specs.declared.TextKind.{TextKind}
use Rattle.message_rules.specs.declared.TextKind.TheVariants.{Capabilities, Table}
use Rattle.display_rules.specs.declared.FragmentCursor.{FragmentCursor}
use Rattle.display_rules.specs.declared.TextState.{TextState}
use Rattle.display_rules.specs.declared.Display.{Display}
use Rattle.std.specs.Prelude.{Some, min}
use Rattle.std.proofs.Math.Nat.{min-le_right}
use Rattle.display_rules.proofs.Tests.{Lent, lent-sizes, min_by-ltb}
use Rattle.display_rules.proofs.Sound.{size_is, made_is_sound}

-- ---- where a read goes

module _ (c : FragmentCursor) (q : ℕ) where
  next-zero : q ≡ 0 → next_offset c q ≡ 0
  unfolding next_offset
  next-zero h = go (eqb q c.offset.0 || eqb q (c.offset.0 + c.len))
    where
      go : (t : Bool) → cond t q 0 ≡ 0
      go true = h
      go false = refl

  next-again : q ≡ c.offset.0 → next_offset c q ≡ q
  unfolding next_offset
  next-again h = rw (eq-eqb _ _ h)

  next-moves : q ≡ c.offset.0 + c.len → next_offset c q ≡ q
  unfolding next_offset
  next-moves h = rw (eq-eqb q (c.offset.0 + c.len) h) (go (eqb q c.offset.0))
    where
      go : (t : Bool) → cond (t || true) q 0 ≡ q
      go true = refl
      go false = refl

  next-other : (q ≡ c.offset.0 → ⊥) → (q ≡ c.offset.0 + c.len → ⊥) → next_offset c q ≡ 0
  unfolding next_offset
  next-other f g = rw (ne_eqb _ _ f, ne_eqb _ _ g)

-- "send that piece again": the length found is the one kept
again-is : (p : ℕ) (t : TextState) (q : ℕ) → Placed p t → (q ≡ 0 → ⊥) → q ≡ t.cursor.offset.0 → next_cursor p t q ≡ t.cursor
unfolding next_cursor
again-is p t q placed nz h =
    let e : next_offset t.cursor q ≡ t.cursor.offset.0 = next-again t.cursor q h ∙ h in
    let l : min p (t.len - t.cursor.offset.0) ≡ t.cursor.len = ⊎_elim (λ s. absurd (nz (h ∙ ap (λ (c : FragmentCursor). c.offset.0) s))) (λ s. sym s) placed in
    rw e (ap (cursor_at t.cursor.offset.0) l)

-- ---- the bytes sent are those of the whole text

drop-take : (i n : ℕ) (l : List ℕ) → drop i (take n l) ≡ take (n - i) (drop i l)
drop-take zero n l = let e : n ≡ n - 0 = omega arith in ap (λ (k : ℕ). take k l) e
drop-take (suc i) zero l = let e : 0 ≡ 0 - suc i = omega arith in ap (λ (k : ℕ). take k (drop (suc i) l)) e
drop-take (suc i) (suc n) [] = sym (take-nil (suc n - suc i))
drop-take (suc i) (suc n) (x ∷ l) = let e : n - i ≡ suc n - suc i = omega arith in drop-take i n l ∙ ap (λ (k : ℕ). take k (drop i l)) e

-- a fragment within the first n bytes is the same part of those
within_front : (p : ℕ) (t : TextState) (q : ℕ) (l : List ℕ) → fragment_at l (next_cursor p t q) ≡ fragment_at (take t.len l) (next_cursor p t q)
unfolding next_cursor
within_front p t q l =
    let o : ℕ = next_offset t.cursor q in
    let m : ℕ = min p (t.len - o) in
    sym (ap (take m) (drop-take o t.len l) ∙ take-take m (t.len - o) (drop o l) (min-le_right p (t.len - o)))

same_part : (k : TextKind) (now : Kept) (q : ℕ) (c : FragmentCursor) → c ≡ next_cursor (fragment_size now.display) (text_state k now.display) q
    → found_bytes now.text now.table (Some (fragment_of k c)) ≡ fragment_at (whole k now) c
same_part Capabilities now q c e = refl
same_part Table now q c e = rw e (within_front (fragment_size now.display) now.display.table q now.table)

-- ---- a read

whole_length : (k : TextKind) (now : Kept) (out : List ℕ) → Sound now.display → RightSizes now out → length (whole k now) ≡ (text_state k now.display).len
whole_length Capabilities now out z w = (lent-sizes now.display (length now.text) (length now.table) (length out) w).text
whole_length Table now out z w =
    let e : Lent now.display (length now.text) (length now.table) (length out) = lent-sizes now.display (length now.text) (length now.table) (length out) w in
    length-take-le now.display.table.len now.table (omega (arith, e.table, z.room))

placed_of : (k : TextKind) (d : Display) → Sound d → Placed d.size (text_state k d)
placed_of Capabilities d z = z.capabilities
placed_of Table d z = z.table

cursor-set : (k : TextKind) (d : Display) (c : FragmentCursor) → cursor_of k (with_cursor k d c) ≡ c
cursor-set Capabilities d c = refl
cursor-set Table d c = refl

whole-kept : (k : TextKind) (now : Kept) (c : FragmentCursor) → whole k (with_display now (with_cursor k now.display c)) ≡ whole k now
whole-kept Capabilities now c = refl
whole-kept Table now c = refl

offset-is : (p : ℕ) (t : TextState) (q : ℕ) → (next_cursor p t q).offset.0 ≡ next_offset t.cursor q
unfolding next_cursor
offset-is p t q = refl

length-is : (f p : ℕ) (t : TextState) (q : ℕ) → f ≡ p → (next_cursor f t q).len ≡ cond (ltb p (t.len - (next_cursor f t q).offset.0)) p (t.len - (next_cursor f t q).offset.0)
unfolding next_cursor
length-is f p t q h = rw h (min_by-ltb p (t.len - next_offset t.cursor q))

of_read : (k : TextKind) (now : Kept) (out : List ℕ) (q : ℕ) → Sound now.display → RightSizes now out
    → Reads k now out q (outcome (read_turn k now.display now.text now.table q) out)
unfolding read_turn
of_read k now out q z w =
    let t : TextState = text_state k now.display in
    let c : FragmentCursor = next_cursor (fragment_size now.display) t q in
    let e : cursor_of k (with_cursor k now.display c) ≡ c = cursor-set k now.display c in
    let o : c.offset.0 ≡ next_offset t.cursor q = offset-is (fragment_size now.display) t q in
    let same : found_bytes now.text now.table (Some (fragment_of k c)) ≡ fragment_at (whole k now) c = same_part k now q c refl in
    let r : List ℕ = bytes_of (fragment_reply k c (fragment_at (whole k now) c)) in
    record {
      answer = refl;
      zero = λ h. rw e (o ∙ next-zero t.cursor q h);
      again = λ nz h. e ∙ ap (λ (p : ℕ). next_cursor p t q) (size_is now.display z) ∙ again-is now.display.size t q (placed_of k now.display z) nz h;
      next = λ h. rw e (o ∙ next-moves t.cursor q h);
      other = λ f g. rw e (o ∙ next-other t.cursor q f g);
      size = rw (e, whole_length k now out z w) (length-is (fragment_size now.display) now.display.size t q (size_is now.display z));
      sent = rw (e, same) (take-append_seam r (drop (length r) out));
      rest = drop-append_seam (bytes_of (fragment_reply k c (found_bytes now.text now.table (Some (fragment_of k c))))) _;
      handed = rw e same;
      kept = whole-kept k now c;
    }

-- ---- the request is read

word-valid : {q : ℕ} → q < 65536 → body.Words (q ∷ [])
word-valid h = body.more h body.none

pub valid : (k : TextKind) (q : ℕ) → q < 65536 → Valid requests (asks_for k q)
valid Capabilities q h = record { bytes_count = refl; words_count = refl; rest_count = omega arith; bytes_fit = bytes.none; words_fit = word-valid h; rest_fit = bytes.none; ruled = refl }
valid Table q h =
    record { bytes_count = refl; words_count = refl; rest_count = omega arith; bytes_fit = bytes.more {b = table_code} (omega arith) bytes.none; words_fit = word-valid h; rest_fit = bytes.none; ruled = refl }

asked : (k : TextKind) (now : Kept) (message out : List ℕ) (q : ℕ) → RightSizes now out
    → decode requests to_display message ≡ ok (asks_for k q) → step_kept now message out ≡ outcome (read_turn k now.display now.text now.table q) out
unfolding step turn table_read_turn
asked Capabilities now message out q w r = rw (w, r)
asked Table now message out q w r = rw (w, r)

pub read_back : (m : Request) → Valid requests m → decode requests to_display (encode requests to_display m) ≡ ok m
read_back m v = rw append-nil at (requests_round.there to_display m [] refl v)

pub reads_follow : ReadsFollow step_kept
reads_follow k now out q m w h =
    rw (asked k now (encode requests to_display (asks_for k q)) out q w (read_back (asks_for k q) (valid k q h)))
    (of_read k now out q (made_is_sound now.display m) w)
