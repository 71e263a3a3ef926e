-- Wrong rules for steps, and that the theorems do not hold of them: a display that refuses everything, one that stays
-- put, one with a fixed reply, one that hands no fragment back, one that sends no null message, and one that keeps a
-- longer old table's tail.
use mathlib.Core.Path.{◌≡◌, refl, ap, sym, subst}
use mathlib.Core.List.{List, [], ◌∷◌}
use mathlib.Core.Bool.{cond}
use Prim.Native.Nat.{ℕ, ◌+◌, ◌≤◌}
use native.Mathlib.Omega.{arith}
use lib.Dec.{ltb}
use lib.ListN.{take, length, replicate}
use Rattle.checksum.specs.Bytes as bytes
use Rattle.checksum.specs.Xor.{xor_all}
use Rattle.message_rules.specs.Answer.{done, wrong_field, unknown_command}
use Rattle.message_rules.specs.Body as body
use Rattle.message_rules.specs.Frame.{frame_answer, agrees, plain}
use Rattle.message_rules.specs.Limits.{most_written, output_room}
use Rattle.message_rules.specs.Message.{table_write, text_fragment, reply_body, requests, encode, decode, body_read, Valid, to_display, to_host}
use Rattle.message_rules.specs.Read.{refused}
use Rattle.message_rules.specs.declared.Direction.TheVariants.{Reply}
use Rattle.message_rules.proofs.Frames.{length-frame}
use Rattle.message_rules.proofs.RoundTrip.{requests_round}
use Rattle.buffers.specs.Buffers.{over}
use Rattle.message_rules.specs.Message.{table_code}
use Rattle.settings_rules.specs.declared.Timing.{Timing}
use Rattle.display_rules.specs.Limits.{table_room}
use Rattle.display_rules.specs.State.{unsent, with_table, cursor_of, start, start_answer}
use Rattle.display_rules.specs.Turn.{accepted, no_reply, bytes_of}
use Rattle.display_rules.specs.Fragments.{fragment_at}
use Rattle.display_rules.specs.Table.{length_after, written, table_write_turn}
use Rattle.display_rules.specs.Step.{turn, outcome, step}
use Rattle.display_rules.specs.Kept.{Kept, keeping, RightSizes, StepRule, step_kept, with_display}
use Rattle.display_rules.specs.Statements.{RefusalsChangeNothing, null_bytes, started, stepped, asks_for, Reads, ReadsFollow, WritesGoIn}
use Rattle.message_rules.specs.declared.TextKind.TheVariants.{Capabilities}
use Rattle.display_rules.specs.declared.FragmentCursor.{FragmentCursor}
use Rattle.display_rules.specs.declared.Display.{Display}
use Rattle.std.specs.Prelude.{None}
use Rattle.display_rules.proofs.Reading.{read_back}
use Rattle.display_rules.proofs.Tables.{accepts}

-- ---- the wrong rules

abbrev refuses_all : StepRule
refuses_all now message out = record { display = now.display; answer = wrong_field; len = 0; found = None; table = now.table; out = out }

abbrev stays_put : StepRule
stays_put now message out =
    let o = step_kept now message out in
    record { display = now.display; answer = o.answer; len = o.len; found = o.found; table = o.table; out = o.out }

abbrev fixed_reply : StepRule
fixed_reply now message out =
    let o = step_kept now message out in
    record { display = o.display; answer = o.answer; len = 3; found = o.found; table = o.table; out = over null_bytes out }

abbrev hands_nothing : StepRule
hands_nothing now message out =
    let o = step_kept now message out in
    record { display = o.display; answer = o.answer; len = o.len; found = None; table = o.table; out = o.out }

abbrev silent : StepRule
silent now message out =
    let o = step_kept now message out in
    record { display = o.display; answer = o.answer; len = 0; found = o.found; table = o.table; out = out }

abbrev larger : ℕ → ℕ → ℕ
larger a b = cond (ltb a b) b a

abbrev keeps_tail : StepRule
keeps_tail now message out =
    let o = step_kept now message out in
    record {
      display = with_table o.display (record { len = larger now.display.table.len o.display.table.len; cursor = o.display.table.cursor });
      answer = o.answer;
      len = o.len;
      found = o.found;
      table = o.table;
      out = o.out;
    }

-- ---- a display with a capabilities string of two bytes

zero-timing : Timing
zero-timing = record { status = 0; horizontal = 0; vertical = 0 }

abbrev two : Display
two = (start zero-timing 2 1).display

abbrev text2 : List ℕ
text2 = 1 ∷ 2 ∷ []

abbrev table0 : List ℕ
table0 = replicate table_room 0

abbrev out0 : List ℕ
out0 = replicate output_room 0

abbrev now2 : Kept
now2 = keeping two text2 table0

-- what the theorem would say of a read at 0
module _ (rule : StepRule) (h : ReadsFollow rule) where
  at_zero : Reads Capabilities now2 out0 0 (rule now2 (encode requests to_display (asks_for Capabilities 0)) out0)
  unfolding start start_answer zero-timing
  at_zero = h Capabilities now2 out0 0 (started zero-timing 2 1) refl (omega arith)

pub refuses_all_refuted : ReadsFollow refuses_all → ⊥
refuses_all_refuted h = let e = (at_zero refuses_all h).answer in omega (arith, e)

pub stays-put_refuted : ReadsFollow stays_put → ⊥
unfolding start start_answer zero-timing
stays-put_refuted h =
    let e : ◌≡◌ {A = ℕ} 0 1 = (at_zero stays_put h).size in
    omega (arith, e)

-- the cursor after the read, by the right rule
abbrev after0 : FragmentCursor
after0 = cursor_of Capabilities (step_kept now2 (encode requests to_display (asks_for Capabilities 0)) out0).display

fragment-long : (o : ℕ) (s : List ℕ) → 6 ≤ length (bytes_of (text_fragment o s))
fragment-long o s = omega (arith, length-frame Reply to_host (body.encode_body (reply_body (text_fragment o s))))

pub fixed-reply_refuted : ReadsFollow fixed_reply → ⊥
fixed-reply_refuted h = omega (arith, ap length (at_zero fixed_reply h).sent, fragment-long after0.offset.0 (fragment_at text2 after0))

pub hands_nothing_refuted : ReadsFollow hands_nothing → ⊥
unfolding start start_answer zero-timing
hands_nothing_refuted h =
    let x = at_zero hands_nothing h in
    let e : after0.offset.0 ≡ 0 = x.zero refl in
    let l : after0.len ≡ 1 = rw e at x.size in
    let n : [] ≡ fragment_at text2 after0 = x.handed in
    let m : ◌≡◌ {A = List ℕ} [] (1 ∷ []) = rw (e, l) at n in
    let z : ◌≡◌ {A = ℕ} 0 1 = ap length m in
    omega arith

-- ---- an empty body is refused with 6

abbrev empty_body : List ℕ
empty_body = 0x51 ∷ 0x80 ∷ 0xBF ∷ []

empty_is_6 : decode requests to_display empty_body ≡ refused unknown_command
unfolding decode body_read frame_answer agrees xor_all plain body.decode_body
empty_is_6 = refl

answers_6 : (step_kept now2 empty_body out0).answer ≡ unknown_command
unfolding step turn start start_answer zero-timing
answers_6 = rw empty_is_6

pub silent_refuted : RefusalsChangeNothing silent → ⊥
silent_refuted h =
    let no : (step_kept now2 empty_body out0).answer ≡ done → ⊥ = λ e. omega (arith, answers_6, e) in
    let x = (h now2 empty_body out0 no).len in
    let z : ◌≡◌ {A = ℕ} 0 3 = rw answers_6 at x in
    omega (arith, z)

-- ---- a write of one byte at 0, and then one of none

abbrev pub write : List ℕ → List ℕ
write s = encode requests to_display (table_write table_code 0 s)

pub write_valid : (s : List ℕ) → length s ≤ most_written → bytes.Bytes s → Valid requests (table_write table_code 0 s)
write_valid s l b = record {
  bytes_count = refl;
  words_count = refl;
  rest_count = l;
  bytes_fit = bytes.more {b = table_code} (omega arith) bytes.none;
  words_fit = body.more {w = 0} (omega arith) body.none;
  rest_fit = b;
  ruled = refl;
}

pub write_bytes : (s : List ℕ) → Valid requests (table_write table_code 0 s) → bytes.Bytes (write s)
write_bytes s v = requests_round.bytes to_display (table_write table_code 0 s) (omega arith) (omega arith) v

one-valid : Valid requests (table_write table_code 0 (7 ∷ []))
one-valid = write_valid (7 ∷ []) (omega arith) (bytes.more {b = 7} (omega arith) bytes.none)

none-valid : Valid requests (table_write table_code 0 [])
none-valid = write_valid [] (omega arith) bytes.none

write_is : (d : Display) (s : List ℕ) → RightSizes (with_display now2 d) out0 → Valid requests (table_write table_code 0 s) → 0 + length s ≤ table_room
    → step_kept (with_display now2 d) (write s) out0 ≡ outcome (accepted (with_table d (unsent (length s))) (written table0 0 s) no_reply) out0
unfolding step turn table_write_turn length_after
write_is d s w v l = rw (w, read_back (table_write table_code 0 s) v, accepts d.table.len 0 (length s) (omega arith) l)

abbrev longer : Display
longer = (keeps_tail now2 (write (7 ∷ [])) out0).display

longer_is : longer ≡ with_table two (unsent 1)
unfolding start start_answer zero-timing
longer_is = rw (write_is two (7 ∷ []) refl one-valid (omega arith))

pub keeps_tail_refuted : WritesGoIn keeps_tail → ⊥
unfolding start start_answer zero-timing
keeps_tail_refuted h =
    let w : RightSizes (with_display now2 longer) out0 = subst (λ (d : Display). RightSizes (with_display now2 d) out0) (sym longer_is) refl in
    let made = stepped now2 (started zero-timing 2 1) (write (7 ∷ [])) out0 (write_bytes (7 ∷ []) one-valid) in
    let x = (h (with_display now2 longer) (write []) out0 0 [] made w (read_back (table_write table_code 0 []) none-valid) (omega arith) (omega arith)).1 in
    let y : take (larger longer.table.len 0) (written table0 0 []) ≡ [] = rw (write_is longer [] w none-valid (omega arith)) at x in
    let e : longer.table.len ≡ 1 = ap (λ (d : Display). d.table.len) longer_is in
    let z : take (larger 1 0) (written table0 0 []) ≡ [] = rw e at y in
    let n : ◌≡◌ {A = ℕ} 1 0 = ap length z in
    omega (arith, n)
