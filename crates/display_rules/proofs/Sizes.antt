-- The step answers 1 for what it is lent in a wrong size, and for nothing else: `SizeNumbers` of
-- specs/Operations.antt.
use mathlib.Core.Path.{◌≡◌, refl, sym, ◌∙◌}
use mathlib.Core.Bool.{Bool, true, false, cond, not, ◌||◌}
use mathlib.Core.List.{List}
use Prim.Native.Nat.{ℕ, ◌+◌, ◌<◌}
use native.Mathlib.Omega.{arith}
use lib.ListN.{length, get_or}
use lib.Dec.{eqb, leb}
use borrow.Author.Tests.{eqb-true, ne_eqb, lt-leb}
use Rattle.codes.specs.Codes.{member}
use Rattle.message_rules.specs.Answer.{done, wrong_size, wrong_field, code_not_allowed, value_too_large, not_wanted, text_too_long}
use Rattle.message_rules.specs.Limits.{output_room}
use Rattle.message_rules.specs.Message.{Request, get_feature, set_feature, timing, save, text, table_read, table_write, requests, decode, null, to_display, to_host}
use Rattle.message_rules.specs.Read.{Read, ok, refused, unless}
use Rattle.message_rules.proofs.Order.{requests_range}
use Rattle.settings_rules.specs.Settings.{reserved_bits, exceeds_maximum, set_answer, answer_to_set, set_code, timing_in}
use Rattle.display_rules.specs.Limits.{table_room}
use Rattle.display_rules.specs.Turn.{refusal, accepted, no_reply, bytes_of, timing_of, get_turn, set_turn, save_turn, timing_turn}
use Rattle.display_rules.specs.Fragments.{read_turn, table_read_turn}
use Rattle.display_rules.specs.Table.{write_answer, table_write_turn}
use Rattle.display_rules.specs.Step.{turn_of, lent_well, turn, outcome, step}
use Rattle.display_rules.specs.Kept.{Kept, step_kept}
use Rattle.display_rules.specs.Operations.{SizeNumbers}
use Rattle.message_rules.specs.declared.TextKind.TheVariants.{Table}
use Rattle.display_rules.specs.declared.Display.{Display}
use Rattle.display_rules.proofs.Operations.{lent-well, and_false}

-- ---- 1 is for the sizes alone

set_not_1 : (declared : Bool) (c : ℕ) (writable above : Bool) → answer_to_set declared c writable above ≡ wrong_size → ⊥
unfolding answer_to_set
set_not_1 declared c writable above = go (not declared || eqb c 0xF4 || not writable) above
  where
    go : (a b : Bool) → cond a code_not_allowed (cond b value_too_large done) ≡ wrong_size → ⊥
    go true b e = omega arith
    go false true e = omega arith
    go false false e = omega arith

write_not_1 : (c old at n : ℕ) → write_answer c old at n ≡ wrong_size → ⊥
unfolding write_answer
write_not_1 c old at n = go (eqb c 0xF4) (leb at old) (leb (at + n) table_room)
  where
    go : (a b c : Bool) → unless a code_not_allowed (unless b not_wanted (unless c text_too_long done)) ≡ wrong_size → ⊥
    go false b c e = omega arith
    go true false c e = omega arith
    go true true false e = omega arith
    go true true true e = omega arith

module _ (d : Display) (lent table : List ℕ) where
  pub write_answers : (c at : ℕ) (s : List ℕ) → (table_write_turn d table c at s).answer ≡ write_answer c d.table.len at (length s)
  unfolding table_write_turn
  write_answers c at s = go (eqb (write_answer c d.table.len at (length s)) done) refl
    where
      go : (t : Bool) → eqb (write_answer c d.table.len at (length s)) done ≡ t → (table_write_turn d table c at s).answer ≡ write_answer c d.table.len at (length s)
      go true e = rw e (sym (eqb-true _ _ e))
      go false e = rw e

  timing_not_1 : (timing_turn d table).answer ≡ wrong_size → ⊥
  unfolding timing_turn
  timing_not_1 = go (eqb (reserved_bits d.settings.status) 0)
    where
      go : (t : Bool) → (cond t (accepted d table (bytes_of (timing_of (timing_in d.settings)))) (refusal wrong_field d table no_reply)).answer ≡ wrong_size → ⊥
      go true e = omega arith
      go false e = omega arith

  read_not_1 : (c q : ℕ) → (table_read_turn d lent table c q).answer ≡ wrong_size → ⊥
  unfolding table_read_turn read_turn
  read_not_1 c q = go (eqb c 0xF4)
    where
      go : (t : Bool) → (cond t (read_turn Table d lent table q) (refusal code_not_allowed d table (null to_host))).answer ≡ wrong_size → ⊥
      go true e = omega arith
      go false e = omega arith

  never_1 : (r : Read Request) → ((k : ℕ) → r ≡ refused k → 1 < k) → (turn_of d lent table r).answer ≡ wrong_size → ⊥
  unfolding get_turn set_turn set_code set_answer save_turn read_turn
  never_1 (refused k) h e = omega (arith, h k refl)
  never_1 (ok (get_feature c)) h e = omega arith
  never_1 (ok (set_feature c v)) h e = set_not_1 (member d.settings.declared c) c (member d.settings.writable c) (exceeds_maximum (member d.settings.continuous c) (get_or d.settings.maximum c 0) v) e
  never_1 (ok timing) h e = timing_not_1 e
  never_1 (ok save) h e = omega arith
  never_1 (ok (text q)) h e = omega arith
  never_1 (ok (table_read c q)) h e = read_not_1 c q e
  never_1 (ok (table_write c at s)) h e = write_not_1 c d.table.len at (length s) (sym (write_answers c at s) ∙ e)

-- ---- the step

module _ (now : Kept) (message out : List ℕ) where
  judged : (turn_of now.display now.text now.table (decode requests to_display message)).answer ≡ wrong_size → ⊥
  judged = never_1 now.display now.text now.table (decode requests to_display message) (λ k r. (requests_range to_display message k r).0)

  refused_1 : (step_kept now message out).answer ≡ wrong_size → step_kept now message out ≡ outcome (refusal wrong_size now.display now.table no_reply) out
  unfolding step turn
  refused_1 = go (lent_well now.display (length now.text) (length now.table) (length out)) refl
    where
      go : (t : Bool) → lent_well now.display (length now.text) (length now.table) (length out) ≡ t → (step_kept now message out).answer ≡ wrong_size
          → step_kept now message out ≡ outcome (refusal wrong_size now.display now.table no_reply) out
      go true w e = absurd (judged (rw w at e))
      go false w e = rw w

pub size-numbers : SizeNumbers step_kept
unfolding step turn
size-numbers now message out = record {
  output = λ h. rw (lt-leb output_room (length out) h);
  table = λ h. rw (ne_eqb (length now.table) table_room h, and_false (leb output_room (length out)));
  text = λ h. rw (ne_eqb (length now.text) now.display.capabilities.len h, and_false (eqb (length now.table) table_room), and_false (leb output_room (length out)));
  otherwise = λ w e. judged now message out (rw (lent-well now out w) at e);
  stays = λ e. rw (refused_1 now message out e) (record { display = refl; table = refl });
  reply = λ e. rw (refused_1 now message out e) (record { len = refl; bytes = refl; found = refl });
}
