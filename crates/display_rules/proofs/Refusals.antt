-- A refusal changes no setting, saved value, table byte, table length or cursor, and writes a null message exactly
-- where the table of answers says so.
use mathlib.Core.Path.{◌≡◌, refl, ap}
use mathlib.Core.Bool.{Bool, true, false, cond, ◌&&◌}
use mathlib.Core.List.{List}
use Prim.Native.Nat.{ℕ, ◌+◌}
use lib.Dec.{eqb, leb}
use lib.ListN.{length}
use borrow.Author.Tests.{ne_eqb}
use Rattle.message_rules.specs.Answer.{done, wrong_size, unknown_command, code_not_allowed, value_too_large, wrong_field, not_wanted, text_too_long}
use Rattle.message_rules.specs.Message.{Request, get_feature, set_feature, timing, save, text, table_read, table_write, requests, decode, null, to_display, to_host}
use Rattle.message_rules.specs.Read.{Read, ok, refused, unless}
use Rattle.message_rules.proofs.Order.{null-read}
use Rattle.buffers.specs.Buffers.{over}
use Rattle.message_rules.specs.Message.{table_code}
use Rattle.settings_rules.specs.Settings.{reserved_bits, set_code, set_answer, answer_to_set, timing_in}
use Rattle.display_rules.specs.Limits.{table_room}
use Rattle.display_rules.specs.State.{unsent, with_table}
use Rattle.display_rules.specs.Turn.{Turn, refusal, accepted, no_reply, bytes_of, timing_of, get_turn, set_turn, save_turn, timing_turn}
use Rattle.display_rules.specs.Fragments.{read_turn, table_read_turn}
use Rattle.display_rules.specs.Table.{write_answer, length_after, written, table_write_turn}
use Rattle.display_rules.specs.Step.{turn_of, lent_well, turn, outcome, step}
use Rattle.display_rules.specs.Kept.{step_kept, keeping}
use Rattle.display_rules.specs.Statements.{is_table_read, null_bytes, NothingChanged, RefusalsChangeNothing}
use Rattle.message_rules.specs.declared.TextKind.TheVariants.{Table}
use Rattle.display_rules.specs.declared.Display.{Display}

and_false : (b : Bool) → (b && false) ≡ false
and_false true = refl
and_false false = refl

null_is : null to_host ≡ null_bytes
null_is = null-read.fixed

-- neither a Set nor a Table write answers 6
set_not_6 : (a b : Bool) → eqb (cond a code_not_allowed (cond b value_too_large done)) unknown_command ≡ false
set_not_6 true b = refl
set_not_6 false true = refl
set_not_6 false false = refl

write_not_6 : (c old at n : ℕ) → eqb (write_answer c old at n) unknown_command ≡ false
unfolding write_answer
write_not_6 c old at n = go (eqb c table_code) (leb at old) (leb (at + n) table_room)
  where
    go : (a b d : Bool) → eqb (unless a code_not_allowed (unless b not_wanted (unless d text_too_long done))) unknown_command ≡ false
    go false b d = refl
    go true false d = refl
    go true true false = refl
    go true true true = refl

-- a turn by a test whose accepted half answers 0: where the answer is not 0, the test failed
not_accepted : (t : Bool) (a b : Turn) → a.answer ≡ done → ((cond t a b).answer ≡ done → ⊥) → t ≡ false
not_accepted true a b e h = absurd (h e)
not_accepted false a b e h = refl

module _ (d : Display) (lent table out : List ℕ) where
  of_refused : (k : ℕ) → NothingChanged (keeping d lent table) out (refused k) (outcome (turn_of d lent table (refused k)) out)
  of_refused k = go (eqb k unknown_command) refl
    where
      go : (t : Bool) → eqb k unknown_command ≡ t → NothingChanged (keeping d lent table) out (refused k) (outcome (turn_of d lent table (refused k)) out)
      go true h = record { display = refl; table = refl; found = refl; len = rw h (ap length null_is); out = rw h (ap (λ (s : List ℕ). over s out) null_is) }
      go false h = record { display = refl; table = refl; found = refl; len = rw h; out = rw h }

  of_set : (c v : ℕ) → ((outcome (set_turn d table c v) out).answer ≡ done → ⊥) → NothingChanged (keeping d lent table) out (ok (set_feature c v)) (outcome (set_turn d table c v) out)
  unfolding set_turn set_code set_answer answer_to_set
  of_set c v h = record { display = rw (ne_eqb _ _ h); table = refl; found = refl; len = rw (set_not_6 _ _); out = rw (set_not_6 _ _) }

  of_timing : ((outcome (timing_turn d table) out).answer ≡ done → ⊥) → NothingChanged (keeping d lent table) out (ok timing) (outcome (timing_turn d table) out)
  unfolding timing_turn
  of_timing = go (eqb (reserved_bits d.settings.status) 0)
    where
      go : (t : Bool) → ((outcome (cond t (accepted d table (bytes_of (timing_of (timing_in d.settings)))) (refusal wrong_field d table no_reply)) out).answer ≡ done → ⊥)
          → NothingChanged (keeping d lent table) out (ok timing) (outcome (cond t (accepted d table (bytes_of (timing_of (timing_in d.settings)))) (refusal wrong_field d table no_reply)) out)
      go true h = absurd (h refl)
      go false h = record { display = refl; table = refl; found = refl; len = refl; out = refl }

  of_read : (c q : ℕ) → ((outcome (table_read_turn d lent table c q) out).answer ≡ done → ⊥) → NothingChanged (keeping d lent table) out (ok (table_read c q)) (outcome (table_read_turn d lent table c q) out)
  unfolding table_read_turn read_turn
  of_read c q = go (eqb c table_code)
    where
      go : (t : Bool) → ((outcome (cond t (read_turn Table d lent table q) (refusal code_not_allowed d table (null to_host))) out).answer ≡ done → ⊥)
          → NothingChanged (keeping d lent table) out (ok (table_read c q)) (outcome (cond t (read_turn Table d lent table q) (refusal code_not_allowed d table (null to_host))) out)
      go true h = absurd (h refl)
      go false h = record { display = refl; table = refl; found = refl; len = rw null_is; out = rw null_is }

  of_write : (c at : ℕ) (s : List ℕ) → ((outcome (table_write_turn d table c at s) out).answer ≡ done → ⊥)
      → NothingChanged (keeping d lent table) out (ok (table_write c at s)) (outcome (table_write_turn d table c at s) out)
  unfolding table_write_turn
  of_write c at s h =
      let k : ℕ = write_answer c d.table.len at (length s) in
      let no : eqb k done ≡ false = not_accepted (eqb k done) (accepted (with_table d (unsent (length_after d.table.len at (length s)))) (written table at s) no_reply) (refusal k d table no_reply) refl h in
      let six : eqb k unknown_command ≡ false = write_not_6 c d.table.len at (length s) in
      record { display = rw no; table = rw no; found = rw no; len = rw (no, six); out = rw (no, six) }

  refusal_of : (w : Bool) (r : Read Request) → ((outcome (cond w (turn_of d lent table r) (refusal wrong_size d table no_reply)) out).answer ≡ done → ⊥)
      → NothingChanged (keeping d lent table) out r (outcome (cond w (turn_of d lent table r) (refusal wrong_size d table no_reply)) out)
  unfolding get_turn save_turn read_turn
  refusal_of false r h = record { display = refl; table = refl; found = refl; len = rw (and_false (is_table_read r)); out = rw (and_false (is_table_read r)) }
  refusal_of true (refused k) h = of_refused k
  refusal_of true (ok (get_feature c)) h = absurd (h refl)
  refusal_of true (ok (set_feature c v)) h = of_set c v h
  refusal_of true (ok timing) h = of_timing h
  refusal_of true (ok save) h = absurd (h refl)
  refusal_of true (ok (text q)) h = absurd (h refl)
  refusal_of true (ok (table_read c q)) h = of_read c q h
  refusal_of true (ok (table_write c at s)) h = of_write c at s h

pub refusals_change_nothing : RefusalsChangeNothing step_kept
unfolding step turn
refusals_change_nothing now message out h =
    refusal_of now.display now.text now.table out (lent_well now.display (length now.text) (length now.table) (length out)) (decode requests to_display message) h
