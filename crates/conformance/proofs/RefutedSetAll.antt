-- A wrong call of many settings, and that `SetAllBetween` does not hold of it: it empties the table too. A gate that is
-- reading the list would be done with none.
-- Assumes nothing.
use Prim.Native.Nat.{ℕ, ◌≤◌}
use mathlib.Core.Path.{◌≡◌, refl, sym, ap, subst, ◌∙◌}
use mathlib.Core.List.{List, [], ◌∷◌, ◌++◌}
use native.Mathlib.Omega.{arith}
use lib.ListN.{length, get_or, take, drop, replicate}
use Rattle.checksum.specs.Bytes.{Bytes}
use Rattle.checksum.specs.Bytes as bytes
use Rattle.message_rules.specs.Body as body
use Rattle.message_rules.specs.Message.{table_write, requests, Valid}
use Rattle.message_rules.specs.declared.TextKind.TheVariants.{Table}
use Rattle.display_rules.specs.State as display
use Rattle.display_rules.specs.State.{starting_cursor, cursor_of}
use Rattle.display_rules.specs.Kept.{Kept, step_kept, kept_after, with_display}
use Rattle.display_rules.specs.Operations.{LentRight}
use Rattle.display_rules.specs.Statements as made
use Rattle.display_rules.specs.Statements.{Made, whole}
use Rattle.display_rules.specs.Texts.{Writes}
use Rattle.display_rules.specs.declared.Display.{Display}
use Rattle.display_rules.specs.declared.FragmentCursor.{FragmentCursor}
use Rattle.display_rules.specs.declared.TextState.{TextState}
use Rattle.display_rules.proofs.Operations.{lent-well}
use Rattle.display_rules.proofs.Reading.{read_back}
use Rattle.display_rules.proofs.Refuted.{write, write_valid, write_bytes}
use Rattle.display_rules.proofs.Tables.{writes_go_in}
use Rattle.display_rules.proofs.Texts.{write_numbers}
use Rattle.transfer_rules.specs.declared.State.TheVariants.{Done}
use Rattle.transfer_rules.specs.Exchange.{rules, start, after_all}
use Rattle.transfer_rules.specs.Demand3.{start_of}
use Rattle.set_all_rules.specs.SetAll.{call_answer, set_all, display_set_all}
use Rattle.set_all_rules.specs.Statements.{SetAllRule}
use Rattle.set_all_rules.proofs.Messages.{lent_to, lent-to}
use Rattle.conformance.specs.Conformance.{held}
use Rattle.conformance.specs.BothEnds.{Between, Ready, setup_of}
use Rattle.conformance.specs.SetAll.{SetAllBetween}
use Rattle.conformance.proofs.BothEnds.{both_ends}
use Rattle.conformance.proofs.Undisturbed.{undisturbed}

abbrev out : List ℕ
out = replicate 38 0

-- ---- writes to the table, at offset 0, of at most one byte

module _ (s : List ℕ) (few : length s ≤ 1) (small : Bytes s) where
  valid : Valid requests (table_write 0xF4 0 s)
  valid = write_valid s (omega (arith, few)) small

  -- a display lent right, after such a write: it is made, its table is the data, and nothing was sent of it
  module _ (k : Kept) (m : Made step_kept k.display) (w : LentRight k out) where
    made_after : Made step_kept (step_kept k (write s) out).display
    made_after = made.stepped k m (write s) out (write_bytes s valid)

    wrote : Writes k out 0xF4 0 s (step_kept k (write s) out)
    wrote = write_numbers k (write s) out 0xF4 0 s w (read_back (table_write 0xF4 0 s) valid)

    accepted : (step_kept k (write s) out).answer ≡ 0
    accepted = wrote.otherwise refl (omega arith) (omega (arith, few))

    holds : whole Table (kept_after k (step_kept k (write s) out)) ≡ s
    holds = (writes_go_in k (write s) out 0 s m (lent-well k out w) (read_back (table_write 0xF4 0 s) valid) (omega arith) (omega (arith, few))).1

    unsent-after : cursor_of Table (step_kept k (write s) out).display ≡ starting_cursor
    unsent-after = (writes_go_in k (write s) out 0 s m (lent-well k out w) (read_back (table_write 0xF4 0 s) valid) (omega arith) (omega (arith, few))).2

-- ---- a call that sets what it should, and empties the table

abbrev empties : SetAllRule
empties d codes values answers =
    let left = display_set_all d codes values answers in
    record { changed = record { display = (step_kept (lent_to left.changed.display) (write []) out).display; answer = left.changed.answer }; answers = left.answers }

-- ---- a display with a table of one byte, 7, and what the call leaves of it

abbrev started : Display
started = (display.start (record { status = 0; horizontal = 0; vertical = 0 }) 0 1).display

is_made : Made step_kept started
is_made = made.started (record { status = 0; horizontal = 0; vertical = 0 }) 0 1

seven : Bytes (7 ∷ [])
seven = bytes.more {b = 7} (omega arith) bytes.none

abbrev one : Kept
one = kept_after (lent_to started) (step_kept (lent_to started) (write (7 ∷ [])) out)

one_made : Made step_kept one.display
one_made = made_after (7 ∷ []) (omega arith) seven (lent_to started) is_made (lent-to started)

one_lent : LentRight one out
one_lent =
    let w = wrote (7 ∷ []) (omega arith) seven (lent_to started) is_made (lent-to started) in
    record {
      text = (lent-to started).text ∙ sym (ap (λ (t : TextState). t.len) w.capabilities);
      table = w.buffer ∙ (lent-to started).table;
      output = (lent-to started).output;
    }

one_holds : whole Table one ≡ 7 ∷ []
one_holds = holds (7 ∷ []) (omega arith) seven (lent_to started) is_made (lent-to started)

abbrev none : Kept
none = with_display one (step_kept (lent_to one.display) (write []) out).display

none_wrote : Writes (lent_to one.display) out 0xF4 0 [] (step_kept (lent_to one.display) (write []) out)
none_wrote = wrote [] (omega arith) bytes.none (lent_to one.display) one_made (lent-to one.display)

none_lent : LentRight none out
none_lent = record { text = one_lent.text ∙ sym (ap (λ (t : TextState). t.len) none_wrote.capabilities); table = one_lent.table; output = one_lent.output }

none-holds : whole Table none ≡ []
none-holds = ap (λ (n : ℕ). take n one.table) (none_wrote.anew (accepted [] (omega arith) bytes.none (lent_to one.display) one_made (lent-to one.display)) refl)

-- of neither was anything sent
same-cursor : cursor_of Table none.display ≡ cursor_of Table one.display
same-cursor =
    unsent-after [] (omega arith) bytes.none (lent_to one.display) one_made (lent-to one.display)
    ∙ sym (unsent-after (7 ∷ []) (omega arith) seven (lent_to started) is_made (lent-to started))

-- ---- a gate with room for one byte

abbrev room : List ℕ
room = 9 ∷ []

one_ready : Ready step_kept Table one out room 1
one_ready = record {
  is_made = one_made;
  sizes = lent-well one out one_lent;
  bytes = subst Bytes (sym one_holds) seven;
  fits = omega (arith, ap length one_holds);
  allowed = omega arith;
}

none_ready : Ready step_kept Table none out room 1
none_ready = record {
  is_made = made_after [] (omega arith) bytes.none (lent_to one.display) one_made (lent-to one.display);
  sizes = lent-well none out none_lent;
  bytes = subst Bytes (sym none-holds) bytes.none;
  fits = omega (arith, ap length none-holds);
  allowed = omega arith;
}

-- it reads the emptied table whole; from the display before the call that is no list of exchanges
pub empties_refuted : SetAllBetween step_kept empties → ⊥
unfolding set_all call_answer
empties_refuted h =
    let r = undisturbed Table none out out room 1 none_ready none_lent.output (omega (arith, ap length none-holds)) in
    let es = r.exchanges in
    let before : Between rules step_kept Table one (start_of rules (setup_of Table none room 1)) es 0 =
    h rules Table one [] [] [] out one_lent bytes.none body.none (start_of rules (setup_of Table none room 1)) es 0 r.between in
    let here : Between rules step_kept Table one (start_of rules (setup_of Table one room 1)) es 0 =
    subst (λ (c : FragmentCursor). Between rules step_kept Table one (start rules Table room 1 (held c)) es 0) same-cursor before in
    let done : (after_all rules (start_of rules (setup_of Table one room 1)) es).transfer.state ≡ Done =
    subst (λ (c : FragmentCursor). (after_all rules (start rules Table room 1 (held c)) es).transfer.state ≡ Done) same-cursor r.is_done in
    let kept : (after_all rules (start_of rules (setup_of Table one room 1)) es).buffer ≡ room =
    subst (λ (c : FragmentCursor). (after_all rules (start rules Table room 1 (held c)) es).buffer ≡ room) same-cursor
    (r.holds ∙ ap (λ (t : List ℕ). t ++ drop (length t) room) none-holds) in
    let read = ((both_ends Table one out room 1 one_ready es 0 here).2.done done).2 in
    let e : ◌≡◌ {A = ℕ} 9 7 = ap (λ (t : List ℕ). get_or t 0 0) (sym kept ∙ read ∙ ap (λ (t : List ℕ). t ++ drop (length t) room) one_holds) in
    omega arith
